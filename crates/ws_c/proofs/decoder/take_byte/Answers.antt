use Rattle.std.proofs.Common.{[], ◌∷◌, List, ℕ, refl, sym, ap, ◌∙◌, arith, lit≤}
use Rattle.std.proofs.lemmas.List.{append-nil}
use Rattle.ws_record.specs.declared.live.Step.TheVariants.{More, Unit as Whole}
use Rattle.ws_c.specs.Calls.{holds_front}
use Rattle.ws_c.proofs.decoder.take_byte.Goals as goal

pub returns-in-More-clause-none : goal.returns-in-More-clause-none
returns-in-More-clause-none g c =
    let p = c.in-More.ensures in (
      [],
      (More, record { pushed = p.step; full = p.full; failed = p.failed; after = p.after }, refl),
      omega arith,
      lit≤ tt,
      λ front before _ e. e ∙ ap (λ (l : List ℕ). holds_front l before) (sym (append-nil front)),
    )

pub returns-in-Some-clause-none : goal.returns-in-Some-clause-none
returns-in-Some-clause-none g c =
    let p = c.in-Unit.ensures in
    let cell = c.in-Some.cell in (
      cell ∷ [],
      (
        Whole c.in-Unit.unit,
        record { pushed = p.step; full = p.full; failed = p.failed; after = p.after },
        (cell, sym c.byte_put.ensures ∙ c.in-Some.is, refl),
      ),
      omega arith,
      lit≤ tt,
      c.put_behind.ensures,
    )
