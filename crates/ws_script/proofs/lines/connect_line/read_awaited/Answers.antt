use Rattle.std.specs.Prelude.{codes}
use Rattle.std.proofs.Common.{◌≢◌, ◌++◌, [], List, ℕ, inr, ap, ◌∙◌, refl, subst}
use Rattle.ws_script.specs.lines.ConnectLines.{IsAwaited, IsSomeText, IsTextPlaced}
use Rattle.ws_script.proofs.StationLines.{awaited_says, awaits, no_wait}
use Rattle.ws_script.proofs.FirstWords.{told_on, unsaid}
use Rattle.ws_script.proofs.StrokeWords.{one_rest}
use Rattle.ws_script.proofs.lines.connect_line.read_awaited.Goals as goal

pub returns-in_err-read_text-in-Some-read_placed-clause-fault : goal.returns-in_err-read_text-in-Some-read_placed-clause-fault
returns-in_err-read_text-in-Some-read_placed-clause-fault c =
    let words = c.args.words.now in
    let kind = c.in-Some.kind.now in
    let rest = c.in-Some.rest.now in
    let cell = c.in-Some-read_placed.placed.0 in
    let text = c.in-Some-read_placed.placed.1.now in
    told_on (IsSomeText text) (IsAwaited words) c.from_residual-in_err-read_text-in-Some-read_placed.result _
    c.from_residual-in_err-read_text-in-Some-read_placed.ensures.1
    (λ none. unsaid awaits (IsAwaited words) words kind rest (codes "at") c.in-Some.ensures.0 c.in-Some.ensures.1 c.in-at.is
    (awaited_says words) (λ (s : IsTextPlaced rest). none text (
      refl,
      subst (λ (z : List ℕ). z ≢ [])
          (one_rest rest s.0 cell s.1 text s.2 c.in-Some-read_placed.ensures) s.3,
    )))
    (λ some. inr (
      rest,
      c.in-Some.ensures.0 ∙ ap (λ z. (z ++ codes " ") ++ rest) c.in-at.is,
      (cell, text, c.in-Some-read_placed.ensures, some),
    ))
    c.in_err-read_text-in-Some-read_placed.ensures.fault

pub returns-in-None-clause-fault : goal.returns-in-None-clause-fault
returns-in-None-clause-fault c = (
  refl,
  unsaid awaits (IsAwaited c.args.words.now) c.args.words.now c.in-Some.kind.now c.in-Some.rest.now (codes "at")
      c.in-Some.ensures.0 c.in-Some.ensures.1 c.in-at.is (awaited_says c.args.words.now)
      (λ (s : IsTextPlaced c.in-Some.rest.now). c.in-None.ensures s.0 s.1 s.2),
)

pub returns-in_default-kind-clause-fault : goal.returns-in_default-kind-clause-fault
returns-in_default-kind-clause-fault c = (
  refl,
  no_wait c.args.words.now c.in-Some.kind.now c.in-Some.rest.now c.in-Some.ensures.0 c.in-Some.ensures.1
      c.in_default-kind.not-text c.in_default-kind.not-at c.in_default-kind.not-quiet,
)
