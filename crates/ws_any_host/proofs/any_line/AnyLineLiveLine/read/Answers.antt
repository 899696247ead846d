use Rattle.std.specs.Prelude.{min}
use Rattle.std.proofs.Common.{◌+◌, ◌-◌, ◌^◌, refl, sym, ap, ◌∙◌, inl, inr}
use Rattle.ws_script.proofs.ServeWords.{some_text}
use Rattle.ws_any_host.specs.AnyLines.{sent}
use Rattle.ws_any_host.specs.declared.any_line.AnyLine.TheVariants.{Send}
use Rattle.ws_any_host.proofs.AnyWords.{bad_words, no_words}
use Rattle.ws_any_host.proofs.any_line.AnyLineLiveLine.read.Goals as goal

pub returns-in-Ok-clause-line : goal.returns-in-Ok-clause-line
returns-in-Ok-clause-line c =
    let some = some_text c.args.inside.now (sym c.is_empty.ensures ∙ c.if-is_empty.false) in
    inr (
      some,
      (
        c.in-Some.ensures.0,
        c.in-Some.opcode,
        c.in-Ok.body.items,
        c.in-Some.ensures.1,
        c.in-Ok.ensures.body,
        ap (λ r. Send r) c.sent.ensures,
      ),
    )

pub returns-in-Err-Line-clause-fault : goal.returns-in-Err-Line-clause-fault
returns-in-Err-Line-clause-fault c =
    let some = some_text c.args.inside.now (sym c.is_empty.ensures ∙ c.if-is_empty.false) in
    let bad = rw c.in-Err-Line.field-0-is at c.in-Err-Line.ensures.fault in
    bad_words c.args.line.now c.in-Some.ensures.0 _ c.in-Some.opcode c.in-Err-Line.at c.saturating_add.result
    c.in-Some.ensures.1 some bad (rw c.in-Err-Line.field-0-is at c.in-Err-Line.ensures.only) (
      c.in-Err-Line.at,
      bad,
      c.saturating_add.ensures
          ∙ ap (λ n. min (n + 1) (2 ^ 64 - 1)) c.in-Err-Line.at-is,
    )

pub returns-in-Err-Memory-clause-fault : goal.returns-in-Err-Memory-clause-fault
returns-in-Err-Memory-clause-fault c =
    let some = some_text c.args.inside.now (sym c.is_empty.ensures ∙ c.if-is_empty.false) in
    let made = rw c.in-Err-Memory.field-0-is at c.in-Err-Memory.ensures.fault in
    inl (
      Send (sent c.in-Some.opcode _),
      inr (
        some,
        (
          c.in-Some.ensures.0,
          c.in-Some.opcode,
          _,
          c.in-Some.ensures.1,
          (made.0, made.1, refl),
          refl,
        ),
      ),
    )

pub returns-in-None-clause-fault : goal.returns-in-None-clause-fault
returns-in-None-clause-fault c =
    no_words c.args.line.now _ (some_text c.args.inside.now (sym c.is_empty.ensures ∙ c.if-is_empty.false))
    c.in-None.ensures
