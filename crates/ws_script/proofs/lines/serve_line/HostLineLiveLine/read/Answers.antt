use Rattle.std.specs.Prelude.{min}
use Rattle.std.proofs.Common.{◌+◌, ◌-◌, ◌^◌, refl, sym, ap, ◌∙◌, inl, inr}
use Rattle.ws_text.specs.BodyLines.{new_record}
use Rattle.ws_text.specs.Items.{with_more}
use Rattle.ws_end.specs.declared.end_step.HostRequest.TheVariants.{Send}
use Rattle.ws_script.specs.declared.lines.serve_line.HostLine.TheVariants.{Give}
use Rattle.ws_script.proofs.ServeWords.{some_text, bad_words, no_words}
use Rattle.ws_script.proofs.lines.serve_line.HostLineLiveLine.read.Goals as goal

pub returns-in-Ok-clause-line : goal.returns-in-Ok-clause-line
returns-in-Ok-clause-line c =
    let some = some_text c.args.inside.now (sym c.is_empty.ensures ∙ c.if-is_empty.false) in
    let r = with_more (new_record c.in-Some.opcode) c.in-Ok.body in
    inr (some, (c.in-Some.ensures.0, c.in-Some.opcode, r, c.in-Some.ensures.1, c.in-Ok.ensures.ok, refl))

pub returns-in-Err-Line-clause-fault : goal.returns-in-Err-Line-clause-fault
returns-in-Err-Line-clause-fault c =
    let some = some_text c.args.inside.now (sym c.is_empty.ensures ∙ c.if-is_empty.false) in
    let bad = rw c.in-Err-Line.field-0-is at c.in-Err-Line.ensures.fault in
    bad_words c.args.line.now c.in-Some.ensures.0 _ c.in-Some.opcode c.in-Err-Line.at c.saturating_add.result
    c.in-Some.ensures.1 some bad (rw c.in-Err-Line.field-0-is at c.in-Err-Line.ensures.only) (
      c.in-Err-Line.at,
      bad,
      c.saturating_add.ensures
          ∙ ap (λ n. min (n + 1) (2 ^ 64 - 1)) c.in-Err-Line.at-is,
    )

pub returns-in-Err-Memory-clause-fault : goal.returns-in-Err-Memory-clause-fault
returns-in-Err-Memory-clause-fault c =
    let some = some_text c.args.inside.now (sym c.is_empty.ensures ∙ c.if-is_empty.false) in
    let made = rw c.in-Err-Memory.field-0-is at c.in-Err-Memory.ensures.fault in
    inl (
      Give (Send c.in-Some.opcode made.0.body),
      inr (some, (c.in-Some.ensures.0, c.in-Some.opcode, made.0, c.in-Some.ensures.1, made.1, refl)),
    )

pub returns-in-None-clause-fault : goal.returns-in-None-clause-fault
returns-in-None-clause-fault c =
    no_words c.args.line.now _ (some_text c.args.inside.now (sym c.is_empty.ensures ∙ c.if-is_empty.false))
    c.in-None.ensures
