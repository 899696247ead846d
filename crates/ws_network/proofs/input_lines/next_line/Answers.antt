use Rattle.std.specs.Str.Lines.{lines}
use Rattle.std.proofs.Common.{◌∷◌, List, ℕ, inr, refl, sym, subst, ◌∙◌}
use Rattle.ws_script.specs.cause.Causes.{IsCauseAt}
use Rattle.ws_script.specs.lines.LiveScript.{IsBlockFault}
use Rattle.ws_network.proofs.input_lines.next_line.Goals as goal

pub returns-then-ready-clause-line : goal.returns-then-ready-clause-line
returns-then-ready-clause-line g c =
    let line = c.without_end-line.result.now in
    let inside = lines c.as_slice-2.result.now in
    let told = subst (IsBlockFault g.L.LiveLine.language line inside)
    c.in-Err-Line.field-0-is c.in-Err-Line.ensures.fault in
    let why = c.cause_in_block-why.result in
    let same = c.as_slice-in-Err-Line.ensures.value ∙ sym c.as_slice-2.ensures.value in (
    inr (
      c.if-ready.true,
      (
        c.in-Ok-cause_text.cause,
        c.bad.ensures,
        (
          c.in-Err-Line.at,
          (
            line,
            inside,
            told,
            (
              why,
              subst (λ (bytes : List ℕ). IsCauseAt c.args.vocabulary (line ∷ lines bytes) c.in-Err-Line.at why) same
                  c.cause_in_block-why.ensures,
              c.in-Ok-cause_text.ensures,
            ),
          ),
        ),
      ),
    )
    )

pub returns-clause-fault : goal.returns-clause-fault
returns-clause-fault g c = inr (
  c.if-ready.false,
  (c.saturating_add-number.result, c.in-Ok-cause_text.cause, refl),
)
