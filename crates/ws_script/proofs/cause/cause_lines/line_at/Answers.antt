use Rattle.std.specs.Str.Lines.{lines}
use Rattle.std.proofs.Common.{◌≡◌, ◌+◌, ◌-◌, suc, drop, ap, ◌∙◌, arith}
use Rattle.ws_script.proofs.CauseTexts.{drop_next}
use Rattle.ws_script.proofs.cause.cause_lines.line_at.Goals as goal

pub loop-preserved : goal.loop-preserved
loop-preserved c =
    let next : c.loop.counter + 1 ≡ suc c.loop.counter = omega arith in
    ap (λ n. drop n (lines c.args.text.now)) next ∙ drop_next c.loop.counter (lines c.args.text.now)
    c.first_line.result.0.now (lines c.first_line.result.1.now) (c.loop.invariant ∙ c.first_line.ensures.line)

pub returns-else-is_empty-2 : goal.returns-else-is_empty-2
returns-else-is_empty-2 c =
    let at : c.args.number - 1 ≡ c.loop.counter = omega (
      arith,
      c.loop-test.false,
      c.loop.auto.counter-end,
      c.saturating_sub-end.ensures,
    ) in (
      lines c.first_line-else-is_empty-2.result.1.now,
      ap (λ n. drop n (lines c.args.text.now)) at
          ∙ (c.loop.invariant ∙ c.first_line-else-is_empty-2.ensures.line),
    )
