use Rattle.std.specs.Str.Lines.{lines}
use Rattle.std.proofs.Common.{◌≡◌, ◌∷◌, ◌-◌, drop, ap, arith, inr}
use Rattle.ws_script.proofs.cause.cause_lines.cause_in_block.Goals as goal

pub returns-then-number-lt2 : goal.returns-then-number-lt2
returns-then-number-lt2 c =
    let first : c.args.number - 1 ≡ 0 = omega (arith, c.if-number-lt2.true) in
    inr (
      c.args.line.now,
      lines c.args.inside.now,
      ap (λ n. drop n (c.args.line.now ∷ lines c.args.inside.now)) first,
      c.cause_of.ensures,
    )
