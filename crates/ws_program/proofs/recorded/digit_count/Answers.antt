use Rattle.std.proofs.Common.{length, not, sym, ap, arith}
use Rattle.std.proofs.lemmas.List.Sums.{position_or_len_is}
use Rattle.ws_program.proofs.Recordings.{is_other}
use Rattle.ws_program.proofs.recorded.digit_count.Goals as goal

pub returns : goal.returns
returns c = sym (position_or_len_is is_other c.args.line.now (length c.args.line.now) 0 (omega arith)
    (λ k below. ap not (c.loop-at.invariant k (omega (arith, c.loop-at-test.false)))) (λ h. absurd (omega (arith, h))))

pub returns-then-not-is_ascii_digit : goal.returns-then-not-is_ascii_digit
returns-then-not-is_ascii_digit c = sym (position_or_len_is is_other c.args.line.now c.loop-at.at 0
    (omega (arith, c.loop-at-test.true)) (λ k below. ap not (c.loop-at.invariant k below))
    (λ h. cc c.is_ascii_digit.ensures.value))
