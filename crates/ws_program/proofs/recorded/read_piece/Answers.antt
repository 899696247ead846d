use Rattle.std.specs.List.{position_or_len}
use Rattle.std.proofs.Common.{◌≤◌, ◌∙◌, ℕ, not, length, take, drop, sym, ap, subst, arith, length-take}
use Rattle.std.proofs.lemmas.List.Sums.{prefix_len-le-length}
use Rattle.ws_program.proofs.Recordings.{is_other, front_digits, timeless, wordless, hexless, pieced}
use Rattle.ws_program.proofs.recorded.read_piece.Goals as goal

pub split_at-requires : goal.split_at-requires
split_at-requires c = subst (λ (n : ℕ). n ≤ length c.args.line.now) (sym c.digit_count-digits.ensures)
    (prefix_len-le-length (λ b. not (is_other b)) c.args.line.now)

pub returns-in_err-piece : goal.returns-in_err-piece
returns-in_err-piece c =
    let line = c.args.line.now in
    rw c.from_residual.ensures
    (wordless line c.split_at.result.1.now (c.split_at.ensures.back ∙ ap (λ n. drop n line) c.digit_count-digits.ensures)
    c.in_err-piece.ensures)

pub returns-then-digits-eq0 : goal.returns-then-digits-eq0
returns-then-digits-eq0 c = timeless c.args.line.now (sym c.digit_count-digits.ensures ∙ c.if-digits-eq0.true)

pub returns-else-is_hex : goal.returns-else-is_hex
returns-else-is_hex c =
    let line = c.args.line.now in
    let piece = c.in_ok-piece.piece in
    hexless line c.split_at.result.1.now piece.hex.now piece.sender
    (c.split_at.ensures.back ∙ ap (λ n. drop n line) c.digit_count-digits.ensures) c.in_ok-piece.ensures
    (c.is_hex.ensures.no c.if-is_hex.false)

pub returns-then-is_hex : goal.returns-then-is_hex
returns-then-is_hex c =
    let line = c.args.line.now in
    let piece = c.in_ok-piece.piece in
    let at = position_or_len is_other line in (
      take at line,
      (
        omega (
          arith,
          length-take at line,
          prefix_len-le-length (λ b. not (is_other b)) line,
          c.digit_count-digits.ensures,
          c.if-digits-eq0.false,
        ),
        front_digits line,
      ),
      pieced line c.split_at.result.1.now piece.hex.now piece.sender
          (c.split_at.ensures.back ∙ ap (λ n. drop n line) c.digit_count-digits.ensures) c.in_ok-piece.ensures,
      c.is_hex.ensures.yes c.if-is_hex.true,
    )
