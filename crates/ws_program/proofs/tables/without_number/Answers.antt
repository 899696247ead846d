use Rattle.std.specs.Prelude.{not}
use Rattle.std.proofs.Common.{◌≤◌, ℕ, length, sym, subst}
use Rattle.std.proofs.lemmas.List.Sums.{prefix_len-le-length}
use Rattle.ws_program.proofs.Recordings.{is_other}
use Rattle.ws_program.proofs.tables.without_number.Goals as goal

pub split_at-requires : goal.split_at-requires
split_at-requires c = subst (λ (n : ℕ). n ≤ length c.args.text.now) (sym c.digit_count.ensures)
    (prefix_len-le-length (λ b. not (is_other b)) c.args.text.now)
