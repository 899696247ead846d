use Rattle.std.proofs.Common.{◌≤◌, ◌∙◌, ℕ, not, length, take, sym, ap, subst}
use Rattle.std.proofs.lemmas.List.Sums.{prefix_len-le-length}
use Rattle.ws_program.specs.Recorded.{IsPieceLine}
use Rattle.ws_program.specs.Traced.{number_with}
use Rattle.ws_program.proofs.Recordings.{is_other, line_parts}
use Rattle.ws_program.proofs.traced.timed_piece.Goals as goal

pub split_at-requires : goal.split_at-requires
split_at-requires c = subst (λ (n : ℕ). n ≤ length c.args.line.now) (sym c.digit_count.ensures)
    (prefix_len-le-length (λ b. not (is_other b)) c.args.line.now)

pub returns-clause-piece : goal.returns-clause-piece
returns-clause-piece c =
    let line = c.args.line.now in
    let found = c.in-Some.found in
    let got = c.in-Some.ensures in
    let is : IsPieceLine line found.sender c.in-Ok.bytes.items = record {
      milliseconds = got.0;
      hex = found.hex.now;
      time = got.1;
      said = got.2;
      spelled = c.in-Ok.ensures.ok;
    } in record {
      sender = found.sender;
      said = is;
      milliseconds = c.number_of.ensures ∙ ap (number_with 0) (c.split_at.ensures.front
          ∙ ap (λ n. take n line) c.digit_count.ensures ∙ (line_parts line found.sender c.in-Ok.bytes.items is).0);
      is_sender = c.traced_end.ensures;
    }
