use Rattle.std.specs.Prelude.{None, ◌++◌}
use Rattle.std.proofs.Common.{◌∙◌, List, ℕ, ap, rules}
use Rattle.ws_text.proofs.Prints.{prints_both, prints_same}
use Rattle.ws_json.specs.LineStrings.{string_end}
use Rattle.ws_json.proofs.PassedWrites.{passed_text}
use Rattle.ws_json.proofs.PassedLines.{are_line_strings, string_parts}
use Rattle.ws_json.proofs.line_strings.put_strings.Goals as goal

pub returns : goal.returns
returns g c =
    let text = g.U.Listed.lines_of c.args.units.now in
    let passed = passed_text g.S.Sink.writer _ _ _ text c.put_body.ensures in
    let same_sink = passed.same_sink in
    let end = ap (λ (z : List ℕ). string_parts None text ++ z) (c.string_end.ensures ∙ ap string_end passed.left) in
    let out = prints_same (end ∙ are_line_strings text) (prints_both passed.prints c.put_text.ensures) in
    search rules
