use Rattle.std.proofs.Common.{List, ℕ, subst}
use Rattle.ws_script.specs.lines.ConnectLines.{IsCellCount}
use Rattle.ws_script.proofs.StrokeWords.{one_rest}
use Rattle.ws_script.proofs.lines.report_words.read_span.Goals as goal

pub returns-in_default : goal.returns-in_default
returns-in_default c = λ span m. c.in_default.ensures span.at m.0 m.1

pub returns-in_default-read_count : goal.returns-in_default-read_count
returns-in_default-read_count c = λ span m. c.in_default-read_count.ensures span.count
    (subst (λ (z : List ℕ). IsCellCount z span.count) (one_rest c.args.words.now span.at _ m.0 _ m.1 c.in-Some.ensures)
    m.2)
