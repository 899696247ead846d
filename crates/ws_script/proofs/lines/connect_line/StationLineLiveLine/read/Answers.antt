use Rattle.std.proofs.Common.{refl, sym, ◌∙◌}
use Rattle.ws_script.proofs.ServeWords.{some_text}
use Rattle.ws_script.proofs.lines.connect_line.StationLineLiveLine.read.Goals as goal

pub returns-then-not-is_empty-clause-fault : goal.returns-then-not-is_empty-clause-fault
returns-then-not-is_empty-clause-fault g c =
    (λ read m. some_text c.args.inside.now (sym c.is_empty.ensures ∙ c.if-not-is_empty.true) m.0, refl)
