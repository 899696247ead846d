use Rattle.std.proofs.Common.{◌∙◌}
use Rattle.ws_end.proofs.station.StationSteps.{answered}
use Rattle.ws_end.proofs.station.reactions.AtStationReacts.telnet.Goals as goal

pub returns-clause-reacted : goal.returns-clause-reacted
returns-clause-reacted g c = rw (← c.self.view_is, c.answer.ensures.table) (λ items state h. answered
    g.D.StationDisplay.does _ items state h c.args.token.now c.reply.result
    (c.reply.ensures.written c.self.inside.display ∙ c.answer.ensures.reply))
