use Rattle.std.proofs.Common.{◌∙◌, sym}
use Rattle.ws_end.proofs.station.StationSteps.{carried_out}
use Rattle.ws_end.proofs.station.reactions.AtStationReacts.record.Goals as goal

pub returns-in-Ok-clause-reacted : goal.returns-in-Ok-clause-reacted
returns-in-Ok-clause-reacted g c = rw (← c.self.view_is) (λ units chain fits kept items state h. carried_out
    g.D.StationDisplay.does _ items state h c.apply.new.self c.args.head units c.in-Ok.reply _
    c.saturating_add-self-inside.ensures (sym c.records_allowed.ensures ∙ c.if-not-records_allowed.false)
    (c.in-Ok.ensures.applied state units chain (c.as_slice.ensures ∙ kept fits) h.given))
