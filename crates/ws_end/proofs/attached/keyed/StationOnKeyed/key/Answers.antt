use Rattle.ws_end.proofs.Common.{Option, Result, KeyFault, subst}
use Rattle.ws_keys.specs.declared.answer.Answer.{Answer}
use Rattle.ws_end.specs.attached.Requests.{HasDoneKey, key_judged}
use Rattle.ws_end.specs.station.Displays.{on_display}
use Rattle.ws_end.proofs.EndRequests.{key_judges}
use Rattle.ws_end.proofs.attached.keyed.StationOnKeyed.key.Goals as goal

pub returns : goal.returns
returns g c =
    let judged = key_judged (on_display g.D.Commands.Code.rules g.D.StationDisplay.does) c.args.key in
    subst (λ (gave : Result (Option Answer) KeyFault). HasDoneKey judged c.args.self.now c.key.new.self gave)
    {x = c.key.result} (cc) (key_judges g.D.Commands.Code.rules g.D.StationDisplay.does
    g.met.D.StationDisplay.spells c.args.self.now c.key.new.self c.args.key c.key.result c.key.ensures.keyed
    c.key.ensures.failed c.key.ensures.full c.key.ensures.same)
