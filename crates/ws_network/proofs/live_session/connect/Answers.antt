use Rattle.std.specs.Option.{option_map}
use Rattle.std.proofs.Common.{Bool, Option, false, true, subst, sym}
use Rattle.std.proofs.lemmas.Result.{IfOk-weaker}
use Rattle.std.specs.Result.{IfOk}
use Rattle.ws_end.specs.station.StationTransitions.{new_state_on}
use Rattle.ws_entry.specs.Following.{on_entry}
use Rattle.ws_identity.specs.Environ.{new_environ}
use Rattle.ws_identity.specs.declared.identity.Identity.{Identity}
use Rattle.ws_lasting.specs.Footings.{StandsAt}
use Rattle.ws_lasting.specs.Lasting.{new_footing}
use Rattle.ws_printing.specs.Printouts.{printout}
use Rattle.ws_network.specs.Sessions.{HasConnectedAs}
use Rattle.ws_network.proofs.live_session.connect.Goals as goal

pub returns-then-asked-clause-ran : goal.returns-then-asked-clause-ran
returns-then-asked-clause-ran g c =
    let out = printout g.O.Sink.writer c.args.out.now.sink c.connect_on.new.out.sink in
    let station = c.entry_station-station.result in
    let new = c.entry_station-station.ensures in
    let stands = subst (λ (identity : Option Identity). StandsAt on_entry station
    (new_footing (new_state_on on_entry.does c.args.asked.terminal) (option_map new_environ identity)))
    c.take-identity.ensures.value new.stands in
    subst (λ (extended : Bool). IfOk c.connect_on.result (HasConnectedAs out extended c.args.asked))
    (sym c.if-asked.true)
    (IfOk-weaker c.connect_on.result _ (HasConnectedAs out true c.args.asked)
    (λ well ran. (station, stands, new.counts, new.taken, ran)) c.connect_on.ensures.ran)

pub returns-else-asked-clause-ran : goal.returns-else-asked-clause-ran
returns-else-asked-clause-ran g c =
    let out = printout g.O.Sink.writer c.args.out.now.sink c.connect_on-else-asked.new.out.sink in
    subst (λ (extended : Bool). IfOk c.connect_on-else-asked.result (HasConnectedAs out extended c.args.asked))
    (sym c.if-asked.false)
    (IfOk-weaker c.connect_on-else-asked.result _ (HasConnectedAs out false c.args.asked)
    (λ well ran. (c.new-station.result, c.new-station.ensures.reached, ran)) c.connect_on-else-asked.ensures.ran)
