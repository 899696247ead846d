use Rattle.ws_session.proofs.Common.{ap, on_ok_weaker, WorldParts, WireParts}
use Rattle.ws_session.specs.contracts.world.World.{the_view}
use Rattle.ws_session.proofs.world.World.station_writes.Goals as goal

pub returns-clause-written : goal.returns-clause-written
returns-clause-written c =
    let old = the_view c.self.inside in
    let new : WireParts → WorldParts = λ z. record old { up = z.bytes; at_host = z.at } in
    rw (← c.self.view_is) (on_ok_weaker c.write.result (λ q. ap new q) c.write.ensures.written)
