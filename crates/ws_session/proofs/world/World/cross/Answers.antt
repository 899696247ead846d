use Rattle.ws_session.proofs.Common.{[], refl, ◌∙◌, ap, on_ok_weaker, WireParts, WorldParts}
use Rattle.ws_session.specs.contracts.world.World.{the_view}
use Rattle.ws_session.proofs.world.Crossed.{kept}
use Rattle.ws_session.proofs.world.World.cross.Goals as goal

pub returns-in-ToStation-clause-crossed : goal.returns-in-ToStation-clause-crossed
returns-in-ToStation-clause-crossed g c =
    let old = the_view c.self.inside in
    let new : WireParts → WorldParts = λ z. record old { down = z.bytes; at_station = z.at } in
    rw (← c.self.view_is) (on_ok_weaker c.cross.result (λ q. (
      q.0,
      [],
      q.1,
      refl,
      rw c.in-ToStation.is q.2,
      rw c.in-ToStation.is refl,
      (λ f h. ap new (q.3 ∙ kept c.self.inside.down _ q.0 q.2 f)),
    )) c.cross.ensures.crossed)

pub returns-in-ToHost-clause-crossed : goal.returns-in-ToHost-clause-crossed
returns-in-ToHost-clause-crossed g c =
    let old = the_view c.self.inside in
    let new : WireParts → WorldParts = λ z. record old { up = z.bytes; at_host = z.at } in
    rw (← c.self.view_is) (on_ok_weaker c.cross-in-ToHost.result (λ q. (
      [],
      q.0,
      refl,
      q.1,
      rw c.in-ToHost.is refl,
      rw c.in-ToHost.is q.2,
      (λ f h. ap new (q.3 ∙ kept c.self.inside.up _ q.0 q.2 h)),
    )) c.cross-in-ToHost.ensures.crossed)

pub returns-in-Send-clause-crossed : goal.returns-in-Send-clause-crossed
returns-in-Send-clause-crossed g c =
    ([], [], refl, refl, rw c.in-Send.is refl, rw c.in-Send.is refl, (λ f h. refl))

pub returns-in-Cancel-clause-crossed : goal.returns-in-Cancel-clause-crossed
returns-in-Cancel-clause-crossed g c =
    ([], [], refl, refl, rw c.in-Cancel.is refl, rw c.in-Cancel.is refl, (λ f h. refl))

pub returns-in-Key-clause-crossed : goal.returns-in-Key-clause-crossed
returns-in-Key-clause-crossed g c =
    ([], [], refl, refl, rw c.in-Key.is refl, rw c.in-Key.is refl, (λ f h. refl))
