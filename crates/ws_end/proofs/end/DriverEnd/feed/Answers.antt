use Rattle.ws_end.specs.driver.Driven.{driving}
use Rattle.ws_end.proofs.driver.DriverBehaviours.{takes_some}
use Rattle.ws_end.proofs.end.DriverEnd.feed.Goals as goal

pub returns : goal.returns
returns g c = takes_some (driving g.R.Body.Code.rules g.R.Collector.Keep.keeper g.R.Reacts.does) c.args.self.now
    c.args.piece.now c.requires c.feed.new.self c.feed.result c.feed.ensures
