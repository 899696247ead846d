use Rattle.std.proofs.Common.{refl}
use Rattle.ws_end.specs.driver.Driven.{driving}
use Rattle.ws_end.proofs.driver.Drivings.{none_complete}
use Rattle.ws_end.proofs.driver.Driver.react.Goals as goal

pub returns-in-More-clause-taken : goal.returns-in-More-clause-taken
returns-in-More-clause-taken g c =
    none_complete (driving g.R.Body.Code.rules g.R.Collector.Keep.keeper g.R.Reacts.does) c.args.self.now c.args.news
    (record { reply = c.silence.result; event = _ }) c.in-More.is refl (c.silence.ensures c.args.self.now.reacts)
