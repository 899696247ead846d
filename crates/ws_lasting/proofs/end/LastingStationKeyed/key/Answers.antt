use Rattle.ws_lasting.proofs.Keying.{key_judges}
use Rattle.ws_lasting.proofs.end.LastingStationKeyed.key.Goals as goal

pub returns : goal.returns
returns g c = key_judges g.D.Commands.Code.rules g.D.StationDisplay.does c.args.self.now c.key.new.self c.args.key
    c.key.result c.key.ensures.keyed c.key.ensures.acted c.key.ensures.shut c.key.ensures.same
