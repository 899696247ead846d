use Rattle.ws_lasting.proofs.Common.{on_display}
use Rattle.ws_lasting.proofs.Conducting.{takes_some}
use Rattle.ws_lasting.proofs.end.LastingStationEnd.feed.Goals as goal

pub returns : goal.returns
returns g c = takes_some (on_display g.D.Commands.Code.rules g.D.StationDisplay.does) c.args.self.now c.args.piece.now
    c.requires c.feed.new.self c.feed.result c.feed.ensures.within c.feed.ensures.some c.feed.ensures.taken
    c.feed.ensures.first c.feed.ensures.after c.feed.ensures.stopped c.feed.ensures.failed
