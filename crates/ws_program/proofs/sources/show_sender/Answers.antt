use Rattle.std.proofs.Common.{sym, subst}
use Rattle.ws_program.proofs.SourceAnswers.{IsSentShown}
use Rattle.ws_program.proofs.sources.show_sender.Goals as goal

pub returns-in-Host : goal.returns-in-Host
returns-in-Host g c =
    let show = c.show_source_to in
    subst (IsSentShown g.R.Source.reader c.args.source.now show.new.source g.S.Sink.writer c.args.sink.now show.new.sink
    c.args.look show.result) (sym c.in-Host.is) show.ensures

pub returns-in-ExtendedHost : goal.returns-in-ExtendedHost
returns-in-ExtendedHost g c =
    let show = c.show_source_to-in-ExtendedHost in
    subst (IsSentShown g.R.Source.reader c.args.source.now show.new.source g.S.Sink.writer c.args.sink.now show.new.sink
    c.args.look show.result) (sym c.in-ExtendedHost.is) show.ensures

pub returns-in-Station : goal.returns-in-Station
returns-in-Station g c =
    let show = c.show_source_to-in-Station in
    subst (IsSentShown g.R.Source.reader c.args.source.now show.new.source g.S.Sink.writer c.args.sink.now show.new.sink
    c.args.look show.result) (sym c.in-Station.is) show.ensures

pub returns-in-ExtendedStation : goal.returns-in-ExtendedStation
returns-in-ExtendedStation g c =
    let show = c.show_source_to-in-ExtendedStation in
    subst (IsSentShown g.R.Source.reader c.args.source.now show.new.source g.S.Sink.writer c.args.sink.now show.new.sink
    c.args.look show.result) (sym c.in-ExtendedStation.is) show.ensures
