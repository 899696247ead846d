use Rattle.ws_end.proofs.Common.{[], TerminalType, StationReached, new_station_end}
use Rattle.ws_end.proofs.attached.PlayRuns.{Reading}
use Rattle.ws_end.proofs.attached.run.run_station.Given as goal

abbrev pub invariant-loop : goal.invariant-loop
invariant-loop g l = (t : TerminalType) → StationReached l.fn.station [] [] (new_station_end t)
    → Reading g.R.Source.reader l.fn.source l.source l.counter g.S.Sink.writer t
    l.keys l.fn.sink l.sink l.player
