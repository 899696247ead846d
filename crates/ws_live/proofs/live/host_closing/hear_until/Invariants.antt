use Rattle.std.proofs.Common.{◌≡◌, false}
use Rattle.ws_code.specs.Device.{on_devices}
use Rattle.ws_live.specs.live.Watches.{watched_devices}
use Rattle.ws_live.proofs.Hearings.{HaveCome}
use Rattle.ws_live.proofs.live.host_closing.hear_until.Given as goal

-- what was told and printed so far, none of which is what is awaited
abbrev pub invariant-loop : goal.invariant-loop
invariant-loop g l = HaveCome g.E.End.behaviour g.E.HeardEnd.prints
    (watched_devices (on_devices g.K.Sink.writer g.S.Source.reader) g.W.Watch.tells) (g.E.HeardEnd.meets l.awaited)
    g.O.Sink.writer l.fn.attached l.counter l.attached l.fn.out l.out l.fn.output l.output
    × (l.attached.broken ≡ false)
