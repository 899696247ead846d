use Rattle.ws_end.proofs.Common.{◌≡◌, List, [], ◌++◌, ℕ, false, Gave, all_came, HaveLed}
use Rattle.ws_code.specs.Device.{on_devices}
use Rattle.ws_end.proofs.attached.Attached.listen.Given as goal

-- all bytes that were read have been taken, and nothing was told
abbrev pub invariant-loop : goal.invariant-loop
invariant-loop g l = (bytes : List ℕ) × (given : List ℕ)
    × HaveLed g.E.End.behaviour (on_devices g.K.Sink.writer g.S.Source.reader)
    l.fn.self l.self (all_came bytes) [] × (l.fn.self.waiting ++ given ≡ bytes) × (l.self.waiting ≡ [])
    × (l.self.broken ≡ false) × Gave g.S.Source.reader l.fn.self.source l.self.source l.counter given
