use Rattle.std.specs.Prelude.{replicate}
use Rattle.std.proofs.Common.{◌≡◌, ◌++◌, ◌-◌, ◌+◌, drop, false}
use Rattle.ws_code.specs.Device.{on_devices}
use Rattle.ws_script.specs.lines.Stroking.{keys_behind}
use Rattle.ws_live.specs.live.Operating.{live_station}
use Rattle.ws_live.proofs.StrokeRuns.{ComeToAll, run_keys}
use Rattle.ws_live.proofs.live.pressing.press_stroke.Given as goal

abbrev pub invariant-loop-run : goal.invariant-loop-run
invariant-loop-run g l =
    let at = live_station g.E.End.behaviour g.E.Keyed.keyed g.E.LiveStation.typing g.E.LiveStation.seen
    g.E.Display.StationDisplay.does.shown g.E.Display.OperatedDisplay.operated g.E.Named.NamedKey.words in
    ComeToAll at (on_devices g.K.Sink.writer g.S.Source.reader) l.stroke l.fn.attached
    (run_keys at.words.profile (keys_behind l.stroke) (drop l.run-index l.run-items)) l.attached
    × (l.attached.broken ≡ false)

abbrev pub invariant-loop : goal.invariant-loop
invariant-loop g l =
    let at = live_station g.E.End.behaviour g.E.Keyed.keyed g.E.LiveStation.typing g.E.LiveStation.seen
    g.E.Display.StationDisplay.does.shown g.E.Display.OperatedDisplay.operated g.E.Named.NamedKey.words in
    ComeToAll at (on_devices g.K.Sink.writer g.S.Source.reader) l.stroke l.fn.attached
    (replicate (l.end - l.counter) l.key
    ++ run_keys at.words.profile (keys_behind l.stroke) (drop (l.run-index + 1) l.run-items)) l.attached
    × (l.attached.broken ≡ false)

abbrev pub invariant-loop-key : goal.invariant-loop-key
invariant-loop-key g l =
    let at = live_station g.E.End.behaviour g.E.Keyed.keyed g.E.LiveStation.typing g.E.LiveStation.seen
    g.E.Display.StationDisplay.does.shown g.E.Display.OperatedDisplay.operated g.E.Named.NamedKey.words in
    ComeToAll at (on_devices g.K.Sink.writer g.S.Source.reader) l.stroke l.fn.attached
    (drop l.key-index l.key-items) l.attached × (l.attached.broken ≡ false)
