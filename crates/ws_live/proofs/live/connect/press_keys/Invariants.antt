use Rattle.std.proofs.Common.{◌≡◌, ℕ, [], List, drop, false}
use Rattle.ws_code.specs.Device.{on_devices}
use Rattle.ws_end.specs.attached.Attachments.{AttachedParts}
use Rattle.ws_text.specs.Printing.{Prints}
use Rattle.ws_live.specs.declared.live.Closing.TheVariants.{Done}
use Rattle.ws_live.specs.live.ConnectText.{KeysRun}
use Rattle.ws_live.specs.live.LiveText.{LineResult}
use Rattle.ws_live.specs.live.Operating.{live_station}
use Rattle.ws_live.proofs.live.connect.press_keys.Given as goal

-- what the keys come to that are left, after what was printed, is what all come to
abbrev pub invariant-loop-key : goal.invariant-loop-key
invariant-loop-key g l =
    let at = live_station g.E.End.behaviour g.E.Keyed.keyed g.E.LiveStation.typing g.E.LiveStation.seen
    g.E.Display.StationDisplay.does.shown g.E.Display.OperatedDisplay.operated g.E.Named.NamedKey.words in
    let on = on_devices g.K.Sink.writer g.S.Source.reader in
    (text : List ℕ) × Prints g.O.Sink.writer l.fn.out l.out l.fn.output l.output text
    × ((came : LineResult) (to : AttachedParts at.Station g.row.S.Denot g.row.K.Denot)
    → KeysRun at on l.line l.closing text (drop l.key-index l.keys) l.attached came to
    → KeysRun at on l.line Done [] l.keys l.fn.attached came to)
    × (l.attached.broken ≡ false)
