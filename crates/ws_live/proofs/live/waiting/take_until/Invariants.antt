use Rattle.std.specs.List.{flat_map}
use Rattle.std.specs.Prelude.{Option}
use Rattle.std.proofs.Common.{◌≡◌, ◌++◌, List, length, false}
use Rattle.ws_code.specs.Device.{on_devices}
use Rattle.ws_text.specs.Printing.{Prints}
use Rattle.ws_printing.specs.declared.place_and_reason.PlaceAndReason.{PlaceAndReason}
use Rattle.ws_live.specs.live.ConnectText.{HasWaited, IsMet, StationAndAhead, none_refused, record_text}
use Rattle.ws_live.specs.live.Operating.{live_station}
use Rattle.ws_live.proofs.live.waiting.take_until.Given as goal

-- the records so far, before each of which it wasn't met, go before those that come
abbrev pub invariant-loop : goal.invariant-loop
invariant-loop g l =
    let at = live_station g.E.End.behaviour g.E.Keyed.keyed g.E.LiveStation.typing g.E.LiveStation.seen
    g.E.Display.StationDisplay.does.shown g.E.Display.OperatedDisplay.operated g.E.Named.NamedKey.words in
    let on = on_devices g.K.Sink.writer g.S.Source.reader in
    (records : List (Option PlaceAndReason))
    × ((more : List (Option PlaceAndReason)) (to : StationAndAhead at on)
    → HasWaited at on (IsMet at l.awaited) (l.attached, l.ahead) more to
    → HasWaited at on (IsMet at l.awaited) (l.fn.attached, l.fn.ahead) (records ++ more) to)
    × (length records ≡ l.counter) × (l.well ≡ none_refused records)
    × Prints g.O.Sink.writer l.fn.out l.out l.fn.output l.output (flat_map record_text records)
    × (l.attached.broken ≡ false)
