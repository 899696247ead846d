use Rattle.std.proofs.Common.{sym, refl, ◌∙◌, subst}
use Rattle.ws_end.specs.station.Displays.{on_display}
use Rattle.ws_end.specs.station.Stations.{StationOf, station_driving}
use Rattle.ws_c.specs.Calls.{returned}
use Rattle.ws_c.specs.HeldEnds.{waiting}
use Rattle.ws_c.specs.Strokes.{AreStruck, keyed_among, keys_of_stroke}
use Rattle.ws_c.proofs.HeldLaws.{nothing_waits, something_waits}
use Rattle.ws_c.proofs.station_strokes.press_held.Goals as goal

pub returns-then-is_empty : goal.returns-then-is_empty
returns-then-is_empty g c =
    let kind = on_display g.D.Commands.Code.rules g.D.StationDisplay.does in
    let held = c.args.held.now in
    let struck = c.press_stroke-status in
    let none = nothing_waits c.rest.result.now (waiting (station_driving kind) held) c.rest.ensures.rest
    (sym c.is_empty.ensures ∙ c.if-is_empty.true) in
    record {
      waits = λ some. absurd (some none);
      pressed = λ _. (
        subst (λ (s : StationOf kind). AreStruck (keyed_among kind g.D.TakesKeys.among)
            (keys_of_stroke c.args.stroke (kind.does.shown held.end.reacts.screen))
            (returned struck.result struck.new.told) held.end s) (sym c.keep_nothing.ensures.end) struck.ensures,
        c.keep_nothing.ensures.none,
      );
    }

pub returns : goal.returns
returns g c =
    let kind = on_display g.D.Commands.Code.rules g.D.StationDisplay.does in
    let some = something_waits c.rest.result.now (waiting (station_driving kind) c.args.held.now) c.rest.ensures.rest
    (sym c.is_empty.ensures ∙ c.if-is_empty.false) in
    record { waits = λ _. (refl, refl, c.requires); pressed = λ none. absurd (some none) }
