use Rattle.std.proofs.Common.{sym, refl, ◌∙◌, subst}
use Rattle.ws_end.specs.station.Displays.{on_display}
use Rattle.ws_end.specs.station.Stations.{StationOf, station_driving}
use Rattle.ws_c.specs.Calls.{StationKeyedOn}
use Rattle.ws_c.specs.HeldEnds.{waiting}
use Rattle.ws_c.proofs.HeldLaws.{nothing_waits, something_waits}
use Rattle.ws_c.proofs.station_keys.press_key.Goals as goal

pub returns-then-not-is_empty : goal.returns-then-not-is_empty
returns-then-not-is_empty g c =
    let kind = on_display g.D.Commands.Code.rules g.D.StationDisplay.does in
    let some = something_waits c.rest.result.now (waiting (station_driving kind) c.args.held.now) c.rest.ensures.rest
    (sym c.is_empty.ensures ∙ c.if-not-is_empty.true) in
    record { waits = λ _. (refl, (refl, c.requires.untold, refl)); pressed = λ none. absurd (some none) }

pub returns : goal.returns
returns g c =
    let kind = on_display g.D.Commands.Code.rules g.D.StationDisplay.does in
    let none = nothing_waits c.rest.result.now (waiting (station_driving kind) c.args.held.now) c.rest.ensures.rest
    (sym c.is_empty.ensures ∙ c.if-not-is_empty.false) in
    let k = c.key-keyed.ensures in
    record {
      waits = λ some. absurd (some none);
      pressed = λ _. (
        c.key-keyed.result,
        subst (λ (s : StationOf kind). StationKeyedOn kind c.args.held.now.end s c.args.key c.key-keyed.result)
            (sym c.keep_nothing.ensures.end)
            (record { keyed = k.keyed; full = k.full; failed = k.failed; same = k.same }),
        c.tell_key.ensures,
        c.keep_nothing.ensures.none,
      );
    }
