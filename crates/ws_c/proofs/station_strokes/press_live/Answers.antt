use Rattle.std.proofs.Common.{sym, refl, ◌∙◌, subst, ap}
use Rattle.ws_c.specs.Calls.{returned}
use Rattle.ws_c.specs.LiveParts.{HeldLive, LiveParts, left_live, live_screen}
use Rattle.ws_c.specs.LiveStations.{is_live_keyed}
use Rattle.ws_c.specs.Strokes.{AreStruck, keys_of_stroke}
use Rattle.ws_c.proofs.HeldLaws.{nothing_waits, something_waits}
use Rattle.ws_c.proofs.station_strokes.press_live.Goals as goal

pub returns-then-not-is_empty : goal.returns-then-not-is_empty
returns-then-not-is_empty c =
    let some = something_waits c.rest.result.now (left_live c.args.held.now) c.rest.ensures.rest
    (sym c.is_empty.ensures ∙ c.if-not-is_empty.true) in
    record { waits = λ _. (refl, refl, c.requires); pressed = λ none. absurd (some none) }

pub returns : goal.returns
returns c =
    let held = c.args.held.now in
    let struck = c.press_stroke-status in
    let none = nothing_waits c.rest.result.now (left_live held) c.rest.ensures.rest
    (sym c.is_empty.ensures ∙ c.if-not-is_empty.false) in
    record {
      waits = λ some. absurd (some none);
      pressed = λ _. (
        subst (λ (s : LiveParts). AreStruck is_live_keyed (keys_of_stroke c.args.stroke (live_screen held.end))
            (returned struck.result struck.new.told) held.end s)
            (sym (ap (λ (h : HeldLive). h.end) c.forget.ensures)) struck.ensures,
        ap (λ (h : HeldLive). h.reply) c.forget.ensures,
      );
    }
