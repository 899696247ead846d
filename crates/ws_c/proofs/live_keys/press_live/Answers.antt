use Rattle.std.proofs.Common.{sym, refl, ◌∙◌, subst, ap}
use Rattle.ws_c.specs.LiveParts.{HeldLive, LiveParts, left_live}
use Rattle.ws_c.specs.LiveStations.{IsLiveKey}
use Rattle.ws_c.proofs.HeldLaws.{nothing_waits, something_waits}
use Rattle.ws_c.proofs.live_keys.press_live.Goals as goal

pub returns-then-not-is_empty : goal.returns-then-not-is_empty
returns-then-not-is_empty c =
    let some = something_waits c.rest.result.now (left_live c.args.held.now) c.rest.ensures.rest
    (sym c.is_empty.ensures ∙ c.if-not-is_empty.true) in
    record { waits = λ _. (refl, (refl, c.requires.untold, refl)); pressed = λ none. absurd (some none) }

pub returns : goal.returns
returns c =
    let none = nothing_waits c.rest.result.now (left_live c.args.held.now) c.rest.ensures.rest
    (sym c.is_empty.ensures ∙ c.if-not-is_empty.false) in
    let k = c.press_with_enter-keyed in
    record {
      waits = λ some. absurd (some none);
      pressed = λ _. (
        k.result,
        subst (λ (s : LiveParts). IsLiveKey c.args.held.now.end s c.args.key k.result)
            (sym (ap (λ (h : HeldLive). h.end) c.forget.ensures)) k.ensures,
        c.tell_key.ensures,
        ap (λ (h : HeldLive). h.reply) c.forget.ensures,
      );
    }
