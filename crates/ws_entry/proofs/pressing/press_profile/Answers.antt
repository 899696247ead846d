use Rattle.std.proofs.Common.{true, false, ap, inl, inr, sym, ◌∙◌, refl}
use Rattle.std.proofs.lemmas.Bool.{false≢true}
use Rattle.ws_extended_station.specs.declared.extended_key.ExtendedKey.TheVariants.{Profile}
use Rattle.ws_entry.specs.EntryDisplays.{EntryParts}
use Rattle.ws_entry.specs.EntryRules.{is_followed}
use Rattle.ws_entry.proofs.FollowedKeys.{leads}
use Rattle.ws_entry.proofs.pressing.press_profile.Goals as goal

pub returns-then-follows-clause-pressed : goal.returns-then-follows-clause-pressed
returns-then-follows-clause-pressed c = λ bytes items state reached small.
    let keyed = c.in-Ok.ensures.keyed bytes items state reached small in
    let led = leads c.args.station.now c.key.new.self bytes items state
    (record { key = Profile c.args.pressed; page = c.args.page }) c.in-Ok.sent keyed in
    inl (
      ap (λ (d : EntryParts). is_followed d.display.display.screen c.args.pressed) (sym c.display.ensures)
          ∙ sym c.is_followed-follows.ensures ∙ c.if-follows.true,
      (
        c.key.new.self,
        c.in-Ok.sent,
        keyed,
        led.0,
        led.1,
        c.follow.result,
        c.follow.ensures bytes items led.0 led.1 small,
        refl,
      ),
    )

pub returns-else-follows-clause-pressed : goal.returns-else-follows-clause-pressed
returns-else-follows-clause-pressed c = λ bytes items state reached small.
    inr (
      λ follows. absurd (false≢true (sym c.if-follows.false ∙ c.is_followed-follows.ensures
          ∙ ap (λ (d : EntryParts). is_followed d.display.display.screen c.args.pressed) c.display.ensures ∙ follows)),
      c.in-Ok.ensures.keyed bytes items state reached small,
    )

pub returns-in-Err-clause-pressed : goal.returns-in-Err-clause-pressed
returns-in-Err-clause-pressed c = λ bytes items state reached small.
    inr (λ follows. (c.in-Err.fault, refl), c.in-Err.ensures.keyed bytes items state reached small)
