use Rattle.std.proofs.Common.{inr, subst, sym}
use Rattle.std.proofs.lemmas.Bool.{false≢true}
use Rattle.ws_extended_station.specs.declared.extended_key.ExtendedKey.{ExtendedKey}
use Rattle.ws_entry.specs.Following.{IsPressedWithEnter}
use Rattle.ws_entry.proofs.pressing.press_key.Goals as goal

pub returns-in-Profile-clause-pressed : goal.returns-in-Profile-clause-pressed
returns-in-Profile-clause-pressed c = λ bytes items state reached small.
    let P : ExtendedKey → Type 0 = λ key.
    IsPressedWithEnter c.args.station.now c.press_profile.new.station bytes items state
    (record { key = key; page = c.args.key.page }) c.press_profile.result in
    subst P (sym c.in-Profile.is) (c.press_profile.ensures.pressed bytes items state reached small)

pub returns-in-Reset-clause-pressed : goal.returns-in-Reset-clause-pressed
returns-in-Reset-clause-pressed c = λ bytes items state reached small.
    let P : ExtendedKey → Type 0 = λ key. IsPressedWithEnter c.args.station.now c.key.new.self bytes items state
    (record { key = key; page = c.args.key.page }) c.key.result in
    subst P (sym c.in-Reset.is)
    (inr (λ follows. absurd (false≢true follows), c.key.ensures.keyed bytes items state reached small))
