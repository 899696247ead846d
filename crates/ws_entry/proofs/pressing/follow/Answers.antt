use Rattle.std.proofs.Common.{ℕ, Ok, Err, inl, inr, refl, subst}
use Rattle.ws_keys.specs.declared.key.Key.TheVariants.{Aid}
use Rattle.ws_end.specs.station.Stations.{IsKeyedOn}
use Rattle.ws_extended_station.specs.declared.extended_key.ExtendedKey.TheVariants.{Profile}
use Rattle.ws_entry.specs.Following.{on_entry}
use Rattle.ws_entry.proofs.pressing.follow.Goals as goal

pub returns-in-Ok : goal.returns-in-Ok
returns-in-Ok c = λ bytes items state reached small.
    let P : ℕ → Type 0 = λ a. IsKeyedOn on_entry c.args.station.now c.key.new.self bytes items state
    (record { key = Profile (Aid a); page = c.args.page }) (Ok c.in-Ok.sent) in
    inl (subst P c.enter.ensures (c.in-Ok.ensures.keyed bytes items state reached small))

pub returns-in-Err : goal.returns-in-Err
returns-in-Err c = λ bytes items state reached small.
    let P : ℕ → Type 0 = λ a. IsKeyedOn on_entry c.args.station.now c.key.new.self bytes items state
    (record { key = Profile (Aid a); page = c.args.page }) (Err c.in-Err.field-0) in
    inr (c.in-Err.field-0, subst P c.enter.ensures (c.in-Err.ensures.keyed bytes items state reached small), refl)
