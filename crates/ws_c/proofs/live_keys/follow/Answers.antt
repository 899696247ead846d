use Rattle.std.proofs.Common.{Ok, Err, inl, inr, refl, subst}
use Rattle.ws_extended_station.specs.declared.extended_key.ExtendedKey.{ExtendedKey}
use Rattle.ws_entry.specs.Following.{on_entry}
use Rattle.ws_lasting.specs.Footings.{IsKeyHeard}
use Rattle.ws_c.proofs.live_keys.follow.Goals as goal

pub returns-in-Ok : goal.returns-in-Ok
returns-in-Ok c = λ at stands small.
    let P : ExtendedKey → Type 0 = λ key. IsKeyHeard on_entry c.args.station.now c.key.new.self at
    (record { key = key; page = c.args.page }) (Ok c.in-Ok.sent) in
    inl (subst P c.enter.ensures (c.in-Ok.ensures.keyed at stands small))

pub returns-in-Err : goal.returns-in-Err
returns-in-Err c = λ at stands small.
    let P : ExtendedKey → Type 0 = λ key. IsKeyHeard on_entry c.args.station.now c.key.new.self at
    (record { key = key; page = c.args.page }) (Err c.in-Err.field-0) in
    inr (c.in-Err.field-0, subst P c.enter.ensures (c.in-Err.ensures.keyed at stands small), refl)
