use Rattle.ws_extended_station.specs.declared.extended_key.ExtendedKey.TheVariants.{Profile}
use Rattle.ws_entry.proofs.Pressings.{changed, there}
use Rattle.ws_entry.proofs.entry_display.carry.Goals as goal

pub returns-in-Some-clause-given : goal.returns-in-Some-clause-given
returns-in-Some-clause-given c = rw c.in-Some.is (λ end_state given.
    changed c.args.display.now c.press_on.new.self end_state _ c.press_on.result
    (c.press_on.ensures.pressed end_state given))

pub returns-in-None-clause-given : goal.returns-in-None-clause-given
returns-in-None-clause-given c = rw c.in-None.is (λ end_state given.
    there c.args.display.now c.press.new.self end_state (Profile c.args.key) c.press.result
    (c.press.ensures.pressed end_state given))
