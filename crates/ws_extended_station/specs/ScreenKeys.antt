-- Keys that change the screen of the display that live hosts use, whatever keys they are.
use Rattle.std.specs.Prelude.{◌≡◌, List, ◌∷◌, Bool, Option, Some, None, Result, Ok, Err, is_some, if◌then◌else◌}
use Rattle.ws_screen.specs.Bodies.{screen_of}
use Rattle.ws_screen.specs.Events.{Edit, keyed}
use Rattle.ws_screen.specs.ScreenParts.{ScreenParts}
use Rattle.ws_keys.specs.Keys.{first_refusal}
use Rattle.ws_keys.specs.declared.answer.Answer.{Answer}
use Rattle.ws_keys.specs.declared.key.KeyRefusal.{KeyRefusal}
use Rattle.ws_keys.specs.declared.key.KeyRefusal.TheVariants.{Locked}
use Rattle.ws_end.specs.declared.station.key_fault.KeyFault.TheVariants.{Key as Refused}
use Rattle.ws_end.specs.station.Displays.{KeyReactionOn, RefusesKey, Silent}
use Rattle.ws_extended_station.specs.ExtendedDisplays.{DisplayParts, ExtendedEndState, ExtendedGives, ExtendedHappened}
use Rattle.ws_extended_station.specs.ExtendedDisplays.{with_state}

-- what such a key does, by its refusal, if it is refused: it sets what it sets, and sends nothing
abbrev pub changes_by : ExtendedEndState → Edit → Option KeyRefusal → KeyReactionOn ExtendedHappened
changes_by s edit (Some refusal) = RefusesKey (Refused refusal)
changes_by s edit None =
    Silent (with_state s (record s.happened.state { history = keyed edit ∷ s.happened.state.history }))

-- what such a key does, by why it is refused and what it sets: where an error stands it waits for Reset
abbrev pub changes : (ScreenParts → List (Bool × KeyRefusal)) → (ScreenParts → Edit) → ExtendedEndState
    → KeyReactionOn ExtendedHappened
changes refusals edit s =
    let screen : ScreenParts = screen_of s.happened.state.history in
    if is_some s.happened.state.kept then RefusesKey (Refused Locked)
    else changes_by s (edit screen) (first_refusal (refusals screen))

-- what it gives a display: its refusal, with the display as it was; or the display that it comes to, and nothing to
-- send
abbrev pub IsChanged : DisplayParts → DisplayParts → ExtendedEndState → KeyReactionOn ExtendedHappened
    → Result (Option Answer) KeyRefusal → Type 0
IsChanged old new s reaction (Err refusal) = (reaction ≡ RefusesKey (Refused refusal)) × (new ≡ old)
IsChanged old new s reaction (Ok sent) = (sent ≡ None) × (next : ExtendedEndState) × (reaction ≡ Silent next)
    × (next.options ≡ s.options) × ExtendedGives next.happened new
