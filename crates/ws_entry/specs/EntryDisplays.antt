-- The display that live hosts use, with what a field's format word asks of an operator.
use Rattle.std.specs.Prelude.{◌≡◌, ℕ, List, Bool, false, Option, Some, None, Result, ◌||◌, is_some, if◌then◌else◌}
use Rattle.ws_code.specs.declared.code_page.CodePage.{CodePage}
use Rattle.ws_record.specs.declared.record.Item.{Item}
use Rattle.ws_screen.specs.Bodies.{screen_of}
use Rattle.ws_screen.specs.ScreenParts.{ScreenParts}
use Rattle.ws_keys.specs.declared.answer.Answer.{Answer}
use Rattle.ws_keys.specs.declared.key.Key.{Key}
use Rattle.ws_keys.specs.declared.key.Key.TheVariants.{Char, Insert}
use Rattle.ws_keys.specs.declared.key.KeyRefusal.{KeyRefusal}
use Rattle.ws_extended.specs.declared.extended_element.ExtendedElement.{ExtendedElement}
use Rattle.ws_end.specs.declared.station.key_fault.KeyFault.TheVariants.{Key as Refused}
use Rattle.ws_end.specs.station.Displays.{DisplayOf, EndStateOn, IsPressedOnDisplay, KeyReactionOn, RefusesKey}
use Rattle.ws_end.specs.station.Displays.{Silent, Answers, Signals}
use Rattle.ws_end.specs.Reaction.{Reaction, Refuses, GoesOn}
use Rattle.ws_extended_station.specs.ExtendedDisplays.{DisplayParts, ExtendedEndState, ExtendedHappened, extended}
use Rattle.ws_extended_station.specs.ScreenKeys.{changes}
use Rattle.ws_extended_station.specs.declared.extended_key.ExtendedKey.{ExtendedKey}
use Rattle.ws_extended_station.specs.declared.extended_key.ExtendedKey.TheVariants.{Profile, Reset}
use Rattle.ws_extended_station.specs.declared.extended_reply.ExtendedReply.{ExtendedReply}
use Rattle.ws_entry.specs.EntryRules.{as_typed, entering, entering_edit, entering_refusals, full_after, held_up}
use Rattle.ws_entry.specs.declared.entering.Entering.{Entering}
use Rattle.ws_entry.specs.declared.typed_key.TypedKey.{TypedKey}

-- a display, and whether its open field is full
pub record EntryParts : Type 0 where
  pub display : DisplayParts
  pub full : Bool

-- what has happened to it, and whether its open field is full
pub record EntryHappened : Type 0 where
  pub shown : ExtendedHappened
  pub full : Bool

-- what happened gives this display
pub record EntryGives (h : EntryHappened) (d : EntryParts) : Type 0 where
  pub shown : extended.gives h.shown d.display
  pub full : d.full ≡ h.full

-- what a station on it has become
abbrev pub EntryEndState : Type 0
EntryEndState = EndStateOn EntryHappened

-- the side of a station on the display that live hosts use, in one on this
abbrev pub extended_state : EntryEndState → ExtendedEndState
extended_state s = record { options = s.options; happened = s.happened.shown }

-- such a side on this display, by whether the open field is full
abbrev pub entry_state : Bool → ExtendedEndState → EntryEndState
entry_state full t = record { options = t.options; happened = record { shown = t.happened; full = full } }

-- what a station does there, as what it does on this display
abbrev pub as_extended : Bool → KeyReactionOn ExtendedHappened → KeyReactionOn EntryHappened
as_extended full (RefusesKey fault) = RefusesKey fault
as_extended full (Silent next) = Silent (entry_state full next)
as_extended full (Answers next kind aid) = Answers (entry_state full next) kind aid
as_extended full (Signals opcode flags) = Signals opcode flags

abbrev pub as_applied : Reaction ExtendedEndState (List (Item ℕ)) → Reaction EntryEndState (List (Item ℕ))
as_applied (Refuses reason) = Refuses reason
as_applied (GoesOn next writes) = GoesOn (entry_state false next) writes

-- the key of the profile, with the character that is entered
abbrev pub entered_key : CodePage → ScreenParts → Key → Key
entered_key page s (Char c) = Char (as_typed page s c)
entered_key page s (Insert c) = Insert (as_typed page s c)
entered_key page s key = key

-- what a key does that isn't held up: one that a format word changes what that says, any other what it does there
abbrev pub carried_through : ExtendedEndState → Key → Option Entering → KeyReactionOn ExtendedHappened
carried_through s key None = extended.presses s (Profile key)
carried_through s key (Some e) = changes (entering_refusals e) (entering_edit e) s

-- what a key does, by why it is held up, if it is
abbrev pub unless_held : KeyReactionOn ExtendedHappened → Option KeyRefusal → KeyReactionOn ExtendedHappened
unless_held reaction (Some refusal) = RefusesKey (Refused refusal)
unless_held reaction None = reaction

-- what a key does, by the screen and whether its open field is full; keys are held up where the keyboard takes any, so
-- that a locked one and one that waits for Reset come first
abbrev pub entered_on : ScreenParts → ExtendedEndState → Bool → CodePage → ExtendedKey → KeyReactionOn ExtendedHappened
entered_on screen s full page Reset = extended.presses s Reset
entered_on screen s full page (Profile key) =
    let typed : Key = entered_key page screen key in
    unless_held (carried_through s typed (entering screen full typed))
    (if is_some s.happened.state.kept || screen.locked then None else held_up screen full typed)

-- the open field is full after a key that was carried out; Reset leaves it so
abbrev pub full_behind : ScreenParts → Bool → ExtendedKey → Bool
full_behind s full Reset = full
full_behind s full (Profile key) = full_after s full key

-- what the station makes of a key
abbrev pub entry_presses : EntryEndState → TypedKey → KeyReactionOn EntryHappened
entry_presses s k =
    let screen : ScreenParts = screen_of s.happened.shown.state.history in
    as_extended (full_behind screen s.happened.full k.key)
    (entered_on screen (extended_state s) s.happened.full k.page k.key)

-- this display, as a station that stands on it sees it: a record that is carried out leaves no field full
abbrev pub by_format_words : DisplayOf EntryParts ExtendedElement EntryHappened (Unit {0}) ℕ TypedKey ExtendedReply
by_format_words = record {
  out = extended.out;
  fresh = λ terminal. record { shown = extended.fresh terminal; full = false };
  gives = λ h d. EntryGives h d;
  shows = λ h. extended.shows h.shown;
  shown = λ d. extended.shown d.display;
  sounds = λ h. extended.sounds h.shown;
  sounded = λ d. extended.sounded d.display;
  applies = λ s r. as_applied (extended.applies (extended_state s) r);
  sends = λ k. extended.sends k.key;
  presses = entry_presses;
  answer = extended.answer;
  written = λ d reply. extended.written d.display reply;
}

-- the display that live hosts use, with one key, which does this
abbrev pub reacting : KeyReactionOn ExtendedHappened
    → DisplayOf DisplayParts ExtendedElement ExtendedHappened (Unit {0}) ℕ (Unit {0}) ExtendedReply
reacting reaction = record {
  out = extended.out;
  fresh = extended.fresh;
  gives = extended.gives;
  shows = extended.shows;
  shown = extended.shown;
  sounds = extended.sounds;
  sounded = extended.sounded;
  applies = extended.applies;
  sends = λ k. false;
  presses = λ s k. reaction;
  answer = extended.answer;
  written = extended.written;
}

-- what such a key gives that display
abbrev pub IsGivenBy : DisplayParts → DisplayParts → ExtendedEndState → KeyReactionOn ExtendedHappened
    → Result (Option Answer) KeyRefusal → Type 0
IsGivenBy old new s reaction result = IsPressedOnDisplay (reacting reaction) old new s tt result
