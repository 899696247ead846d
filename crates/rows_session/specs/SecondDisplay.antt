-- A second display: any bytes are a record's body, the answer to a record is kept, and there is a key more

use Rattle.std.specs.Prelude.{◌≡◌, ℕ, List, [], ◌∷◌, Bool, true, false, Option, Some, None}
use Rattle.ws_record.specs.declared.opcode.Opcode.TheVariants.{CancelInvite}
use Rattle.ws_record.specs.declared.record.Record.{Record}
use Rattle.ws_record.specs.declared.record.Item.{Item}
use Rattle.ws_record.specs.Encode.{plain_spelling}
use Rattle.ws_stream.specs.declared.answer_part.AnswerPart.{AnswerPart}
use Rattle.ws_stream.specs.declared.answer_place.AnswerPlace.{AnswerPlace}
use Rattle.ws_stream.specs.AnswerParts.{answer_rules}
use Rattle.ws_screen.specs.Events.{History}
use Rattle.ws_keys.specs.declared.key.Key.{Key}
use Rattle.ws_end.specs.station.Displays.{DisplayOf, EndStateOn, KeyReactionOn, RefusesKey, Silent, Answers, Signals}
use Rattle.ws_end.specs.Reaction.{Reaction, GoesOn, empty_record}
use Rattle.ws_end.specs.station.StationEndState.{profile, ProfileParts, StationEndState}

-- what it keeps: the profile's display, the bytes of the last answer, and whether its bell rings
pub record SecondParts : Type 0 where
  pub profile : ProfileParts
  pub told : List ℕ
  pub rings : Bool

-- what has happened to it
pub record SecondHappened : Type 0 where
  pub shown : History
  pub told : List ℕ
  pub rings : Bool

-- which displays it gives
pub record SecondGives (h : SecondHappened) (d : SecondParts) : Type 0 where
  pub shown : profile.gives h.shown d.profile
  pub told : d.told ≡ h.told
  pub rings : d.rings ≡ h.rings

-- the side of the profile in one of it, and such a side with another in it
abbrev pub profile_state : EndStateOn SecondHappened → StationEndState
profile_state s = record { options = s.options; happened = s.happened.shown }

-- the side of the profile's station in one on this display
abbrev pub second_side : EndStateOn SecondHappened → StationEndState → EndStateOn SecondHappened
second_side s t = record { options = t.options; happened = record s.happened { shown = t.happened } }

-- each record is answered by an empty one
abbrev pub answered : List (Item AnswerPart)
answered = empty_record 0 CancelInvite ∷ []

-- a record rings, and its answer is kept
abbrev pub second_applies : EndStateOn SecondHappened → Record ℕ → Reaction (EndStateOn SecondHappened)
    (List (Item AnswerPart))
second_applies s r = GoesOn (record s {
  happened = record s.happened {
    told = plain_spelling answer_rules answered;
    rings = true;
  };
}) answered

-- what a key of the profile does
abbrev pub second_key : EndStateOn SecondHappened → KeyReactionOn History → KeyReactionOn SecondHappened
second_key s (RefusesKey fault) = RefusesKey fault
second_key s (Silent next) = Silent (second_side s next)
second_key s (Answers next kind aid) = Answers (second_side s next) kind aid
second_key s (Signals opcode flags) = Signals opcode flags

-- a key of the profile does what it does there; the one key more, None, ends the ringing
abbrev pub second_presses : EndStateOn SecondHappened → Option Key → KeyReactionOn SecondHappened
second_presses s (Some key) = second_key s (profile.presses (profile_state s) key)
second_presses s None = Silent (record s { happened = record s.happened { rings = false } })

-- the key sends a record
abbrev pub second_sends : Option Key → Bool
second_sends (Some key) = profile.sends key
second_sends None = false

-- a reply, or None for what is kept
abbrev pub second_written : SecondParts → Option (List ℕ) → List ℕ
second_written d (Some reply) = reply
second_written d None = d.told

-- this display, as a station that stands on it sees it
abbrev pub second : DisplayOf SecondParts ℕ SecondHappened AnswerPlace AnswerPart (Option Key) (Option (List ℕ))
second = record {
  out = answer_rules;
  fresh = λ terminal. record { shown = []; told = []; rings = false };
  gives = λ h d. SecondGives h d;
  shows = λ h. profile.shows h.shown;
  shown = λ d. profile.shown d.profile;
  sounds = λ h. profile.sounds h.shown;
  sounded = λ d. profile.sounded d.profile;
  applies = second_applies;
  sends = second_sends;
  presses = second_presses;
  answer = profile.answer;
  written = second_written;
}
