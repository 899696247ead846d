-- A record and a key of the profile, where no error stands.
use Rattle.std.specs.Option.{option_or}
use Rattle.std.proofs.Common.{◌≡◌, ℕ, List, [], ◌∷◌, ◌++◌, Bool, true, false, Option, Some, None, map, refl, sym, ap}
use Rattle.std.proofs.Common.{ap₂, ◌∙◌, subst, is_some, ◌&&◌, not, if◌then◌else◌}
use Rattle.ws_code.specs.declared.reason.Reason.{Reason}
use Rattle.ws_code.specs.declared.reason.Reason.TheVariants.{RecordBeforeNegotiation}
use Rattle.ws_telnet.specs.declared.token.Telnet.{Telnet}
use Rattle.ws_nego.specs.Station.{station_allows_records, station_answer}
use Rattle.ws_record.specs.declared.record.Item.{Item}
use Rattle.ws_record.specs.declared.record.Item.TheVariants.{Record as RecordItem, Telnet as TelnetItem}
use Rattle.ws_record.specs.declared.record.Record.{Record}
use Rattle.ws_stream.specs.declared.element.Element.{Element}
use Rattle.ws_screen.specs.Bodies.{after_element, after_elements, body_fault}
use Rattle.ws_screen.specs.Events.{History}
use Rattle.ws_keys.specs.declared.key.Key.{Key}
use Rattle.ws_keys.specs.declared.key.KeyRefusal.TheVariants.{Locked}
use Rattle.ws_extended.specs.Asking.{asks_in, first_ask, second_reason}
use Rattle.ws_extended.specs.ExtendedKeys.{waits_for_reset}
use Rattle.ws_extended.specs.ExtendedStates.{ExtendedState, Kept, state_after_all, state_after_end}
use Rattle.ws_extended.specs.declared.extended_element.ExtendedElement.TheVariants.{Profile}
use Rattle.ws_extended.proofs.StateLaws.{plain, profile_acts, profile_faults}
use Rattle.ws_end.specs.Reaction.{Reaction, Refuses, GoesOn}
use Rattle.ws_end.specs.declared.station.key_fault.KeyFault.TheVariants.{NotReady, Key as Refused}
use Rattle.ws_end.specs.station.Displays.{RefusesKey}
use Rattle.ws_end.specs.station.StationTransitions.{key_on, takes_on}
use Rattle.ws_end.specs.station.StationEndState.{opcode_answer, profile, station_applies}
use Rattle.ws_extended_station.specs.BesideProfile.{NoErrorStands, as_reacted, item_there, record_there}
use Rattle.ws_extended_station.specs.Bytewise.{by_bytes}
use Rattle.ws_extended_station.specs.ExtendedDisplays.{ExtendedEndState, as_profile, extended, extended_applies}
use Rattle.ws_extended_station.specs.ExtendedDisplays.{profile_state}
use Rattle.ws_extended_station.specs.ExtendedRecords.{elements_fault, record_fault, record_writes, state_after_opcode}
use Rattle.ws_extended_station.specs.ExtendedRecords.{told_items}
use Rattle.ws_extended_station.specs.declared.extended_key.ExtendedKey.TheVariants.{Profile as ProfileKey}

-- the profile's elements ask nothing
pub asks_nothing : (es : List Element) → asks_in (map Profile es) ≡ []
asks_nothing [] = refl
asks_nothing (e ∷ es) = asks_nothing es

-- and are refused as there
pub elements_alike : (h : History) (n : ℕ) (es : List Element)
    → elements_fault (plain h n) (map Profile es) ≡ body_fault h es
elements_alike h n [] = refl
elements_alike h n (e ∷ es) =
    ap₂ (λ (a b : Option Reason). option_or a b) (profile_faults h n e)
    (ap (λ (state : ExtendedState). elements_fault state (map Profile es)) (profile_acts h n (e ∷ []))
    ∙ elements_alike (after_element h e) n es)

-- a side on which no error stands is this one
abbrev plain_state : ExtendedEndState → Option Kept → ExtendedEndState
plain_state s kept = record s { happened = record s.happened { state = record s.happened.state { kept = kept } } }

module _ (s : ExtendedEndState) (r : Record Element) where
  abbrev h : History
  h = s.happened.state.history

  abbrev n : ℕ
  n = s.happened.state.text

  judged : record_fault (plain h n) (map Profile r.body) ≡ body_fault h r.body
  judged = ap₂ (λ (a b : Option Reason). option_or a b) (ap second_reason (asks_nothing r.body))
      (elements_alike h n r.body)

  reacts : (o : Option Reason) → extended_applies (plain_state s None) (record_there r) o
      ≡ as_reacted (plain_state s None) (station_applies (profile_state s) r o)
  reacts (Some reason) = refl
  reacts None =
      let after : ExtendedState = state_after_opcode r.opcode (state_after_end (plain (after_elements h r.body) n)) in
      let end_state : ExtendedState → ExtendedEndState = λ state. record s
      { happened = record s.happened { state = state } } in
      let writes : ExtendedState → List (Item ℕ) = λ state. record_writes s.happened.terminal state (record_there r) in
      let same : state_after_opcode r.opcode (state_after_end (state_after_all (plain h n) (map Profile r.body)))
      ≡ after = ap (λ (state : ExtendedState). state_after_opcode r.opcode (state_after_end state))
      (profile_acts h n r.body) in
      let nothing : writes after ≡ map by_bytes (opcode_answer r.opcode) =
      ap (λ asks. told_items s.happened.terminal after (first_ask asks) ++ map by_bytes (opcode_answer r.opcode))
      (asks_nothing r.body) in
      ap (λ (state : ExtendedState). let x : Reaction ExtendedEndState (List (Item ℕ)) =
      GoesOn (end_state state) (writes state) in x) same
      ∙ ap (λ (items : List (Item ℕ)). let x : Reaction ExtendedEndState (List (Item ℕ)) = GoesOn
      (end_state after) items in x)
      nothing

  applies_plain : extended.applies (plain_state s None) (record_there r)
      ≡ as_reacted (plain_state s None) (profile.applies (profile_state s) r)
  applies_plain = ap (extended_applies (plain_state s None) (record_there r)) judged ∙ reacts (body_fault h r.body)

  pub applies_there : NoErrorStands s → extended.applies s (record_there r)
      ≡ as_reacted s (profile.applies (profile_state s) r)
  applies_there none = subst (λ (k : Option Kept). extended.applies (plain_state s k) (record_there r)
      ≡ as_reacted (plain_state s k) (profile.applies (profile_state s) r)) (sym none) applies_plain

telnet_there : (tokens : List Telnet) → map TelnetItem tokens ≡ map by_bytes (map TelnetItem tokens)
telnet_there [] = refl
telnet_there (t ∷ tokens) = ap (λ (items : List (Item ℕ)). TelnetItem t ∷ items) (telnet_there tokens)

pub items_there : (s : ExtendedEndState) (item : Item Element) → NoErrorStands s
    → takes_on extended s (item_there item) ≡ as_reacted s (takes_on profile (profile_state s) item)
items_there s (TelnetItem t) none =
    let answer = station_answer s.options t in
    let next : ExtendedEndState = record { options = answer.after; happened = s.happened } in
    ap (λ (items : List (Item ℕ)). let x : Reaction ExtendedEndState (List (Item ℕ)) = GoesOn next items in x)
    (telnet_there answer.reply)
items_there s (RecordItem r) none = go (station_allows_records s.options)
  where
    go : (ready : Bool) → (if ready then extended.applies s (record_there r) else Refuses RecordBeforeNegotiation)
        ≡ as_reacted s (if ready then profile.applies (profile_state s) r else Refuses RecordBeforeNegotiation)
    go true = applies_there s r none
    go false = refl

pub keys_there : (s : ExtendedEndState) (key : Key) → NoErrorStands s
    → key_on extended s (ProfileKey key) ≡ as_profile s (key_on profile (profile_state s) key)
keys_there s key none = ap (λ x. if profile.sends key && not (station_allows_records s.options) then
    RefusesKey NotReady else x) free ∙ go (profile.sends key && not (station_allows_records s.options))
  where
    free : extended.presses s (ProfileKey key) ≡ as_profile s (profile.presses (profile_state s) key)
    free = ap (λ (k : Option Kept). if is_some k && waits_for_reset key then RefusesKey (Refused Locked)
        else as_profile s (profile.presses (profile_state s) key)) none

    go : (t : Bool) → (if t then RefusesKey NotReady else as_profile s (profile.presses (profile_state s) key))
        ≡ as_profile s (if t then RefusesKey NotReady else profile.presses (profile_state s) key)
    go true = refl
    go false = refl
