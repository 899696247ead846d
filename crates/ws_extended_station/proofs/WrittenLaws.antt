-- What is written on the display that live hosts use.
use Rattle.std.specs.List.{AllByRecursion}
use Rattle.std.proofs.Common.{◌≡◌, ℕ, List, [], ◌∷◌, ◌++◌, Bool, true, false, Option, Some, None, map, refl, sym, ap}
use Rattle.std.proofs.Common.{◌∙◌, inl, inr, if◌then◌else◌}
use Rattle.ws_code.specs.declared.reason.Reason.{Reason}
use Rattle.ws_code.specs.declared.reason.Reason.TheVariants.{RecordBeforeNegotiation}
use Rattle.ws_telnet.specs.declared.token.Telnet.{Telnet}
use Rattle.ws_nego.specs.Station.{station_allows_records, station_answer}
use Rattle.ws_nego.specs.declared.terminal.TerminalType.{TerminalType}
use Rattle.ws_record.specs.declared.opcode.Opcode.{Opcode}
use Rattle.ws_record.specs.declared.opcode.Opcode.TheVariants.{CancelInvite}
use Rattle.ws_record.specs.declared.record.Item.{Item}
use Rattle.ws_record.specs.declared.record.Item.TheVariants.{Record as RecordItem, Telnet as TelnetItem}
use Rattle.ws_record.specs.declared.record.Record.{Record}
use Rattle.ws_screen.specs.Bodies.{screen_of}
use Rattle.ws_extended.specs.Asking.{asks_in, first_ask}
use Rattle.ws_extended.specs.ExtendedStates.{ExtendedState}
use Rattle.ws_extended.specs.declared.ask.Ask.{Ask}
use Rattle.ws_extended.specs.declared.extended_element.ExtendedElement.{ExtendedElement}
use Rattle.ws_end.specs.Acts.{Arrives, Does, Happening, doing}
use Rattle.ws_end.specs.Reaction.{Refuses, GoesOn}
use Rattle.ws_end.specs.station.Displays.{KeyReactionOn, RefusesKey, Silent, Answers, Signals}
use Rattle.ws_end.specs.station.StationTransitions.{at_key_on, key_on}
use Rattle.ws_end.specs.station.StationReacting.{at_item_on, at_on, transitions_on}
use Rattle.ws_end.specs.station.StationEndState.{opcode_answer}
use Rattle.ws_extended_station.specs.Bytewise.{by_bytes}
use Rattle.ws_extended_station.specs.ExtendedDisplays.{ExtendedHappened, ExtendedEndState, extended, extended_applies}
use Rattle.ws_extended_station.specs.ExtendedDisplays.{with_state}
use Rattle.ws_extended_station.specs.ExtendedRecords.{record_fault, record_writes, state_after_record, told_items}
use Rattle.ws_extended_station.specs.Written.{MayBeWritten}
use Rattle.ws_extended_station.specs.declared.extended_key.ExtendedKey.{ExtendedKey}

abbrev AllMay : List (Item ℕ) → Type 0
AllMay items = AllByRecursion MayBeWritten items

both_may : (xs ys : List (Item ℕ)) → AllMay xs → AllMay ys → AllMay (xs ++ ys)
both_may [] ys a b = b
both_may (x ∷ xs) ys a b = (a.0, both_may xs ys a.1 b)

telnets_may : (ts : List Telnet) → AllMay (map TelnetItem ts)
telnets_may [] = tt
telnets_may (t ∷ ts) = (inl (t, refl), telnets_may ts)

told_may : (terminal : TerminalType) (state : ExtendedState) (ask : Option Ask) → AllMay (told_items terminal state ask)
told_may terminal state None = tt
told_may terminal state (Some ask) = (inr (inr (inr (ask, terminal, state, refl))), tt)

answers_may : (opcode : Opcode) → AllMay (map by_bytes (opcode_answer opcode))
answers_may CancelInvite = (inr (inr (inl (0, CancelInvite, refl))), tt)
answers_may opcode = tt

module _ (s : ExtendedEndState) (r : Record ExtendedElement) where
  applied_may : (o : Option Reason) → AllMay (at_item_on extended s (RecordItem r) (extended_applies s r o)).written
  applied_may (Some reason) = tt
  applied_may None =
      let after = state_after_record s.happened.state r in
      both_may (told_items s.happened.terminal after (first_ask (asks_in r.body)))
      (map by_bytes (opcode_answer r.opcode)) (told_may s.happened.terminal after (first_ask (asks_in r.body))) (answers_may r.opcode)

  record_may : (ready : Bool) → AllMay (at_item_on extended s (RecordItem r)
      (if ready then extended.applies s r else Refuses RecordBeforeNegotiation)).written
  record_may true = applied_may (record_fault s.happened.state r.body)
  record_may false = tt

  pub record_written : (next : ExtendedEndState) (writes : List (Item ℕ)) → extended.applies s r ≡ GoesOn next writes
      → writes ≡ record_writes s.happened.terminal next.happened.state r
  record_written next writes = go (record_fault s.happened.state r.body)
    where
      go : (o : Option Reason) → extended_applies s r o ≡ GoesOn next writes
          → writes ≡ record_writes s.happened.terminal next.happened.state r
      go (Some reason) e = absurd (cc)
      go None e =
          let after = state_after_record s.happened.state r in
          let end_state : with_state s after ≡ next = cc in
          let wrote : record_writes s.happened.terminal after r ≡ writes = cc in
          sym wrote ∙ ap (λ (n : ExtendedEndState). record_writes s.happened.terminal n.happened.state r) end_state

key_may : (s : ExtendedEndState) (r : KeyReactionOn ExtendedHappened) → AllMay (at_key_on extended s r).written
key_may s (RefusesKey fault) = tt
key_may s (Silent next) = tt
key_may s (Answers next kind aid) = (inr (inl (screen_of s.happened.state.history, kind, aid, refl)), tt)
key_may s (Signals opcode flags) = (inr (inr (inl (flags, opcode, refl))), tt)

at_may : (s : ExtendedEndState) (h : Happening ExtendedElement ExtendedKey) → AllMay (at_on extended s h).written
at_may s (Arrives (TelnetItem t)) = telnets_may (station_answer s.options t).reply
at_may s (Arrives (RecordItem r)) = record_may s r (station_allows_records s.options)
at_may s (Does key) = key_may s (key_on extended s key)

pub all_written : (s : ExtendedEndState) (hs : List (Happening ExtendedElement ExtendedKey))
    → AllMay (doing (transitions_on extended) s hs).written
all_written s [] = tt
all_written s (h ∷ hs) = both_may (at_on extended s h).written
    (doing (transitions_on extended) (at_on extended s h).state hs).written (at_may s h)
    (all_written (at_on extended s h).state hs)
