-- What stays true of a session at an item that arrives stays true at bytes.

use Rattle.ws_session.proofs.Common as C
use C.{◌≡◌, ◌+◌, List, [], ◌∷◌, ◌++◌, refl, ℕ, zero, suc, Option, Some, None, ap, inl, inr, length, if◌then◌else◌, Bool}
use C.{true, false, nat_lt, TerminalType, ending_at, Item, answer_rules, element_rules, AnswerPart, Element, Refuses}
use C.{GoesOn, Reaction, HostEvent, Event, Host, KeyRefused, SendRefused, Move, ToStation, ToHost, Cancel, Press}
use C.{HostEndState, host_takes, HostOutput, SendReaction, RefusesSend, Sends, StationEndState, station_takes}
use C.{KeyReaction, RefusesKey, is_refusal, refusals_in, Session, new_session, after_moves, after_move, down_bytes}
use C.{station_did, station_gets, byte_to_station, up_bytes, host_did, host_gets, byte_to_host, events_with}
use C.{bytes_to_station, bytes_to_host, station_pressed, host_sent}
use Rattle.std.proofs.lemmas.Bool.{cases_Bool}
use Rattle.ws_session.specs.declared.world.Move.TheVariants.{Send}
use Rattle.ws_session.proofs.world.Worlds.{sound}

module _ (P : Session → Type 0) where
  module _ (here : (w : Session) → P w → P (record w { at_station = w.at_station + 1 }))
      (did : (w : Session) (r : Reaction StationEndState (List (Item AnswerPart))) → P w → P (station_did w r)) where
    byte_down : (w : Session) → P w → P (byte_to_station w)
    byte_down w p = by (nat_lt w.at_station (length (down_bytes w))) w.station_refused
        (ending_at element_rules w.down (w.at_station + 1)) where
          by : (b r : Bool) (o : Option (Item Element))
              → P (if b then station_gets (record w { at_station = w.at_station + 1 }) r o else w)
          by true false (Some item) =
              did (record w { at_station = w.at_station + 1 }) (station_takes w.station item) (here w p)
          by false r o = p
          by true r o = here w p

    pub bytes_down : (n : ℕ) (w : Session) → P w → P (bytes_to_station n w)
    bytes_down zero w p = p
    bytes_down (suc n) w p = bytes_down n _ (byte_down w p)

  module _ (here : (w : Session) → P w → P (record w { at_host = w.at_host + 1 }))
      (did : (w : Session) (r : Reaction HostEndState HostOutput) → P w → P (host_did w r)) where
    byte_up : (w : Session) → P w → P (byte_to_host w)
    byte_up w p =
        by (nat_lt w.at_host (length (up_bytes w))) w.host_refused (ending_at answer_rules w.up (w.at_host + 1)) where
          by : (b r : Bool) (o : Option (Item AnswerPart))
              → P (if b then host_gets (record w { at_host = w.at_host + 1 }) r o else w)
          by true false (Some item) = did (record w { at_host = w.at_host + 1 }) (host_takes w.host item) (here w p)
          by false r o = p
          by true r o = here w p

    pub bytes_up : (n : ℕ) (w : Session) → P w → P (bytes_to_host n w)
    bytes_up zero w p = p
    bytes_up (suc n) w p = bytes_up n _ (byte_up w p)

-- While no end has refused, no refusal has been told.

abbrev IsCalm : Session → Type 0
IsCalm w = w.station_refused ≡ false → w.host_refused ≡ false → refusals_in w.events ≡ []

one_more : (events : List Event) (e : Event) → is_refusal e ≡ false → refusals_in events ≡ []
    → refusals_in (events ++ e ∷ []) ≡ []
one_more [] e calm none = ap (λ (b : Bool). if b then e ∷ [] else []) calm
one_more (x ∷ xs) e calm none = elim (cases_Bool (is_refusal x)) [
  | inl r ↦ (let never : x ∷ refusals_in xs ≡ [] = rw r at none in cc)
  | inr r ↦ rw r (one_more xs e calm (rw r at none))
]

tells : (events : List Event) (event : Option HostEvent) → refusals_in events ≡ []
    → refusals_in (events_with events event) ≡ []
tells events None none = none
tells events (Some event) none = one_more events (Host event) refl none

station_item : (w : Session) (r : Reaction StationEndState (List (Item AnswerPart))) → IsCalm w → IsCalm
    (station_did w r)
station_item w (Refuses reason) calm = λ p q. cc
station_item w (GoesOn station items) calm = calm

host_item : (w : Session) (r : Reaction HostEndState HostOutput) → IsCalm w → IsCalm (host_did w r)
host_item w (Refuses reason) calm = λ p q. cc
host_item w (GoesOn host end_events) calm = λ p q. tells w.events end_events.event (calm p q)

pressed : (w : Session) (r : KeyReaction) → IsCalm w → IsCalm (station_pressed w r)
pressed w (RefusesKey fault) calm = λ p q. one_more w.events (KeyRefused fault) refl (calm p q)
pressed w reaction calm = calm

sent : (w : Session) (r : SendReaction) → IsCalm w → IsCalm (host_sent w r)
sent w (RefusesSend fault) calm = λ p q. one_more w.events (SendRefused fault) refl (calm p q)
sent w (Sends host item) calm = calm

move : (w : Session) (m : Move) → IsCalm w → IsCalm (after_move w m)
move w (Send opcode body) calm = sent w _ calm
move w Cancel calm = sent w _ calm
move w (ToStation n) calm = bytes_down IsCalm (λ v c. c) station_item n w calm
move w (ToHost n) calm = bytes_up IsCalm (λ v c. c) host_item n w calm
move w (Press key) calm = pressed w _ calm

all_moves : (ms : List Move) (w : Session) → IsCalm w → IsCalm (after_moves w ms)
all_moves [] w calm = calm
all_moves (m ∷ ms) w calm = all_moves ms _ (move w m calm)

-- no end ever refuses
pub none_refused : (t : TerminalType) (ms : List Move) → refusals_in (after_moves (new_session t) ms).events ≡ []
none_refused t ms = let s = sound t ms in all_moves ms (new_session t) (λ p q. refl) s.station_going s.host_going
