-- A byte comes to an end of a running session.

use Rattle.ws_session.proofs.Common as C
use C.{flat_map, ◌≡◌, ◌+◌, ◌≤◌, List, [], ◌∷◌, ◌++◌, refl, subst, ◌∙◌, ℕ, ◌<◌, Option, Some, None, take, ap, sym, arith}
use C.{length, if◌then◌else◌, Bool, true, false, nat_lt, false≢true, nat_tests, append-nil, TerminalType, ending_at}
use C.{arrived, plain_spelling, Item, answer_rules, element_bytes, element_prefix_free, element_begins, element_rules}
use C.{AnswerPart, Element, Arrives, as_list, Reason, IsInRange, station_at_item, station_transitions, at_reaction}
use C.{host_driving, Refuses, GoesOn, Reaction, goes_on, Applied, HostEvent, Event, Host, ToStation, ToHost}
use C.{HostReached, HostParts, HostEndState, host_takes, HostOutput, StationParts, StationReached, StationEndState}
use C.{station_takes, AreWritable, WorldParts, RunsWith, Runs, WireParts, AreDelivered, at_end, at_station_end}
use C.{at_host_end, Session, down_bytes, station_did, station_gets, byte_to_station, up_bytes, host_did, host_gets}
use C.{byte_to_host, events_with, bytes_to_station, bytes_to_host}
use Rattle.ws_stream.specs.AnswerLaws.{part_prefix_free, part_begins, part_bytes}
use Rattle.ws_end.specs.Behaviours.{host_behaviour, profile_behaviour}
use Rattle.ws_end.specs.station.Stations.{station_driving}
use Rattle.ws_end.specs.station.StationEndState.{on_profile}
use Rattle.ws_session.specs.world.Wires.{host_telling, station_telling}
use Rattle.ws_session.proofs.Writables.{host_writes_well, answers_writable, WritesWell}
use Rattle.ws_session.proofs.world.Bytes.{byte_down, byte_up}
use Rattle.ws_session.proofs.world.OneByOne.{delivered}
use Rattle.ws_session.proofs.world.Reached.{station_writes, going_station, host_writes, going_host, is_sound, OfStation}
use Rattle.ws_session.proofs.world.Reached.{OfHost}

-- another thing holds of what came to the ends
with_ends : {S S' : OfStation} {H H' : OfHost} {t : TerminalType} {w : Session} {old : WorldParts}
    → RunsWith S H t old w → (station : StationParts) (host : HostParts)
    → (S (take w.at_station (down_bytes w)) (arrived element_rules w.down w.at_station) w.station
    → S' (take w.at_station (down_bytes w)) (arrived element_rules w.down w.at_station) w.station)
    → (H (take w.at_host (up_bytes w)) (arrived answer_rules w.up w.at_host) w.host
    → H' (take w.at_host (up_bytes w)) (arrived answer_rules w.up w.at_host) w.host)
    → RunsWith S' H' t (record old { station = station; host = host }) w
with_ends r station host at_station at_host = record {
  moves = r.moves;
  by_moves = r.by_moves;
  down = r.down;
  up = r.up;
  at_station = r.at_station;
  at_host = r.at_host;
  writable_down = r.writable_down;
  writable_up = r.writable_up;
  station = at_station r.station;
  host = at_host r.host;
  events = r.events;
}

none_told : (end_events : List Applied) → flat_map (λ (a : Applied). let z : List Event = [] in z) end_events ≡ []
none_told [] = refl
none_told (a ∷ end_events) = none_told end_events

module _ {S : OfStation} {H : OfHost} {t : TerminalType} {w : Session} {old : WorldParts} (r : RunsWith S H t old w)
  where
    abbrev ends_down : Option (Item Element)
    ends_down = ending_at element_rules w.down (w.at_station + 1)

    abbrev byte_on : Session
    byte_on = record w { at_station = w.at_station + 1 }

    test_down : (b : Bool) → nat_lt w.at_station (length (down_bytes w)) ≡ b → byte_to_station w
        ≡ (if b then station_gets byte_on w.station_refused ends_down else w)
    test_down b e = ap (λ (z : Bool). if z then station_gets byte_on w.station_refused ends_down else w) e

    pub none_down : length old.down ≤ old.at_station → byte_to_station w ≡ w
    none_down all = test_down false (grind (arith, nat_tests, all, r.at_station, ap length r.down))

    module _ (more : old.at_station < length old.down) where
      gets_down : (o : Option (Item Element)) → ends_down ≡ o → byte_to_station w ≡ station_gets byte_on false o
      gets_down o e = test_down true (grind (arith, nat_tests, more, r.at_station, ap length r.down))
          ∙ ap (λ b. station_gets byte_on b ends_down) (going_station r) ∙ ap (station_gets byte_on false) e

      module _ (Then : OfStation) where
        goes_down : (state : StationEndState) (writes : List (Item AnswerPart)) → AreWritable answer_rules writes
            → Then (take (w.at_station + 1) (down_bytes w)) (arrived element_rules w.down (w.at_station + 1)) state
            → byte_to_station w ≡ record w { at_station = w.at_station + 1; station = state; up = w.up ++ writes }
            → RunsWith Then H t (record old {
              at_station = old.at_station + 1;
              up = old.up ++ plain_spelling answer_rules writes;
            }) (byte_to_station w)
        goes_down state writes fit reached does = station_writes r (ToStation 1) Then state writes (w.at_station + 1)
            w.answered old.station _ (old.at_station + 1) does refl fit (ap (λ n. n + 1) r.at_station) reached

        -- no item is complete with it
        pub inside_down : ends_down ≡ None → Then (take (w.at_station + 1) (down_bytes w))
            (arrived element_rules w.down (w.at_station + 1)) w.station
            → RunsWith Then H t (record old { at_station = old.at_station + 1; up = old.up ++ [] }) (byte_to_station w)
        inside_down e reached = goes_down w.station [] (tt, tt) reached (gets_down None e
            ∙ ap (λ z. record w { at_station = w.at_station + 1; up = z }) (sym (append-nil w.up)))

        -- an item that is whole, by the reaction to it
        pub taken_down : (item : Item Element) → ends_down ≡ Some item → IsInRange item
            → (z : Reaction StationEndState (List (Item AnswerPart))) → station_takes w.station item ≡ z
            → goes_on z ≡ true → Then (take (w.at_station + 1) (down_bytes w))
            (arrived element_rules w.down (w.at_station + 1)) (station_at_item w.station item z).state
            → RunsWith Then H t (record old {
              at_station = old.at_station + 1;
              up = old.up ++ plain_spelling answer_rules (station_at_item w.station item z).written;
            }) (byte_to_station w)
        taken_down item e range (Refuses reason) does on reached = absurd (false≢true on)
        taken_down item e range (GoesOn next writes) does on reached = goes_down next writes
            (answers_writable w.station item next writes range does) reached
            (gets_down (Some item) e ∙ ap (station_did byte_on) does)

      pub unrefused_down : (item : Item Element) (reason : Reason) → ends_down ≡ Some item
          → station_takes w.station item ≡ Refuses reason → ⊥
      unrefused_down item reason e so =
          let f : true ≡ false = ap (λ (z : Session). z.station_refused) (sym (gets_down (Some item) e
          ∙ ap (station_did byte_on) so)) ∙ (byte_down t w (is_sound r)).station_going in cc

-- so many of the bytes in flight, or all that are
pub station_delivered : {t : TerminalType} {w : Session} {old : WorldParts}
    → Runs t old w → {station : StationParts} {from to : WireParts} {events : List Event} {count : ℕ}
    → AreDelivered profile_behaviour station_telling (at_station_end old) count (at_end station from to events) → Runs t
    (record old {
      station = station;
      down = from.bytes;
      at_station = from.at;
      up = to.bytes;
      at_host = to.at;
      events = events;
    }) (bytes_to_station count w)
station_delivered {t} {w} {old} r {station} {from} {to} {events} {count} g =
    let Now : OfStation → ℕ → List ℕ → List Event → Session → Type 0 = λ S n up said w'. RunsWith S
    (HostReached old.host) t (record old { station = station; at_station = n; up = up; events = said }) w' in
    rw (g.from_is, g.to_is, g.told_is) (delivered byte_to_station bytes_to_station (λ w. refl) (λ n w. refl)
    (station_driving on_profile) element_bytes element_prefix_free element_begins station_telling old.down
    (λ w'. w'.down) (λ w'. w'.at_station) (λ w'. w'.station) Now
    (λ A n up said w' h. record {
      at_place = h.at_station;
      sent_bytes = h.down;
      writable = h.writable_down;
      holds = h.station;
    })
    (λ A B n up said w' h on. with_ends h station old.host on (λ l. l))
    (λ A n up said w' h more. record {
      inside = λ Then e reached. inside_down h more Then e reached;
      taken = λ Then item e range on reached.
          rw (none_told (station_transitions.at w'.station (Arrives item)).events, append-nil said)
          (taken_down h more Then item e range (station_takes w'.station item) refl on reached);
      unrefused = λ item reason e so. unrefused_down h more item reason e so;
    })
    (λ A n up said w' h all. none_down h all) old.station old.at_station old.up old.events w
    (with_ends r station old.host (λ l. l) (λ l. l)) station from to old.at_host events count g)

-- The same at the host end.

abbrev pub host_tells : HostEvent → List Event
host_tells event = Host event ∷ []

one_told : (events : List Event) (event : Option HostEvent) → events_with events event
    ≡ events ++ flat_map host_tells (as_list event)
one_told events None = sym (append-nil events)
one_told events (Some event) = refl

module _ {S : OfStation} {H : OfHost} {t : TerminalType} {w : Session} {old : WorldParts} (r : RunsWith S H t old w)
  where
    abbrev ends_up : Option (Item AnswerPart)
    ends_up = ending_at answer_rules w.up (w.at_host + 1)

    abbrev byte_off : Session
    byte_off = record w { at_host = w.at_host + 1 }

    test_up : (b : Bool) → nat_lt w.at_host (length (up_bytes w)) ≡ b → byte_to_host w
        ≡ (if b then host_gets byte_off w.host_refused ends_up else w)
    test_up b e = ap (λ (z : Bool). if z then host_gets byte_off w.host_refused ends_up else w) e

    pub none_up : length old.up ≤ old.at_host → byte_to_host w ≡ w
    none_up all = test_up false (grind (arith, nat_tests, all, r.at_host, ap length r.up))

    module _ (more : old.at_host < length old.up) where
      gets_up : (o : Option (Item AnswerPart)) → ends_up ≡ o → byte_to_host w ≡ host_gets byte_off false o
      gets_up o e = test_up true (grind (arith, nat_tests, more, r.at_host, ap length r.up))
          ∙ ap (λ b. host_gets byte_off b ends_up) (going_host r) ∙ ap (host_gets byte_off false) e

      module _ (Then : OfHost) where
        goes_up : (state : HostEndState) (writes : List (Item Element)) (event : Option HostEvent)
            → AreWritable element_rules writes
            → Then (take (w.at_host + 1) (up_bytes w)) (arrived answer_rules w.up (w.at_host + 1)) state
            → byte_to_host w ≡ record w {
              at_host = w.at_host + 1;
              host = state;
              down = w.down ++ writes;
              events = events_with w.events event;
            } → RunsWith S Then t (record old {
              at_host = old.at_host + 1;
              down = old.down ++ plain_spelling element_rules writes;
              events = events_with old.events event;
            }) (byte_to_host w)
        goes_up state writes event fit reached does = host_writes r (ToHost 1) Then state writes (w.at_host + 1)
            (events_with w.events event) old.host _ (old.at_host + 1) _ does refl fit (ap (λ n. n + 1) r.at_host)
            (ap (λ z. events_with z event) r.events) reached

        pub inside_up : ends_up ≡ None
            → Then (take (w.at_host + 1) (up_bytes w)) (arrived answer_rules w.up (w.at_host + 1)) w.host
            → RunsWith S Then t (record old { at_host = old.at_host + 1; down = old.down ++ [] }) (byte_to_host w)
        inside_up e reached = goes_up w.host [] None (tt, tt) reached (gets_up None e
            ∙ ap (λ z. record w { at_host = w.at_host + 1; down = z }) (sym (append-nil w.down)))

        pub taken_up : (item : Item AnswerPart) → ends_up ≡ Some item → IsInRange item
            → (z : Reaction HostEndState HostOutput) → host_takes w.host item ≡ z → goes_on z ≡ true
            → Then (take (w.at_host + 1) (up_bytes w)) (arrived answer_rules w.up (w.at_host + 1))
            (at_reaction (λ output. output) w.host z).state → RunsWith S Then t (record old {
              at_host = old.at_host + 1;
              down = old.down ++ plain_spelling element_rules (at_reaction (λ output. output) w.host z).written;
              events = old.events ++ flat_map host_tells (at_reaction (λ output. output) w.host z).events;
            }) (byte_to_host w)
        taken_up item e range (Refuses reason) does on reached = absurd (false≢true on)
        taken_up item e range (GoesOn next output) does on reached = rw (← one_told old.events output.event)
            (goes_up next output.items output.event (subst WritesWell does (host_writes_well w.host item range)) reached
            (gets_up (Some item) e ∙ ap (host_did byte_off) does))

      pub unrefused_up : (item : Item AnswerPart) (reason : Reason) → ends_up ≡ Some item
          → host_takes w.host item ≡ Refuses reason → ⊥
      unrefused_up item reason e so =
          let f : true ≡ false = ap (λ (z : Session). z.host_refused) (sym (gets_up (Some item) e
          ∙ ap (host_did byte_off) so)) ∙ (byte_up t w (is_sound r)).host_going in cc

pub host_delivered : {t : TerminalType} {w : Session} {old : WorldParts}
    → Runs t old w → {host : HostParts} {from to : WireParts} {events : List Event} {count : ℕ}
    → AreDelivered host_behaviour host_telling (at_host_end old) count (at_end host from to events) → Runs t
    (record old {
      host = host;
      up = from.bytes;
      at_host = from.at;
      down = to.bytes;
      at_station = to.at;
      events = events;
    }) (bytes_to_host count w)
host_delivered {t} {w} {old} r {host} {from} {to} {events} {count} g =
    let Now : OfHost → ℕ → List ℕ → List Event → Session → Type 0 = λ H n down said w'. RunsWith
    (StationReached old.station) H t (record old { host = host; at_host = n; down = down; events = said }) w' in
    rw (g.from_is, g.to_is, g.told_is) (delivered byte_to_host bytes_to_host (λ w. refl) (λ n w. refl) host_driving
    part_bytes part_prefix_free part_begins host_telling old.up (λ w'. w'.up) (λ w'. w'.at_host) (λ w'. w'.host) Now
    (λ A n down said w' h. record {
      at_place = h.at_host;
      sent_bytes = h.up;
      writable = h.writable_up;
      holds = h.host;
    })
    (λ A B n down said w' h on. with_ends h old.station host (λ l. l) on)
    (λ A n down said w' h more. record {
      inside = λ Then e reached. inside_up h more Then e reached;
      taken = λ Then item e range on reached.
          taken_up h more Then item e range (host_takes w'.host item) refl on reached;
      unrefused = λ item reason e so. unrefused_up h more item reason e so;
    })
    (λ A n down said w' h all. none_up h all) old.host old.at_host old.down old.events w
    (with_ends r old.station host (λ l. l) (λ l. l)) host from to old.at_station events count g)
