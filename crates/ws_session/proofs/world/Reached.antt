-- A running session is a world that its moves lead to.

use Rattle.ws_session.proofs.Common as C
use C.{IfOk, ◌≡◌, ◌+◌, ◌≤◌, List, [], ◌∷◌, ◌++◌, refl, subst, ◌∙◌, ℕ, ◌<◌, Option, Some, None, take, ap, sym, arith}
use C.{◌^◌, length, length-take, if◌then◌else◌, Bool, true, false, Err, Ok, Result, ap₂, flat_map-append, append-nil}
use C.{spelling_of, AreBytes, TerminalType, arrived, plain_spelling, item_spelling, IsInRange, record_spelling}
use C.{CanBeEncoded, header, NoOperation, PutGet, Item, header_length, answer_rules, element_rules, AnswerPart, Element}
use C.{ScreenParts, IsLegal, ReadKind, one_screen, answer_parts, key_refusal, answer_of, Read, Attention, SystemRequest}
use C.{HostAnswer, Key, Send, KeyRefusal, empty_record, SendFault, SendFailed, NoMemory, ATN, SRQ, KeyFault, KeyFailed}
use C.{NotReady, Event, KeyRefused, SendRefused, Move, Press, AtHost, HostReached, HostParts, IsSent, HostEndState}
use C.{SendReaction, RefusesSend, answer_spelling, AtStation, StationParts, StationReached, StationEndState, screen_at}
use C.{KeyReaction, RefusesKey, Silent, Answers, Signals, station_key, answers_read, key_by_refusal, presses}
use C.{answer_record, AreWritable, WorldParts, RunsWith, Runs, IsGiven, IsKey, Session, new_session, after_moves}
use C.{after_move, down_bytes, up_bytes, station_pressed, host_sent, after_press, after_send}
use Rattle.ws_code.specs.Aid.{IsAid}
use Rattle.ws_record.proofs.Flights.{writable_append, still_led, not_more}
use Rattle.ws_keys.specs.declared.answer.Answer.{Answer}
use Rattle.ws_keys.proofs.WholeLaws.{answer_whole, answer_short}
use Rattle.ws_end.specs.declared.end_step.HostRequest.{HostRequest}
use Rattle.ws_end.specs.declared.end_step.Sent.{Sent}
use Rattle.ws_end.specs.host_end.HostReached.{CarriesOut, sent_bytes}
use Rattle.ws_end.specs.host_end.HostEndState.{host_requests}
use Rattle.ws_end.proofs.EndRequests.{refrains}
use Rattle.ws_session.proofs.world.Betweens.{Sound}
use Rattle.ws_session.proofs.world.Worlds.{sound}
use Rattle.ws_end.specs.station.Stations.{IsKeyedOn}
use Rattle.ws_end.specs.station.StationEndState.{on_profile}

pub after_both : (xs ys : List Move) (w : Session) → after_moves w (xs ++ ys) ≡ after_moves (after_moves w xs) ys
after_both [] ys w = refl
after_both (x ∷ xs) ys w = after_both xs ys _

-- what holds of the bytes that came to an end, of their items and of its state
abbrev pub OfStation : Type 1
OfStation = List ℕ → List (Item Element) → StationEndState → Type 0

abbrev pub OfHost : Type 1
OfHost = List ℕ → List (Item AnswerPart) → HostEndState → Type 0

module _ {S : OfStation} {H : OfHost} {t : TerminalType} {w : Session} {old : WorldParts} (r : RunsWith S H t old w) where
  pub is_sound : Sound t w
  is_sound = subst (Sound t) (sym r.by_moves) (sound t r.moves)

  pub going_station : w.station_refused ≡ false
  going_station = is_sound.station_going

  pub reached_by : (move : Move) → after_move w move ≡ after_moves (new_session t) (r.moves ++ move ∷ [])
  reached_by move = ap (λ z. after_move z move) r.by_moves ∙ sym (after_both r.moves (move ∷ []) (new_session t))

  pub going_host : w.host_refused ≡ false
  going_host = is_sound.host_going

  -- a move more, by the world behind it and by what a session keeps then
  module _ (move : Move) where
    runs_with : (S' : OfStation) (H' : OfHost) (next : Session) (new : WorldParts) → after_move w move ≡ next
        → new.down ≡ down_bytes next → new.up ≡ up_bytes next → new.at_station ≡ next.at_station
        → new.at_host ≡ next.at_host → AreWritable element_rules next.down → AreWritable answer_rules next.up
        → S' (take next.at_station (down_bytes next)) (arrived element_rules next.down next.at_station) next.station
        → H' (take next.at_host (up_bytes next)) (arrived answer_rules next.up next.at_host) next.host
        → new.events ≡ next.events → RunsWith S' H' t new (after_move w move)
    runs_with S' H' next new does down up at_station at_host writable_down writable_up station host events =
        subst (RunsWith S' H' t new) (sym does) (record {
          moves = r.moves ++ move ∷ [];
          by_moves = sym does ∙ reached_by move;
          down = down;
          up = up;
          at_station = at_station;
          at_host = at_host;
          writable_down = writable_down;
          writable_up = writable_up;
          station = station;
          host = host;
          events = events;
        })

    pub runs_on : (next : Session) (new : WorldParts) → after_move w move ≡ next → new.down ≡ down_bytes next
        → new.up ≡ up_bytes next → new.at_station ≡ next.at_station → new.at_host ≡ next.at_host
        → AreWritable element_rules next.down → AreWritable answer_rules next.up → StationReached new.station
        (take next.at_station (down_bytes next)) (arrived element_rules next.down next.at_station) next.station
        → HostReached new.host (take next.at_host (up_bytes next)) (arrived answer_rules next.up next.at_host) next.host
        → new.events ≡ next.events → Runs t new (after_move w move)
    runs_on next new = runs_with (StationReached new.station) (HostReached new.host) next new

    -- at which the station writes
    pub station_writes : (Then : OfStation) (state : StationEndState) (items : List (Item AnswerPart)) (n : ℕ)
        (answered : List HostAnswer) (station : StationParts) (text : List ℕ) (at : ℕ)
        → after_move w move ≡ record w { station = state; up = w.up ++ items; at_station = n; answered = answered }
        → text ≡ plain_spelling answer_rules items → AreWritable answer_rules items → at ≡ n
        → Then (take n (down_bytes w)) (arrived element_rules w.down n) state
        → RunsWith Then H t (record old { station = station; up = old.up ++ text; at_station = at }) (after_move w move)
    station_writes Then state items n answered station text at does spelled fit same reached =
        runs_with Then H (record w { station = state; up = w.up ++ items; at_station = n; answered = answered })
        (record old { station = station; up = old.up ++ text; at_station = at }) does r.down
        (ap₂ (λ x y. x ++ y) r.up spelled ∙ sym (flat_map-append (item_spelling answer_rules) w.up items))
        same r.at_host r.writable_down (writable_append answer_rules w.up items r.writable_up fit) reached
        (still_led answer_rules (λ x its. H x its w.host) w.up items w.at_host
        (not_more answer_rules w.up w.at_host _ is_sound.up) r.host) r.events

    -- at which the host end does
    pub host_writes : (Then : OfHost) (state : HostEndState) (items : List (Item Element)) (n : ℕ) (events : List Event)
        (host : HostParts) (text : List ℕ) (at : ℕ) (end_events : List Event)
        → after_move w move ≡ record w { host = state; down = w.down ++ items; at_host = n; events = events }
        → text ≡ plain_spelling element_rules items → AreWritable element_rules items → at ≡ n → end_events ≡ events
        → Then (take n (up_bytes w)) (arrived answer_rules w.up n) state
        → RunsWith S Then t (record old { host = host; down = old.down ++ text; at_host = at; events = end_events })
        (after_move w move)
    host_writes Then state items n events host text at end_events does spelled fit same is reached =
        runs_with S Then (record w { host = state; down = w.down ++ items; at_host = n; events = events })
        (record old { host = host; down = old.down ++ text; at_host = at; events = end_events }) does
        (ap₂ (λ x y. x ++ y) r.down spelled ∙ sym (flat_map-append (item_spelling element_rules) w.down items)) r.up
        r.at_station same (writable_append element_rules w.down items r.writable_down fit) r.writable_up
        (still_led element_rules (λ x its. S x its w.station) w.down items w.at_station
        (not_more element_rules w.down w.at_station _ is_sound.down) r.station) reached is

-- The host end of a running session sends or cancels.

by_going : (w : Session) (reaction : SendReaction) → w.host_refused ≡ false → after_send w reaction ≡ host_sent w reaction
by_going w reaction e = ap (λ (b : Bool). host_sent w (if b then RefusesSend SendFailed else reaction)) e

-- what has arrived can be counted
pub few_down : {t : TerminalType} {w : Session} {old : WorldParts} → Runs t old w → length old.down + 1 < 2 ^ 64
    → length (take w.at_station (down_bytes w)) + 1 < 2 ^ 64
few_down {w = w} r few = omega (arith, few, ap (λ z. length z) r.down, length-take w.at_station (down_bytes w))

pub few_up : {t : TerminalType} {w : Session} {old : WorldParts} → Runs t old w → length old.up + 1 < 2 ^ 64
    → length (take w.at_host (up_bytes w)) + 1 < 2 ^ 64
few_up {w = w} r few = omega (arith, few, ap (λ z. length z) r.up, length-take w.at_host (up_bytes w))

module _ {t : TerminalType} {w : Session} {old : WorldParts} (r : Runs t old w) (move : Move)
    (request : HostRequest) (moves_by : after_move w move ≡ after_send w (host_requests w.host request)) where
  host_wrote : length old.up + 1 < 2 ^ 64 → (host : HostParts) (text : List ℕ)
      → AtHost old.host (λ bytes items state. length bytes + 1 < 2 ^ 64 → IsSent host bytes items
      (host_requests state request) text)
      → Runs t (record old { host = host; down = old.down ++ text }) (after_send w (host_requests w.host request))
  host_wrote few host text p =
      let x = p _ _ _ r.host (few_up r few) in
      rw (← moves_by) (host_writes r move (HostReached host) x.0
      (x.1 ∷ []) w.at_host w.events host text old.at_host old.events
      (moves_by ∙ by_going w (host_requests w.host request) (going_host r) ∙ ap (host_sent w) x.2)
      (x.3 ∙ sym (append-nil (item_spelling element_rules x.1))) ((x.4, tt), (x.5, tt)) r.at_host r.events x.6)

  host_refrained : (fault : SendFault) → host_requests w.host request ≡ RefusesSend fault
      → Runs t (record old { events = old.events ++ SendRefused fault ∷ [] })
      (after_send w (host_requests w.host request))
  host_refrained fault e = rw (← moves_by) (runs_on r move (record w { events = w.events ++ SendRefused fault ∷ [] })
      (record old { events = old.events ++ SendRefused fault ∷ [] }) (moves_by ∙ by_going w _ (going_host r)
      ∙ ap (host_sent w) e) r.down r.up r.at_station r.at_host r.writable_down r.writable_up r.station r.host
      (ap (λ z. z ++ SendRefused fault ∷ []) r.events))

  pub host_gives : length old.up + 1 < 2 ^ 64 → (host : HostParts) (sent : Result Sent SendFault) (new : WorldParts)
      → CarriesOut request old.host host sent → IsGiven (record old { host = host }) sent new
      → Runs t new (after_send w (host_requests w.host request))
  host_gives few host (Ok sent) new c is = rw is (host_wrote few host (sent_bytes sent) c.sent)
  host_gives few host (Err NoMemory) new c is = absurd is
  host_gives few host (Err fault) new c is = rw (is, c.same)
      (host_refrained fault (refrains _ fault (λ e. cc) (c.sent _ _ _ r.host (few_up r few))))

pub both_if_ok : {A E : Type 0} (r : Result A E) (P Q : A → Type 0) → IfOk r P → IfOk r Q → IfOk r (λ a. P a × Q a)
both_if_ok (Ok a) P Q p q = (p, q)
both_if_ok (Err e) P Q p q = tt

-- What a key makes of a running session.

-- the AID of an answer is a key's
abbrev AidIs : KeyReaction → Type 0
AidIs (Answers next kind aid) = IsAid aid
AidIs reaction = Unit {0}

aid_is : (s : StationEndState) (key : Key) → IsKey key → AidIs (station_key s key)
aid_is s key h = by_ready _ where
  by_kind : (aid : ℕ) → IsAid aid → (o : Option ReadKind) → AidIs (answers_read s aid o)
  by_kind aid h None = tt
  by_kind aid h (Some kind) = h

  by_key : (key : Key) → IsKey key → AidIs (presses s key)
  by_key (Send aid) h = by_kind aid h _
  by_key key h = tt

  by_refusal : (o : Option KeyRefusal) → AidIs (key_by_refusal s key o)
  by_refusal None = by_key key h
  by_refusal (Some refusal) = tt

  by_ready : (b : Bool) → AidIs (if b then RefusesKey NotReady else key_by_refusal s key
      (key_refusal (screen_at s) key))
  by_ready true = tt
  by_ready false = by_refusal _

module _ {t : TerminalType} {w : Session} {old : WorldParts} (r : Runs t old w) (key : Key) where
  by_key : (reaction : KeyReaction) → station_key w.station key ≡ reaction → after_press w key
      ≡ station_pressed w reaction
  by_key reaction e = ap (λ (b : Bool). station_pressed w
      (if b then RefusesKey KeyFailed else station_key w.station key)) (going_station r) ∙ ap (station_pressed w) e

  module _ (few : length old.down + 1 < 2 ^ 64) (station : StationParts) where
    abbrev Keys : Result (Option Answer) KeyFault → Type 0
    Keys result = AtStation old.station (λ bytes items state. length bytes + 1 < 2 ^ 64
        → IsKeyedOn on_profile old.station station bytes items state key result)

    pub key_silent : Keys (Ok None) → Runs t (record old { station = station }) (after_press w key)
    key_silent p =
        let k = p _ _ _ r.station (few_down r few) in
        runs_on r (Press key) (record w { station = k.0 }) (record old { station = station })
        (by_key (Silent k.0) k.1) r.down r.up r.at_station r.at_host r.writable_down r.writable_up k.2 r.host r.events

    pub key_refused : (fault : KeyFault) → Keys (Err fault)
        → Runs t (record old { station = station; events = old.events ++ KeyRefused fault ∷ [] }) (after_press w key)
    key_refused fault p =
        let k = p _ _ _ r.station (few_down r few) in
        runs_on r (Press key) (record w { events = w.events ++ KeyRefused fault ∷ [] })
        (record old { station = station; events = old.events ++ KeyRefused fault ∷ [] }) (by_key (RefusesKey fault) k.0)
        r.down r.up r.at_station r.at_host r.writable_down r.writable_up (rw k.1 r.station) r.host
        (ap (λ z. z ++ KeyRefused fault ∷ []) r.events)

    wrote : (state : StationEndState) (item : Item AnswerPart) (end_events : List HostAnswer)
        (text : List ℕ) → text ≡ item_spelling answer_rules item → CanBeEncoded answer_rules item → IsInRange item
        → StationReached station (take w.at_station (down_bytes w)) (arrived element_rules w.down w.at_station) state
        → after_press w key ≡ record w { station = state; up = w.up ++ item ∷ []; answered = end_events }
        → Runs t (record old { station = station; up = old.up ++ text }) (after_press w key)
    wrote state item end_events text spelled fit range reached does =
        station_writes r (Press key) (StationReached station) state
        (item ∷ []) w.at_station end_events station text old.at_station does
        (spelled ∙ sym (append-nil (item_spelling answer_rules item))) ((fit, tt), (range, tt)) r.at_station reached

    pub key_wrote : IsKey key → IsLegal old.station.reacts.screen.screen → AreBytes old.station.reacts.screen.screen.cells
        → old.station.reacts.screen.screen.cursor < 1920 → (answer : Answer) → Keys (Ok (Some answer))
        → Runs t (record old { station = station; up = old.up ++ answer_spelling answer }) (after_press w key)
    key_wrote known legal bytes small (Read body) p =
        let k = p _ _ _ r.station (few_down r few) in
        let shown : ScreenParts = screen_at w.station in
        let parts : List AnswerPart = answer_parts k.1 shown k.2 in
        let aid : IsAid k.2 = subst AidIs k.3 (aid_is w.station key known) in
        let same : old.station.reacts.screen.screen ≡ shown =
        one_screen w.station.happened old.station.reacts.screen.screen r.station.stands.given.shows legal.size in
        let lawful : IsLegal shown = subst IsLegal same legal in
        let whole = answer_whole k.1 shown k.2 lawful (subst (λ (z : ScreenParts). AreBytes z.cells) same bytes)
        (subst (λ (z : ScreenParts). z.cursor < 1920) same small) aid in
        let fits : length (spelling_of answer_rules parts) ≤ 2691 = answer_short k.1 shown k.2 lawful in
        let all = header_length (10 + length (spelling_of answer_rules parts)) 0 PutGet
        (spelling_of answer_rules parts) in
        wrote k.0 (answer_record shown k.1 k.2) (w.answered ++ answer_of k.1 shown k.2 ∷ [])
        (answer_spelling (Read body)) (ap (λ z. record_spelling (header (10 + length z) 0 PutGet ++ z)) k.4)
        (whole, omega (arith, all, fits)) (omega arith) k.5 (by_key (Answers k.0 k.1 k.2) k.3)
    key_wrote known legal bytes small Attention p =
        let k = p _ _ _ r.station (few_down r few) in
        wrote w.station (empty_record ATN NoOperation) w.answered (answer_spelling Attention) refl
        (record { chain = tt; ends = refl }, omega arith) (omega arith) k.1 (by_key (Signals NoOperation ATN) k.0)
    key_wrote known legal bytes small SystemRequest p =
        let k = p _ _ _ r.station (few_down r few) in
        wrote w.station (empty_record SRQ NoOperation) w.answered (answer_spelling SystemRequest) refl
        (record { chain = tt; ends = refl }, omega arith) (omega arith) k.1 (by_key (Signals NoOperation SRQ) k.0)
