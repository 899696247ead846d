-- What stands between both ends: the tokens and records in flight, and what they say of both.

use Rattle.ws_session.proofs.Common as C
use C.{◌≡◌, ◌+◌, List, [], ◌∷◌, ◌++◌, refl, ◌∙◌, ℕ, Option, Some, None, ap, sym, arith, length, append_assoc}
use C.{if◌then◌else◌, ◌⊎◌, Bool, true, false, map, flat_map-append, append-nil, map-append, Telnet, Exchange}
use C.{after_all_to_station, after_all_to_host, host_allows_records, HostState, station_allows_records, TerminalType}
use C.{Opcode, CancelInvite, NoOperation, PutGet, Item, RecordItem, TelnetItem, Record, answer_rules, is_body}
use C.{element_rules, AnswerPart, Element, after_elements, after_end, body_fault, by_host, layouts, read_left_by}
use C.{History, ended, fields, AreApart, pending_read, open_write, Field, ReadKind, Alike, layout_alike, elements_alike}
use C.{end_alike, body_fault_alike, layout_same, by_host-append, read_answer, HostAnswer, same_apart, empty_record}
use C.{telnets, HostEvent, AttentionCame, RequestCame, Event, Host, HostEndState, sent_record, ready_event, signal}
use C.{ready_by_terminal, answers_in, answer_in, host_answers, StationEndState, opcode_events, after_record, Session}
use C.{events_with}
use Rattle.ws_nego.proofs.Exchanges.{Exchanges}
use Rattle.ws_record.proofs.Flights.{InFlight}
use Rattle.ws_screen.specs.Given.{ends_of}
use Rattle.ws_screen.specs.declared.open_write.OpenWrite.{OpenWrite}
use Rattle.ws_screen.proofs.Within.{stays_within}
use Rattle.ws_session.proofs.world.Turns.{Stop as StopMark, DownMark, UpMark, TurnAt, Reply, Done, Text, Read}

abbrev pub is_stop : Opcode → Bool
is_stop CancelInvite = true
is_stop opcode = false

-- a record that the host end has sent
pub data Posted : Type 0 where
  Body : (opcode : Opcode) → is_stop opcode ≡ false → (body : List Element) → is_body body ≡ true → Posted
  Stop : Posted

abbrev pub record_of : Posted → Record Element
record_of (Body opcode other body ok) = sent_record opcode body
record_of Stop = record { flags = 0; opcode = CancelInvite; body = [] }

abbrev pub posted : List Posted → List (Item Element)
posted ds = map (λ d. RecordItem (record_of d)) ds

-- one that the station has sent
pub data Sent : Type 0 where
  Replies : List AnswerPart → Sent
  Ends : Sent
  Signal : ℕ → Sent

abbrev pub item_of : Sent → Item AnswerPart
item_of (Replies parts) = RecordItem (record { flags = 0; opcode = PutGet; body = parts })
item_of Ends = empty_record 0 CancelInvite
item_of (Signal flags) = empty_record flags NoOperation

abbrev pub sents : List Sent → List (Item AnswerPart)
sents es = map item_of es

abbrev pub tokens : {U : Type 0} → List Telnet → List (Item U)
tokens ts = map TelnetItem ts

-- their marks
abbrev pub mark_left : Option ReadKind → DownMark
mark_left None = Text
mark_left (Some kind) = Read kind

abbrev pub marks_of : Posted → List DownMark
marks_of (Body opcode other [] ok) = []
marks_of (Body opcode other (e ∷ es) ok) = mark_left (read_left_by None (e ∷ es)) ∷ []
marks_of Stop = StopMark ∷ []

abbrev pub marks_down : List Posted → List DownMark
marks_down [] = []
marks_down (d ∷ ds) = marks_of d ++ marks_down ds

abbrev pub marks_in : Sent → List UpMark
marks_in (Replies parts) = Reply ∷ []
marks_in Ends = Done ∷ []
marks_in (Signal flags) = []

abbrev pub marks_up : List Sent → List UpMark
marks_up [] = []
marks_up (e ∷ es) = marks_in e ++ marks_up es

-- what the records will have done
abbrev pub after_posted : History → List Posted → History
after_posted h [] = h
after_posted h (d ∷ ds) = after_posted (after_record h (record_of d)) ds

-- no screen refuses them
abbrev pub Fit : History → List Posted → Type 0
Fit h [] = Unit {0}
Fit h (d ∷ ds) = (body_fault h (record_of d).body ≡ None) × Fit (after_record h (record_of d)) ds

-- each answer on its way fits the asked read, and says what is awaited
abbrev pub Awaits : List Field → Option ReadKind → List Sent → List HostAnswer → Type 0
Awaits places asked [] later = later ≡ []
Awaits places asked (Replies parts ∷ es) later = (kind : ReadKind) × (fs : List Field) × (x : HostAnswer)
    × (rest : List HostAnswer) × (asked ≡ Some kind) × (layouts fs ≡ places) × (read_answer kind fs parts ≡ Some x)
    × (later ≡ x ∷ rest) × Awaits places asked es rest
Awaits places asked (e ∷ es) later = Awaits places asked es later

-- what happened to the screens of both ends
pub record Screens (happened kept : History) (ds : List Posted) : Type 0 where
  pub alike : Alike kept (after_posted happened ds)
  pub fits : Fit happened ds
  pub within : AreApart 0 (fields happened)
  pub closed : open_write kept ≡ None

pub record Between (t : TerminalType) (ex : Exchange) (s : StationEndState) (h : HostEndState) (ts us : List Telnet)
    (ds : List Posted) (es : List Sent) (later : List HostAnswer) : Type 0 where
  pub exchanges : Exchanges t ex s.options h.options ts us
  pub host_ready : (ds ≡ []) ⊎ (host_allows_records h.options ≡ true)
  pub station_ready : (es ≡ []) ⊎ (station_allows_records s.options ≡ true)
  pub screens : Screens s.happened h.kept ds
  pub open screens use *
  pub turn : TurnAt (pending_read h.kept) h.cancelling (pending_read s.happened) (marks_down ds) (marks_up es)
  pub waits : Awaits (layouts (fields h.kept)) (pending_read h.kept) es later

abbrev pub screened : {happened kept : History} {ds : List Posted} → Alike kept (after_posted happened ds)
    → Fit happened ds → AreApart 0 (fields happened) → open_write kept ≡ None → Screens happened kept ds
screened a f w c = record { alike = a; fits = f; within = w; closed = c }

abbrev pub betweens : {t : TerminalType} {ex : Exchange} {s : StationEndState} {h : HostEndState} {ts us : List Telnet}
    {ds : List Posted} {es : List Sent} {later : List HostAnswer} → Exchanges t ex s.options h.options ts us
    → (ds ≡ []) ⊎ (host_allows_records h.options ≡ true) → (es ≡ []) ⊎ (station_allows_records s.options ≡ true)
    → Screens s.happened h.kept ds → TurnAt (pending_read h.kept) h.cancelling (pending_read s.happened) (marks_down ds)
    (marks_up es) → Awaits (layouts (fields h.kept)) (pending_read h.kept) es later → Between t ex s h ts us ds es later
betweens x h s c t w = record { exchanges = x; host_ready = h; station_ready = s; screens = c; turn = t; waits = w }

-- RECORDS AND HISTORIES

pub opcode_alike : (o : Opcode) (h : History) → Alike (opcode_events o ++ h) h
opcode_alike o h = by_host-append (opcode_events o) h ∙ ap (λ l. l ++ by_host h) (none o) where
  none : (o : Opcode) → by_host (opcode_events o) ≡ []
  none CancelInvite = refl
  none o = refl

record_alike : (h k : History) → Alike h k → (r : Record Element) → Alike (after_record h r) (after_record k r)
record_alike h k a r =
    let both = end_alike (after_elements h r.body) (after_elements k r.body) (elements_alike h k a r.body) in
    opcode_alike r.opcode (after_end (after_elements h r.body)) ∙ both
    ∙ sym (opcode_alike r.opcode (after_end (after_elements k r.body)))

pub posted_alike : (h k : History) → Alike h k → (ds : List Posted) → Alike (after_posted h ds) (after_posted k ds)
posted_alike h k a [] = a
posted_alike h k a (d ∷ ds) = posted_alike (after_record h (record_of d)) (after_record k (record_of d))
    (record_alike h k a (record_of d)) ds

pub fit_alike : (h k : History) → Alike h k → (ds : List Posted) → Fit h ds → Fit k ds
fit_alike h k a [] f = tt
fit_alike h k a (d ∷ ds) f = (
  sym (body_fault_alike h k a (record_of d).body) ∙ f.0,
  fit_alike (after_record h (record_of d)) (after_record k (record_of d)) (record_alike h k a (record_of d)) ds f.1,
)

pub after_posted_more : (h : History) (ds : List Posted) (d : Posted) → after_posted h (ds ++ d ∷ []) ≡ after_record
    (after_posted h ds) (record_of d)
after_posted_more h [] d = refl
after_posted_more h (x ∷ ds) d = after_posted_more (after_record h (record_of x)) ds d

pub fit_more : (h : History) (ds : List Posted) (d : Posted) → Fit h ds → body_fault (after_posted h ds)
    (record_of d).body ≡ None → Fit h (ds ++ d ∷ [])
fit_more h [] d f n = (n, tt)
fit_more h (x ∷ ds) d f n = (f.0, fit_more (after_record h (record_of x)) ds d f.1 n)

pub marks_down_more : (ds : List Posted) (d : Posted) → marks_down (ds ++ d ∷ []) ≡ marks_down ds ++ marks_of d
marks_down_more [] d = append-nil (marks_of d)
marks_down_more (x ∷ ds) d = ap (λ l. marks_of x ++ l) (marks_down_more ds d)
    ∙ sym (append_assoc (marks_of x) (marks_down ds) (marks_of d))

pub marks_up_more : (es : List Sent) (e : Sent) → marks_up (es ++ e ∷ []) ≡ marks_up es ++ marks_in e
marks_up_more [] e = append-nil (marks_in e)
marks_up_more (x ∷ es) e = ap (λ l. marks_in x ++ l) (marks_up_more es e)
    ∙ sym (append_assoc (marks_in x) (marks_up es) (marks_in e))

pub end_events : (h : History) → layouts (fields (after_end h)) ≡ layouts (fields h)
end_events h = ended_or_not _ where
  ended_or_not : (w : Option OpenWrite) → layouts (fields (ends_of w ++ h)) ≡ layouts (fields h)
  ended_or_not None = refl
  ended_or_not (Some w) = layout_same (ended ∷ h) h refl

pub closed_end : (k : History) → open_write (after_end k) ≡ None
closed_end k = by_write _ refl where
  by_write : (w : Option OpenWrite) → open_write k ≡ w → open_write (ends_of w ++ k) ≡ None
  by_write None e = e
  by_write (Some w) e = refl

pub whole : (d : Posted) → is_body (record_of d).body ≡ true
whole (Body o other body ok) = ok
whole Stop = refl

pub within_record : (h : History) (r : Record Element) → is_body r.body ≡ true → AreApart 0 (fields h)
    → body_fault h r.body ≡ None → AreApart 0 (fields (after_record h r))
within_record h r ok w n =
    let k : History = after_elements h r.body in
    same_apart 0 (fields k) (fields (opcode_events r.opcode ++ after_end k)) (sym (layout_alike (opcode_events r.opcode
    ++ after_end k) (after_end k) (opcode_alike r.opcode (after_end k)) ∙ end_events k)) (stays_within h r.body ok n w)

-- Every session: what is in flight stands between both ends.

pub record Sound (t : TerminalType) (w : Session) : Type 0 where
  pub ts : List Telnet
  pub us : List Telnet
  pub ds : List Posted
  pub es : List Sent
  pub later : List HostAnswer
  pub ex : Exchange
  pub between : Between t ex w.station w.host ts us ds es later
  pub down : InFlight element_rules w.down w.at_station (tokens ts ++ posted ds)
  pub up : InFlight answer_rules w.up w.at_host (tokens us ++ sents es)
  pub answered : w.answered ≡ answers_in w.events ++ later
  pub count : ex.count ≡ telnets w.down + telnets w.up
  pub station_going : w.station_refused ≡ false
  pub host_going : w.host_refused ≡ false

abbrev pub sounds : {t : TerminalType} {w : Session} (ts us : List Telnet) (ds : List Posted) (es : List Sent)
    (later : List HostAnswer) (ex : Exchange) → Between t ex w.station w.host ts us ds es later
    → InFlight element_rules w.down w.at_station (tokens ts ++ posted ds)
    → InFlight answer_rules w.up w.at_host (tokens us ++ sents es) → w.answered ≡ answers_in w.events ++ later
    → ex.count ≡ telnets w.down + telnets w.up → w.station_refused ≡ false → w.host_refused ≡ false → Sound t w
sounds ts us ds es later ex b d u a n s h = record {
  ts = ts;
  us = us;
  ds = ds;
  es = es;
  later = later;
  ex = ex;
  between = b;
  down = d;
  up = u;
  answered = a;
  count = n;
  station_going = s;
  host_going = h;
}

-- A byte more at the station: a token is the first of a full delivery's moves, all else none of them.
pub record Down (t : TerminalType) (ex : Exchange) (down : List (Item Element)) (n : ℕ) (w : Session) : Type 0 where
  pub sound : Sound t w
  pub same_ex : after_all_to_station sound.ex ≡ after_all_to_station ex
  pub same_down : w.down ≡ down
  pub at : w.at_station ≡ n

pub record Up (t : TerminalType) (ex : Exchange) (up : List (Item AnswerPart)) (n : ℕ) (ds : List Posted)
    (w : Session) : Type 0 where
  pub sound : Sound t w
  pub same_ex : after_all_to_host sound.ex ≡ after_all_to_host ex
  pub same_up : w.up ≡ up
  pub at : w.at_host ≡ n
  pub same_ds : sound.ds ≡ ds

abbrev pub downs : {t : TerminalType} {ex : Exchange} {down : List (Item Element)} {n : ℕ} {w : Session}
    → w.down ≡ down → w.at_station ≡ n
    → (sound : Sound t w) → after_all_to_station sound.ex ≡ after_all_to_station ex → Down t ex down n w
downs d n s e = record { sound = s; same_ex = e; same_down = d; at = n }

abbrev pub ups : {t : TerminalType} {ex : Exchange} {up : List (Item AnswerPart)} {n : ℕ} {ds : List Posted} {w : Session}
    → w.up ≡ up → w.at_host ≡ n → (sound : Sound t w) → sound.ds ≡ ds
    → after_all_to_host sound.ex ≡ after_all_to_host ex → Up t ex up n ds w
ups u n s d e = record { sound = s; same_ex = e; same_up = u; at = n; same_ds = d }

telnets_append : {U : Type 0} (xs ys : List (Item U)) → telnets (xs ++ ys) ≡ telnets xs + telnets ys
telnets_append [] ys = omega arith
telnets_append (TelnetItem t ∷ xs) ys = omega (arith, telnets_append xs ys)
telnets_append (RecordItem r ∷ xs) ys = telnets_append xs ys

telnets_tokens : (U : Type 0) (ts : List Telnet) → telnets {U = U} (tokens ts) ≡ length ts
telnets_tokens U [] = refl
telnets_tokens U (t ∷ ts) = omega (arith, telnets_tokens U ts)

telnets_posted : (ds : List Posted) → telnets (posted ds) ≡ 0
telnets_posted [] = refl
telnets_posted (d ∷ ds) = telnets_posted ds

telnets_sents : (es : List Sent) → telnets (sents es) ≡ 0
telnets_sents [] = refl
telnets_sents (Replies parts ∷ es) = telnets_sents es
telnets_sents (e ∷ es) = telnets_sents es

pub with_tokens : {U : Type 0} (xs : List (Item U)) (ts : List Telnet) → telnets (xs ++ tokens ts)
    ≡ telnets xs + length ts
with_tokens {U} xs ts = telnets_append xs _ ∙ ap (λ n. telnets xs + n) (telnets_tokens U ts)

pub with_sents : (xs : List (Item AnswerPart)) (es : List Sent) → telnets (xs ++ sents es) ≡ telnets xs
with_sents xs es = omega (arith, telnets_append xs (sents es), telnets_sents es)

pub with_posted : (xs : List (Item Element)) (ds : List Posted) → telnets (xs ++ posted ds) ≡ telnets xs
with_posted xs ds = omega (arith, telnets_append xs (posted ds), telnets_posted ds)

pub with_none : {U : Type 0} (xs : List (Item U)) → telnets (xs ++ []) ≡ telnets xs
with_none xs = ap telnets (append-nil xs)

-- an event that is no answer
pub quiet_event : (events : List Event) (e : Event) → answer_in e ≡ [] → answers_in (events ++ e ∷ [])
    ≡ answers_in events
quiet_event events e none = flat_map-append answer_in events (e ∷ []) ∙ ap (λ l. answers_in events ++ (l ++ [])) none
    ∙ append-nil (answers_in events)

abbrev IsSilent : Option HostEvent → Type 0
IsSilent None = Unit {0}
IsSilent (Some event) = host_answers event ≡ []

pub quiet_told : (events : List Event) (event : Option HostEvent) → IsSilent event
    → answers_in (events_with events event) ≡ answers_in events
quiet_told events None s = refl
quiet_told events (Some event) s = quiet_event events (Host event) s

pub ready_silent : (was : Bool) (now : HostState) → IsSilent (ready_event was now)
ready_silent was now = by_test _ _ where
  by_test : (b : Bool) (o : Option TerminalType) → IsSilent (if b then ready_by_terminal o else None)
  by_test true (Some terminal) = refl
  by_test b o = tt

pub signal_silent : (flags : ℕ) → IsSilent (signal flags)
signal_silent flags = by_tests _ _ where
  by_tests : (a b : Bool) → IsSilent (if a then Some AttentionCame else (if b then Some RequestCame else None))
  by_tests false false = tt
  by_tests a b = refl

-- tokens behind tokens
pub behind : {U : Type 0} (ts reply : List Telnet) (xs : List (Item U)) → xs ≡ [] → (tokens ts ++ xs) ++ tokens reply
    ≡ tokens (ts ++ reply) ++ xs
behind ts reply xs e = ap (λ z. (tokens ts ++ z) ++ tokens reply) e
    ∙ ap (λ z. z ++ tokens reply) (append-nil (tokens ts)) ∙ sym (map-append TelnetItem ts reply)
    ∙ sym (append-nil (tokens (ts ++ reply))) ∙ ap (λ z. tokens (ts ++ reply) ++ z) (sym e)

-- records behind what stands there
pub records_up : (us : List Telnet) (es more : List Sent) → (tokens us ++ sents es) ++ sents more ≡ tokens us
    ++ sents (es ++ more)
records_up us es more = append_assoc (tokens us) (sents es) (sents more)
    ∙ ap (λ (z : List (Item AnswerPart)). tokens us ++ z) (sym (map-append item_of es more))

pub records_down : (ts : List Telnet) (ds more : List Posted) → (tokens ts ++ posted ds) ++ posted more ≡ tokens ts
    ++ posted (ds ++ more)
records_down ts ds more = append_assoc (tokens ts) (posted ds) (posted more)
    ∙ ap (λ (z : List (Item Element)). tokens ts ++ z) (sym (map-append (λ d. RecordItem (record_of d)) ds more))
