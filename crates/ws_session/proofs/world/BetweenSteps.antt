-- What stands between both ends, where a token or a record comes to one of them.

use Rattle.ws_session.proofs.Common as C
use C.{◌||◌, ◌≡◌, ◌+◌, List, [], ◌∷◌, ◌++◌, refl, subst, ◌∙◌, ℕ, Option, Some, None, ap, sym, inl, inr, length}
use C.{if◌then◌else◌, unwrap_or, ◌⊎◌, Bool, true, false, is_some, append-nil, Telnet, Exchange, host_allows_records}
use C.{HostState, host_answer, Answer, station_allows_records, station_answer, TerminalType, Opcode, CancelInvite}
use C.{is_body, AnswerPart, Element, after_elements, after_end, body_fault, by_host, layouts, read_left_by, cancelled}
use C.{History, Edit, fields, pending_read, open_write, Field, ReadKind, Alike, open_write_alike, layout_alike}
use C.{elements_alike, end_alike, body_fault_alike, pending-elements, pending-end, answer_parts, edit_of, events_by}
use C.{is_answered, read_answer, answer_of, HostAnswer, Send, aids_answer, own_reading, same_reading, same_apart}
use C.{HostEndState, sent_record, is_outstanding, after_read, StationEndState, opcode_events, after_record, after_key}
use C.{screen_at, opcode_answer}
use Rattle.std.proofs.lemmas.List.FromFn.{length-map-range_with_len}
use Rattle.ws_nego.specs.Exchange.{after_token_move, ToStation, ToHost}
use Rattle.ws_nego.proofs.Exchanges.{x_down_count, x_up_count, x_station, x_both, x_down, x_host, x_up}
use Rattle.ws_screen.specs.Cells.{cell}
use Rattle.ws_screen.specs.Given.{ends_of}
use Rattle.ws_session.proofs.world.Betweens.{after_posted_more, marks_down_more, within_record, marks_up_more}
use Rattle.ws_session.proofs.world.Betweens.{after_posted, opcode_alike, posted_alike, marks_down, closed_end}
use Rattle.ws_session.proofs.world.Betweens.{end_events, record_of, Awaits, mark_left, fit_alike, screened, betweens}
use Rattle.ws_session.proofs.world.Betweens.{marks_up, fit_more, marks_of, Screens, is_stop, Between, Replies, Signal}
use Rattle.ws_session.proofs.world.Betweens.{Posted, whole, sents, Body, Sent, Stop, Ends}
use Rattle.ws_session.proofs.world.Turns.{down_read, send_read, down_text, send_text, send_stop, down_stop, DownMark}
use Rattle.ws_session.proofs.world.Turns.{at_turn, no_reply, up_reply, up_done, answer, UpMark, TurnAt, Done}
use Rattle.ws_session.proofs.world.Turns.{Stop as StopMark}

-- a token comes to the station
module _ {t : TerminalType} {ex : Exchange} {s : StationEndState} {h : HostEndState} {token : Telnet}
    {ts us : List Telnet}
    {ds : List Posted} {es : List Sent} {later : List HostAnswer} (b : Between t ex s h
    (token ∷ ts) us ds es later) where
  pub station_token : (es ≡ [])
      × ((after_token_move ToStation ex).count ≡ ex.count + length (station_answer s.options token).reply) × Between t
      (after_token_move ToStation ex) (record { options = (station_answer s.options token).after; happened = s.happened })
      h ts (us ++ (station_answer s.options token).reply) ds es later
  station_token =
      let none : es ≡ [] = elim b.station_ready [ inl e ↦ e | inr a ↦ (let e = x_station b.exchanges a in cc) ] in
      (none, x_down_count b.exchanges, betweens (x_down b.exchanges) b.host_ready (inl none) b.screens b.turn b.waits)

-- a token comes to the host end
module _ {t : TerminalType} {ex : Exchange} {s : StationEndState} {h : HostEndState} {token : Telnet}
    {ts us : List Telnet}
    {ds : List Posted} {es : List Sent} {later : List HostAnswer} (b : Between t ex s h ts
    (token ∷ us) ds es later) where
  pub host_token : (a : Answer HostState) → host_answer h.options token ≡ Some a
      → (ds ≡ []) × ((after_token_move ToHost ex).count ≡ ex.count + length a.reply) × Between t (after_token_move ToHost ex) s
      (record { options = a.after; kept = h.kept; cancelling = h.cancelling }) (ts ++ a.reply) us ds es later
  host_token a q =
      let none : ds ≡ [] = elim b.host_ready [ inl e ↦ e | inr f ↦ (let e = (x_host b.exchanges f).1 in cc) ] in
      let x = x_up b.exchanges a q in
      (none, x_up_count b.exchanges a q, betweens x (inl none) b.station_ready b.screens b.turn b.waits)

-- RECORDS COME TO THE STATION

-- what the station writes then
abbrev pub answers_to : Posted → List Sent
answers_to (Body opcode other body ok) = []
answers_to Stop = Ends ∷ []

pub answer_items : (d : Posted) → opcode_answer (record_of d).opcode ≡ sents (answers_to d)
answer_items (Body o other body ok) = none o other where
  none : (o : Opcode) → is_stop o ≡ false → opcode_answer o ≡ []
  none CancelInvite e = cc
  none o e = refl
answer_items Stop = refl

pending-opcode : (o : Opcode) → is_stop o ≡ false → (h : History) → pending_read (opcode_events o ++ h) ≡ pending_read h
pending-opcode CancelInvite e h = cc
pending-opcode o e h = refl

pending-body : (h : History) (o : Opcode) → is_stop o ≡ false → (body : List Element)
    → pending_read (after_record h (sent_record o body)) ≡ read_left_by (pending_read h) body
pending-body h o other body = pending-opcode o other (after_end (after_elements h body))
    ∙ pending-end (after_elements h body) ∙ pending-elements h body

module _ (a : Option ReadKind) (c : Bool) (p : Option ReadKind) (later : List DownMark) (u : List UpMark) where
  -- a body that isn't empty
  turn_body : (left : Option ReadKind) → TurnAt a c p (mark_left left ∷ later) u → TurnAt a c left later u × (p ≡ None)
  turn_body None t = at_turn t (down_text later) refl
  turn_body (Some kind) t = at_turn t (down_read kind later) refl

turn_record : (a : Option ReadKind) (c : Bool) (h : History) (d : Posted) (ds : List Posted) (es : List Sent)
    → TurnAt a c (pending_read h) (marks_down (d ∷ ds)) (marks_up es)
    → TurnAt a c (pending_read (after_record h (record_of d))) (marks_down ds) (marks_up (es ++ answers_to d))
turn_record a c h (Body o other [] ok) ds es t = rw (append-nil es) (rw (pending-body h o other []) t)
turn_record a c h (Body o other (e ∷ body) ok) ds es t =
    let found = turn_body a c (pending_read h) (marks_down ds) (marks_up es) (read_left_by None (e ∷ body)) t in
    let is : pending_read (after_record h (sent_record o (e ∷ body))) ≡ read_left_by None
    (e ∷ body) = pending-body h o other (e ∷ body) ∙ ap (λ q. read_left_by q (e ∷ body)) found.1 in
    rw (append-nil es) (rw is found.0)
turn_record a c h Stop ds es t = rw (marks_up_more es Ends) (at_turn t (down_stop (marks_down ds)) refl)

waits_more : (places : List Field) (asked : Option ReadKind) (es : List Sent) (later : List HostAnswer) (d : Posted)
    → Awaits places asked es later → Awaits places asked (es ++ answers_to d) later
waits_more places asked es later (Body o other body ok) w = rw (append-nil es) w
waits_more places asked es later Stop w = more es later w where
  more : (es : List Sent) (later : List HostAnswer) → Awaits places asked es later → Awaits places asked
      (es ++ Ends ∷ []) later
  more [] later w = w
  more (Replies parts ∷ es) later w = (w.0, w.1, w.2, w.3, w.4, w.5, w.6, w.7, more es w.3 w.8)
  more (e ∷ es) later w = more es later w

-- a record comes to the station, which doesn't refuse it
module _ {t : TerminalType} {ex : Exchange} {s : StationEndState} {h : HostEndState} {us : List Telnet} {d : Posted}
    {ds : List Posted} {es : List Sent} {later : List HostAnswer} (b : Between t ex s h [] us (d ∷ ds) es later) where
  pub station_record : (station_allows_records s.options ≡ true) × (body_fault s.happened (record_of d).body ≡ None)
      × Between t ex (record { options = s.options; happened = after_record s.happened (record_of d) }) h [] us ds
      (es ++ answers_to d) later
  station_record =
      let ready : host_allows_records h.options ≡ true = elim b.host_ready [ inl e ↦ cc | inr f ↦ f ] in
      let allows : station_allows_records s.options ≡ true = (x_host b.exchanges ready).2 in
      let within = within_record s.happened (record_of d) (whole d) b.within b.fits.0 in
      let turn = turn_record (pending_read h.kept) h.cancelling s.happened d ds es b.turn in
      let waits = waits_more (layouts (fields h.kept)) (pending_read h.kept) es later d b.waits in
      let screens : Screens _ h.kept ds = screened b.alike b.fits.1 within b.closed in
      (allows, b.fits.0, betweens b.exchanges (inr ready) (inr allows) screens turn waits)

-- RECORDS COME TO THE HOST END

module _ {t : TerminalType} {ex : Exchange} {s : StationEndState} {h : HostEndState} {ts : List Telnet}
    {ds : List Posted}
    {e : Sent} {es : List Sent} {later : List HostAnswer} (b : Between t ex s h ts [] ds (e ∷ es) later) where
  host_ready_for : host_allows_records h.options ≡ true
  host_ready_for =
      let allows : station_allows_records s.options ≡ true = elim b.station_ready [ inl e ↦ cc | inr f ↦ f ] in
      x_both b.exchanges allows refl

-- while no answer is on its way nothing is awaited
pub waits_any : (p q : List Field) (a o : Option ReadKind) (es : List Sent) (later : List HostAnswer)
    → (marks_up es ≡ []) ⊎ (marks_up es ≡ Done ∷ []) → Awaits p a es later → Awaits q o es later
waits_any p q a o [] later n w = w
waits_any p q a o (Replies parts ∷ es) later n w = elim n [ inl e ↦ cc | inr e ↦ cc ]
waits_any p q a o (Ends ∷ es) later n w = waits_any p q a o es later (inl (elim n [ inl e ↦ cc | inr e ↦ cc ])) w
waits_any p q a o (Signal flags ∷ es) later n w = waits_any p q a o es later n w

-- a read's end leaves the screens
unasked : {h kept : History} {ds : List Posted} → Screens h kept ds → Screens h (cancelled ∷ kept) ds
unasked {kept = k} c = screened c.alike c.fits c.within (open_write_alike (cancelled ∷ k) k refl ∙ c.closed)

module _ {t : TerminalType} {ex : Exchange} {s : StationEndState} {h : HostEndState} {ts : List Telnet}
    {ds : List Posted}
    {es : List Sent} {later : List HostAnswer} where
  pub host_reply : {parts : List AnswerPart} → Between t ex s h ts [] ds (Replies parts ∷ es) later
      → (kind : ReadKind) × (x : HostAnswer) × (rest : List HostAnswer) × (host_allows_records h.options ≡ true)
      × (pending_read h.kept ≡ Some kind) × (read_answer kind (fields h.kept) parts ≡ Some x)
      × (later ≡ x ∷ rest) × Between t ex s (after_read h h.cancelling) ts [] ds es rest
  host_reply {parts} b =
      let ready = host_ready_for b in
      let w = b.waits in
      let turn : TurnAt None h.cancelling (pending_read s.happened) (marks_down ds) (marks_up es) = at_turn b.turn
      (up_reply (marks_up es)) refl in
      let read = same_reading w.0 (fields h.kept) w.1 (sym w.5) parts ∙ w.6 in
      let waits = waits_any (layouts (fields h.kept)) (layouts (fields (cancelled ∷ h.kept))) (pending_read h.kept) None
      es w.3 (at_turn turn no_reply refl) w.8 in
      let now : Between t ex s (after_read h h.cancelling) ts [] ds es w.3 =
      betweens b.exchanges (inr ready) (inr (x_host b.exchanges ready).2) (unasked b.screens) turn waits in
      (w.0, w.2, w.3, ready, w.4, read, w.7, now)

  pub host_end : Between t ex s h ts [] ds (Ends ∷ es) later → (host_allows_records h.options ≡ true)
      × (h.cancelling ≡ true) × Between t ex s (after_read h false) ts [] ds es later
  host_end b =
      let ready = host_ready_for b in
      let found = at_turn b.turn (up_done (marks_up es)) refl in
      let waits = waits_any (layouts (fields h.kept)) (layouts (fields (cancelled ∷ h.kept))) (pending_read h.kept) None
      es later (at_turn found.0 no_reply refl) b.waits in
      let now : Between t ex s (after_read h false) ts [] ds es later =
      betweens b.exchanges (inr ready) (inr (x_host b.exchanges ready).2) (unasked b.screens) found.0 waits in
      (ready, found.1, now)

  pub host_signal : {flags : ℕ} → Between t ex s h ts [] ds (Signal flags ∷ es) later
      → (host_allows_records h.options ≡ true) × Between t ex s h ts [] ds es later
  host_signal b =
      let ready = host_ready_for b in
      (ready, betweens b.exchanges (inr ready) (inr (x_host b.exchanges ready).2) b.screens b.turn b.waits)

-- What stands between both ends, where a key is pressed, or the host end sends or cancels.

-- what a key sets leaves the host's events
keyed_alike : (o : Option Edit) (h : History) → Alike (events_by o ++ h) h
keyed_alike None h = refl
keyed_alike (Some edit) h = refl

pub pending-keyed : (o : Option Edit) (h : History) (b : Bool) → is_answered o ≡ b → pending_read (events_by o ++ h)
    ≡ (if b then None else pending_read h)
pending-keyed None h b e = ap (λ (t : Bool). if t then None else pending_read h) e
pending-keyed (Some edit) h b e = ap (λ (t : Bool). unwrap_or (if t then Some None else None) (pending_read h)) e
    ∙ by_test b where
      by_test : (t : Bool) → unwrap_or (if t then Some None else None) (pending_read h)
          ≡ (if t then None else pending_read h)
      by_test true = refl
      by_test false = refl

keyed : {h kept : History} {ds : List Posted} (o : Option Edit) → Screens h kept ds → Screens (events_by o ++ h) kept ds
keyed {h} {kept} {ds} o c =
    let e : Alike h (events_by o ++ h) = sym (keyed_alike o h) in
    screened (c.alike ∙ posted_alike h (events_by o ++ h) e ds) (fit_alike h (events_by o ++ h) e ds c.fits)
    (same_apart 0 (fields h) (fields (events_by o ++ h)) (layout_alike h (events_by o ++ h) e) c.within) c.closed

module _ {t : TerminalType} {ex : Exchange} {s : StationEndState} {h : HostEndState} {ts us : List Telnet}
    {ds : List Posted}
    {es : List Sent} {later : List HostAnswer} (b : Between t ex s h ts us ds es later) where
  -- a key that leaves what is pending, and sends nothing
  pub key_silent : (o : Option Edit) → pending_read (events_by o ++ s.happened) ≡ pending_read s.happened
      → Between t ex (record { options = s.options; happened = events_by o ++ s.happened }) h ts us ds es later
  key_silent o same = betweens b.exchanges b.host_ready b.station_ready (keyed o b.screens) (rw same b.turn) b.waits

  pub key_signal : station_allows_records s.options ≡ true → (flags : ℕ) → Between t ex s h ts us ds
      (es ++ Signal flags ∷ []) later
  key_signal allows flags = betweens b.exchanges b.host_ready (inr allows) b.screens
      (subst (TurnAt (pending_read h.kept) h.cancelling (pending_read s.happened) (marks_down ds))
      (sym (marks_up_more es _ ∙ append-nil (marks_up es))) b.turn) (more es later b.waits) where
        more : (es : List Sent) (later : List HostAnswer) → Awaits (layouts (fields h.kept)) (pending_read h.kept)
            es later → Awaits (layouts (fields h.kept)) (pending_read h.kept) (es ++ Signal flags ∷ []) later
        more [] later w = w
        more (Replies parts ∷ es) later w = (w.0, w.1, w.2, w.3, w.4, w.5, w.6, w.7, more es w.3 w.8)
        more (e ∷ es) later w = more es later w

  -- records on their way while a read is pending leave the fields as they are
  layout_held : (k : History) (ds : List Posted) → (marks_down ds ≡ []) ⊎ (marks_down ds ≡ StopMark ∷ [])
      → layouts (fields (after_posted k ds)) ≡ layouts (fields k)
  layout_held k [] n = refl
  layout_held k (Body o other [] ok ∷ ds) n = layout_held (after_record k (sent_record o [])) ds n
      ∙ layout_alike (opcode_events o ++ after_end k) (after_end k) (opcode_alike o (after_end k)) ∙ end_events k
  layout_held k (Body o other (e ∷ body) ok ∷ ds) n =
      elim n [ inl q ↦ cc | inr q ↦ mark_stop (read_left_by None (e ∷ body)) q ] where
        mark_stop : {A : Type 0} (left : Option ReadKind) → mark_left left ∷ marks_down ds ≡ StopMark ∷ [] → A
        mark_stop None e = cc
        mark_stop (Some kind) e = cc
  layout_held k (Stop ∷ ds) n = layout_held (after_record k (record_of Stop)) ds (inl
      (elim n [ inl e ↦ cc | inr e ↦ cc ])) ∙ layout_alike (cancelled ∷ after_end k) (after_end k) refl ∙ end_events k

  -- a key that answers the read
  pub key_answer : (kind : ReadKind) (aid : ℕ) → station_allows_records s.options ≡ true
      → pending_read s.happened ≡ Some kind → Between t ex (after_key s (Send aid)) h ts us ds
      (es ++ Replies (answer_parts kind (screen_at s) aid) ∷ []) (later ++ answer_of kind (screen_at s) aid ∷ [])
  key_answer kind aid allows is =
      let o : Option Edit = edit_of (screen_at s) (Send aid) in
      let found = at_turn b.turn (answer kind) is in
      let dropped : pending_read
      (events_by o ++ s.happened) ≡ None = pending-keyed o s.happened true (aids_answer (screen_at s) (Send aid)) in
      let reply : Sent = Replies (answer_parts kind (screen_at s) aid) in
      let places : layouts (fields s.happened) ≡ layouts (fields h.kept) =
      sym (layout_alike h.kept (after_posted s.happened ds) b.alike ∙ layout_held s.happened ds found.2) in
      betweens b.exchanges b.host_ready (inr allows) (keyed o b.screens)
      (rw (marks_up_more es reply) (rw dropped found.0)) (more es later found.3 b.waits places found.1) where
        more : (es : List Sent) (later : List HostAnswer) → marks_up es ≡ []
            → Awaits (layouts (fields h.kept)) (pending_read h.kept) es later → layouts (fields s.happened) ≡ layouts
            (fields h.kept) → pending_read h.kept ≡ Some kind → Awaits (layouts (fields h.kept)) (pending_read h.kept)
            (es ++ Replies (answer_parts kind (screen_at s) aid) ∷ []) (later ++ answer_of kind (screen_at s) aid ∷ [])
        more [] later n w places asked =
            let x = answer_of kind (screen_at s) aid in
            let reads = own_reading kind (screen_at s) aid (length-map-range_with_len
            (λ c. cell c s.happened) 0 1920) b.within in
            (kind, fields s.happened, x, [], asked, places, reads, ap (λ l. l ++ x ∷ []) w, refl)
        more (Signal flags ∷ es) later n w places asked = more es later n w places asked
        more (e ∷ es) later n w places asked = cc

  -- SENDS

  fresh : (d : Posted) → body_fault h.kept (record_of d).body ≡ None → body_fault (after_posted s.happened ds)
      (record_of d).body ≡ None
  fresh d n = sym (body_fault_alike h.kept (after_posted s.happened ds) b.alike (record_of d).body) ∙ n

  turn_sent : (left asked : Option ReadKind) → asked ≡ None → h.cancelling ≡ false → TurnAt asked h.cancelling
      (pending_read s.happened) (marks_down ds) (marks_up es)
      → TurnAt left h.cancelling (pending_read s.happened) (marks_down ds ++ mark_left left ∷ []) (marks_up es)
  turn_sent None asked none going turn = at_turn turn send_text none going
  turn_sent (Some kind) asked none going turn = at_turn turn (send_read kind) none going

  idle : (o : Option ReadKind) (c : Bool) → (is_some o || c) ≡ false → (o ≡ None) × (c ≡ false)
  idle None false e = (refl, refl)
  idle o c e = cc

  turn_after : (o : Opcode) (other : is_stop o ≡ false) (body : List Element) (ok : is_body body ≡ true)
      → is_outstanding h body ≡ false → TurnAt (read_left_by (pending_read h.kept) body) h.cancelling
      (pending_read s.happened) (marks_down ds ++ marks_of (Body o other body ok)) (marks_up es)
  turn_after o other [] ok out = subst (λ (z : List DownMark). TurnAt (pending_read h.kept) h.cancelling
      (pending_read s.happened) z (marks_up es)) (sym (append-nil (marks_down ds))) b.turn
  turn_after o other (e ∷ body) ok out =
      let i = idle _ _ out in
      subst (λ (z : Option ReadKind). TurnAt (read_left_by z (e ∷ body)) h.cancelling (pending_read s.happened)
      (marks_down ds ++ mark_left (read_left_by None (e ∷ body)) ∷ []) (marks_up es)) (sym i.0)
      (turn_sent _ _ i.0 i.1 b.turn)

  waits_after : (body : List Element) → is_outstanding h body ≡ false → Awaits
      (layouts (fields (after_end (after_elements h.kept body)))) (read_left_by (pending_read h.kept) body) es later
  waits_after [] out = rw (end_events _) b.waits
  waits_after (e ∷ body) out =
      let i = idle (pending_read h.kept) h.cancelling out in
      waits_any (layouts (fields h.kept)) _ (pending_read h.kept) _ es later (at_turn b.turn no_reply i.0) b.waits

  -- a body
  pub sends_body : (o : Opcode) (other : is_stop o ≡ false) (body : List Element) (ok : is_body body ≡ true)
      → host_allows_records h.options ≡ true → is_outstanding h body ≡ false → body_fault h.kept body ≡ None → Between
      t ex s (record { options = h.options; kept = after_end (after_elements h.kept body); cancelling = h.cancelling })
      ts us (ds ++ Body o other body ok ∷ []) es later
  sends_body o other body ok ready out none =
      let all : History = after_posted s.happened ds in
      let kept : History = after_end (after_elements h.kept body) in
      let left : pending_read kept ≡ read_left_by (pending_read h.kept) body = pending-end (after_elements h.kept body)
      ∙ pending-elements h.kept body in
      let d : Posted = Body o other body ok in
      betweens b.exchanges (inr ready) b.station_ready (screened (end_alike (after_elements h.kept body) (after_elements
      all body) (elements_alike h.kept all b.alike body) ∙ sym (opcode_alike o (after_end (after_elements all body)))
      ∙ ap by_host (sym (after_posted_more s.happened ds d))) (fit_more s.happened ds d b.fits (fresh d none)) b.within
      (closed_end (after_elements h.kept body))) (rw (marks_down_more ds d) (rw left (turn_after o other body ok out)))
      (rw left (waits_after body out))

  -- a cancel
  pub sends_cancel : (kind : ReadKind)
      → host_allows_records h.options ≡ true → pending_read h.kept ≡ Some kind → h.cancelling ≡ false → Between t ex s
      (record { options = h.options; kept = h.kept; cancelling = true }) ts us (ds ++ Stop ∷ []) es later
  sends_cancel kind ready is going =
      let all : History = after_posted s.happened ds in
      let shut : open_write all ≡ None = sym (open_write_alike h.kept all b.alike) ∙ b.closed in
      let same : Alike all (after_record all (record_of Stop)) = ap (λ w. by_host (ends_of w ++ all)) (sym shut) in
      betweens b.exchanges (inr ready) b.station_ready (screened (b.alike ∙ same ∙ ap by_host (sym (after_posted_more
      s.happened ds Stop))) (fit_more s.happened ds Stop b.fits refl) b.within b.closed)
      (rw (marks_down_more ds Stop) (at_turn b.turn (send_stop kind) is going)) b.waits
