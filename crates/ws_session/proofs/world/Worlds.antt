-- A key, a send or a cancel in a session.

use Rattle.ws_session.proofs.Common as C
use C.{◌&&◌, not, ◌≡◌, List, [], ◌∷◌, ◌++◌, refl, subst, ◌∙◌, ℕ, zero, suc, Option, Some, None, ap, sym, arith, inl}
use C.{inr, append_assoc, if◌then◌else◌, Bool, true, false, is_some, Reason, new_exchange, host_allows_records, opening}
use C.{station_allows_records, TerminalType, Opcode, CancelInvite, NoOperation, RecordItem, TelnetItem, answer_rules}
use C.{is_body, element_rules, Element, after_elements, after_end, body_fault, AreApart, pending_read, ReadKind}
use C.{answer_parts, edit_of, events_by, key_refusal, is_aid_key, answer_of, HostAnswer, Key, Send, KeyRefusal}
use C.{aids_answer, empty_record, SendFailed, NotAllowed, ReadOutstanding, NoReadToCancel, BadSequence, TooBig}
use C.{RefusedByScreen, ATN, SRQ, KeyFailed, NotReady, Event, KeyRefused, SendRefused, Move, ToStation, ToHost, Cancel}
use C.{Press, SendMove, sent_record, is_outstanding, SendReaction, RefusesSend, Sends, host_cancel, host_send}
use C.{host_sends_body, is_too_big, answers_in, answer_in, after_key, screen_at, RefusesKey, station_key, sends}
use C.{answers_read, key_by_refusal, presses, Session, new_session, after_moves, after_move, byte_to_station}
use C.{byte_to_host, bytes_to_station, bytes_to_host, station_pressed, host_sent, after_press, after_send}
use Rattle.ws_end.specs.declared.end_step.HostRequest.TheVariants.{Send as Sending}
use Rattle.ws_end.specs.host_end.HostEndState.{host_requests}
use Rattle.std.proofs.lemmas.Bool.{cases_Bool}
use Rattle.ws_nego.proofs.Exchanges.{Exchanges}
use Rattle.ws_record.proofs.Flights.{start_inside, InFlight, written}
use Rattle.ws_screen.proofs.FormatLemmas.{fields-none}
use Rattle.ws_keys.specs.declared.key.Key.TheVariants.{SystemRequest, Attention}
use Rattle.ws_session.proofs.world.BetweenSteps.{pending-keyed, sends_cancel, key_answer, sends_body, key_silent}
use Rattle.ws_session.proofs.world.BetweenSteps.{key_signal}
use Rattle.ws_session.proofs.world.Betweens.{records_down, with_posted, quiet_event, records_up, with_sents, screened}
use Rattle.ws_session.proofs.world.Betweens.{Signal, betweens, is_stop, Replies, posted, sounds, tokens, Posted, Sound}
use Rattle.ws_session.proofs.world.Betweens.{sents, Body, Sent, Stop}
use Rattle.ws_session.proofs.world.Bytes.{byte_down, byte_up}
use Rattle.ws_session.proofs.world.Turns.{Free, at}

module _ (t : TerminalType) where
  no_event : (w : Session) (e : Event) → answer_in e ≡ [] → Sound t w → Sound t
      (record w { events = w.events ++ e ∷ [] })
  no_event w e quiet s = sounds s.ts s.us s.ds s.es s.later s.ex s.between s.down s.up
      (s.answered ∙ ap (λ l. l ++ s.later) (sym (quiet_event w.events e quiet))) s.count s.station_going s.host_going

  must_allow : (b : Bool) → (true && not b) ≡ false → b ≡ true
  must_allow true e = refl
  must_allow false e = cc

  module _ (w : Session) (s : Sound t w) where
    silent : (key : Key) → pending_read (events_by (edit_of (screen_at w.station) key) ++ w.station.happened)
        ≡ pending_read w.station.happened → Sound t (record w { station = after_key w.station key })
    silent key same = sounds s.ts s.us s.ds s.es s.later s.ex (key_silent s.between
        (edit_of (screen_at w.station) key) same) s.down s.up s.answered s.count s.station_going s.host_going

    unanswered : (key : Key) → is_aid_key key ≡ false → Sound t (record w { station = after_key w.station key })
    unanswered key other = silent key (pending-keyed (edit_of (screen_at w.station) key) w.station.happened false
        (aids_answer (screen_at w.station) key ∙ other))

    signals : (flags : ℕ) → station_allows_records w.station.options ≡ true
        → Sound t (record w { up = w.up ++ empty_record flags NoOperation ∷ [] })
    signals flags allows = sounds s.ts s.us s.ds (s.es ++ Signal flags ∷ []) s.later s.ex
        (key_signal s.between allows flags) s.down (rw (← records_up s.us s.es (Signal flags ∷ [])) (written
        answer_rules w.up w.at_host (tokens s.us ++ sents s.es) (sents (Signal flags ∷ [])) s.up)) s.answered (omega
        (arith, s.count, with_sents w.up (Signal flags ∷ []))) s.station_going s.host_going

    answers_by : (aid : ℕ) → station_allows_records w.station.options ≡ true → (o : Option ReadKind)
        → pending_read w.station.happened ≡ o → Sound t (station_pressed w (answers_read w.station aid o))
    answers_by aid allows None is = silent (Send aid) (pending-keyed (edit_of (screen_at w.station) (Send aid))
        w.station.happened true (aids_answer (screen_at w.station) (Send aid)) ∙ sym is)
    answers_by aid allows (Some kind) is =
        let reply : Sent = Replies (answer_parts kind (screen_at w.station) aid) in
        let x : HostAnswer = answer_of kind (screen_at w.station) aid in
        sounds s.ts s.us s.ds (s.es ++ reply ∷ []) (s.later ++ x ∷ []) s.ex (key_answer s.between kind aid allows is)
        s.down (subst (InFlight answer_rules (w.up ++ sents (reply ∷ [])) w.at_host) (records_up s.us s.es (reply ∷ []))
        (written answer_rules w.up w.at_host (tokens s.us ++ sents s.es) (sents (reply ∷ [])) s.up))
        (ap (λ l. l ++ x ∷ []) s.answered ∙ append_assoc (answers_in w.events) s.later (x ∷ []))
        (omega (arith, s.count, with_sents w.up (reply ∷ []))) s.station_going s.host_going

    by_key : (key : Key) → (sends key && not (station_allows_records w.station.options)) ≡ false
        → Sound t (station_pressed w (presses w.station key))
    by_key (Send aid) e = answers_by aid (must_allow (station_allows_records w.station.options) e) _ refl
    by_key Attention e = signals ATN (must_allow (station_allows_records w.station.options) e)
    by_key SystemRequest e = signals SRQ (must_allow (station_allows_records w.station.options) e)
    by_key key e = unanswered key refl

    by_refusal : (key : Key) → (sends key && not (station_allows_records w.station.options)) ≡ false
        → (r : Option KeyRefusal) → Sound t (station_pressed w (key_by_refusal w.station key r))
    by_refusal key e None = by_key key e
    by_refusal key e (Some refusal) = no_event w (KeyRefused _) refl s

    pub press : (key : Key) → Sound t (after_press w key)
    press key = subst (λ (z : Bool). Sound t (station_pressed w
        (if z then RefusesKey KeyFailed else station_key w.station key))) (sym s.station_going) (by_test _ refl) where
          by_test : (b : Bool) → (sends key && not (station_allows_records w.station.options)) ≡ b
              → Sound t (station_pressed w (if b then RefusesKey NotReady else key_by_refusal w.station key
              (key_refusal (screen_at w.station) key)))
          by_test true e = no_event w (KeyRefused NotReady) refl s
          by_test false e = by_refusal key e _

    -- SENDS

    sent_down : (d : Posted) → InFlight element_rules (w.down ++ posted (d ∷ [])) w.at_station
        (tokens s.ts ++ posted (s.ds ++ d ∷ []))
    sent_down d = rw (← records_down s.ts s.ds _) (written _ w.down _ (tokens s.ts ++ posted s.ds)
        (posted (d ∷ [])) s.down)

    send_body : (o : Opcode) → is_stop o ≡ false → (body : List Element)
        → Sound t (host_sent w (host_send w.host o body))
    send_body o other body = elim (cases_Bool (host_allows_records w.host.options)) [
      | inr e ↦ rw e (no_event w (SendRefused NotAllowed) refl s)
      | inl ready ↦ elim (cases_Bool (is_outstanding w.host body)) [
        | inl e ↦ rw (ready, e) (no_event w (SendRefused ReadOutstanding) refl s)
        | inr out ↦ elim (cases_Bool (is_body body)) [
          | inr e ↦ rw (ready, out, e) (no_event w (SendRefused BadSequence) refl s)
          | inl ok ↦ rw (ready, out, ok) (by_fault ok ready out (body_fault w.host.kept body) refl)
        ]
      ]
    ] where
      by_size : is_body body ≡ true → host_allows_records w.host.options ≡ true
          → is_outstanding w.host body ≡ false → body_fault w.host.kept body ≡ None
          → (b : Bool) → Sound t (host_sent w (if b then RefusesSend TooBig else Sends (record {
            options = w.host.options;
            kept = after_end (after_elements w.host.kept body);
            cancelling = w.host.cancelling;
          }) (RecordItem (sent_record o body))))
      by_size ok ready out none true = no_event w (SendRefused TooBig) refl s
      by_size ok ready out none false = sounds s.ts s.us (s.ds ++ Body o other body ok ∷ []) s.es s.later s.ex
          (sends_body s.between o other body ok ready out none) (sent_down (Body o other body ok)) s.up s.answered
          (omega (arith, s.count, with_posted w.down (Body o other body ok ∷ []))) s.station_going s.host_going

      by_fault : is_body body ≡ true → host_allows_records w.host.options ≡ true → is_outstanding w.host body ≡ false
          → (f : Option Reason) → body_fault w.host.kept body ≡ f
          → Sound t (host_sent w (host_sends_body w.host o body f))
      by_fault ok ready out None none = by_size ok ready out none (is_too_big (sent_record o body))
      by_fault ok ready out (Some reason) e = no_event w (SendRefused (RefusedByScreen reason)) refl s

    pub cancel : Sound t (host_sent w (host_cancel w.host))
    cancel = elim (cases_Bool (host_allows_records w.host.options)) [
      | inr e ↦ rw e (no_event w (SendRefused NotAllowed) refl s)
      | inl ready ↦ rw ready (by_test ready (pending_read w.host.kept) refl w.host.cancelling refl)
    ] where
      by_test : host_allows_records w.host.options ≡ true → (o : Option ReadKind) → pending_read w.host.kept ≡ o
          → (c : Bool) → w.host.cancelling ≡ c → Sound t (host_sent w (if is_some o && not c then Sends
          (record { options = w.host.options; kept = w.host.kept; cancelling = true })
          (empty_record 0 CancelInvite) else RefusesSend NoReadToCancel))
      by_test ready (Some kind) e false f = sounds s.ts s.us (s.ds ++ Stop ∷ []) s.es s.later s.ex
          (sends_cancel s.between kind ready e f) (sent_down Stop) s.up
          s.answered (omega (arith, s.count, with_posted w.down (Stop ∷ []))) s.station_going s.host_going
      by_test ready o e c f = no_event w (SendRefused NoReadToCancel) refl s

    pub by_opcode : (o : Opcode) (body : List Element) → Sound t (host_sent w (host_requests w.host (Sending o body)))
    by_opcode CancelInvite body = cancel
    by_opcode o body = send_body o refl body

    pub going : (r : SendReaction) → Sound t (host_sent w r) → Sound t (after_send w r)
    going r = subst (λ (z : Bool). Sound t (host_sent w (if z then RefusesSend SendFailed else r))) (sym s.host_going)

-- Every list of moves leads to a session that is sound.

module _ (t : TerminalType) where
  bytes_down : (n : ℕ) (w : Session) → Sound t w → Sound t (bytes_to_station n w)
  bytes_down zero w s = s
  bytes_down (suc n) w s = bytes_down n (byte_to_station w) (byte_down t w s)

  bytes_up : (n : ℕ) (w : Session) → Sound t w → Sound t (bytes_to_host n w)
  bytes_up zero w s = s
  bytes_up (suc n) w s = bytes_up n (byte_to_host w) (byte_up t w s)

  move : (w : Session) (m : Move) → Sound t w → Sound t (after_move w m)
  move w (SendMove o body) s = going t w s (host_requests w.host (Sending o body)) (by_opcode t w s o body)
  move w Cancel s = going t w s (host_cancel w.host) (cancel t w s)
  move w (ToStation n) s = bytes_down n w s
  move w (ToHost n) s = bytes_up n w s
  move w (Press key) s = press t w s key

  pub all_moves : (ms : List Move) (w : Session) → Sound t w → Sound t (after_moves w ms)
  all_moves [] w s = s
  all_moves (m ∷ ms) w s = all_moves ms (after_move w m) (move w m s)

  pub begins : Sound t (new_session t)
  begins =
      let sent = start_inside element_rules (TelnetItem opening ∷ []) in
      let exchanges : Exchanges t (new_exchange t) _ _ (opening ∷ [])
      [] = record { moves = []; is = refl; station = refl; host = refl; to_station = refl; to_host = refl } in
      sounds (opening ∷ []) [] [] [] [] (new_exchange t) (betweens exchanges (inl refl) (inl refl) (screened refl tt
      (subst (AreApart 0) (sym fields-none) (omega arith)) refl) (at (Free zero) refl refl refl refl refl) refl)
      (record { gone = []; part = 0; split = refl; count = refl; inside = sent })
      (record { gone = []; part = 0; split = refl; count = refl; inside = refl }) refl refl refl refl

  pub sound : (ms : List Move) → Sound t (after_moves (new_session t) ms)
  sound ms = all_moves ms (new_session t) begins
