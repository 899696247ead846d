-- A byte comes to the station of a session.

use Rattle.ws_session.proofs.Common as C
use C.{◌≡◌, ◌+◌, ◌≤◌, List, [], ◌∷◌, ◌++◌, refl, subst, ◌∙◌, ℕ, ◌<◌, Option, Some, None, ap, sym, arith, inl, inr}
use C.{length, append_assoc, if◌then◌else◌, ◌⊎◌, Bool, true, false, nat_lt, ltb-true, ltb-false, flat_map-append}
use C.{append-nil, RecordBeforeNegotiation, Telnet, Exchange, after_exchange, MoveDown, MoveUp, host_allows_records}
use C.{HostState, host_answer, Answer, station_allows_records, station_answer, TerminalType, ending_at, Opcode}
use C.{CancelInvite, NoOperation, PutGet, Item, RecordItem, TelnetItem, answer_rules, element_rules, AnswerPart}
use C.{Element, body_fault, HostAnswer, Refuses, GoesOn, telnets, Answered, Cancelled, Host, HostEndState, after_read}
use C.{event_output, ready_event, host_negotiates, host_reads, host_reads_by, host_ends_cancel, signal}
use C.{host_takes_record, host_takes, answers_in, answer_in, StationEndState, after_record, opcode_answer}
use C.{station_applies, station_takes, Session, down_bytes, station_did, station_gets, byte_to_station, up_bytes}
use C.{host_did, host_gets, byte_to_host}
use Rattle.std.proofs.lemmas.Bool.{cases_Bool}
use Rattle.ws_nego.proofs.Exchanges.{up_next, x_none, full_station, full_host}
use Rattle.ws_record.proofs.Flights.{ByteComes, InFlight, written, Inside, comes, Whole}
use Rattle.ws_session.proofs.world.BetweenSteps.{station_record, station_token, answer_items, host_signal, answers_to}
use Rattle.ws_session.proofs.world.BetweenSteps.{host_reply, host_token, host_end}
use Rattle.ws_session.proofs.world.Betweens.{signal_silent, ready_silent, with_tokens, records_up, quiet_told}
use Rattle.ws_session.proofs.world.Betweens.{with_sents, with_none, record_of, item_of, Replies, Between, behind}
use Rattle.ws_session.proofs.world.Betweens.{Signal, Posted, posted, sounds, tokens, Sound, downs, sents, Down, Ends}
use Rattle.ws_session.proofs.world.Betweens.{Sent, ups, Up}

module _ (t : TerminalType) where
  takes_record : (s : StationEndState) (d : Posted) → station_allows_records s.options ≡ true
      → body_fault s.happened (record_of d).body ≡ None → station_takes s (RecordItem (record_of d)) ≡ GoesOn
      (record { options = s.options; happened = after_record s.happened (record_of d) })
      (opcode_answer (record_of d).opcode)
  takes_record s d allows none = ap (λ (b : Bool). if b then station_applies s (record_of d) (body_fault s.happened
      (record_of d).body) else Refuses RecordBeforeNegotiation) allows ∙ ap (station_applies s (record_of d)) none

  module _ (w : Session) where
    abbrev byte_on : Session
    byte_on = record w { at_station = w.at_station + 1 }

    station_arrives : (ex : Exchange) → ex.count ≡ telnets w.down + telnets w.up → (ts us : List Telnet)
        (ds : List Posted) (es : List Sent) (later : List HostAnswer) → Between t ex w.station w.host ts us ds es later
        → (item : Item Element) (rest : List (Item Element)) → tokens ts ++ posted ds ≡ item ∷ rest → InFlight
        element_rules w.down (w.at_station + 1) rest → InFlight answer_rules w.up w.at_host (tokens us ++ sents es)
        → w.answered ≡ answers_in w.events ++ later → w.station_refused ≡ false → w.host_refused ≡ false
        → Down t ex w.down (w.at_station + 1) (station_did byte_on (station_takes w.station item))
    station_arrives ex n [] us [] es later b item rest e down up answered sg hg = cc
    station_arrives ex n (token ∷ ts) us ds es later b item rest e down up answered sg hg =
        let same : TelnetItem token ≡ item = cc in
        let tail : tokens ts ++ posted ds ≡ rest = cc in
        let found = station_token b in
        let reply : List Telnet = (station_answer w.station.options token).reply in
        rw (← same) (downs refl refl (sounds ts (us ++ reply) ds es later
        (after_exchange MoveDown ex) found.2 (rw tail down) (rw (← behind us reply (sents es) (ap sents found.0))
        (written answer_rules w.up w.at_host (tokens us ++ sents es) (tokens reply) up)) answered
        (omega (arith, found.1, n, with_tokens w.up reply)) sg hg) (full_station ex token ts b.exchanges.to_station))
    station_arrives ex n [] us (d ∷ ds) es later b item rest e down up answered sg hg =
        let same : RecordItem (record_of d) ≡ item = cc in
        let tail : posted ds ≡ rest = cc in
        let found = station_record b in
        let next : StationEndState =
        record { options = w.station.options; happened = after_record w.station.happened (record_of d) } in
        rw (← same) (rw (takes_record w.station d found.0 found.1 ∙ ap (GoesOn next) (answer_items d))
        (downs refl refl (sounds [] us ds (es ++ answers_to d) later ex found.2 (rw tail down)
        (rw (← records_up us es (answers_to d)) (written answer_rules w.up w.at_host (tokens us ++ sents es)
        (sents (answers_to d)) up)) answered (omega (arith, n, with_sents w.up (answers_to d))) sg hg) refl))

    arrived_down : (s : Sound t w) → w.at_station < length (down_bytes w) → Down t s.ex w.down (w.at_station + 1)
        (station_gets byte_on w.station_refused (ending_at element_rules w.down (w.at_station + 1)))
    arrived_down s less = subst (λ z. Down t s.ex w.down (w.at_station + 1)
        (station_gets byte_on z (ending_at element_rules w.down (w.at_station + 1)))) (sym s.station_going)
        (arrive (comes element_rules w.down w.at_station (tokens s.ts ++ posted s.ds) s.down less)) where
          arrive : ByteComes element_rules w.down w.at_station (tokens s.ts ++ posted s.ds) → Down t s.ex w.down
              (w.at_station + 1) (station_gets byte_on false (ending_at element_rules w.down (w.at_station + 1)))
          arrive (Inside none f) = subst (λ z. Down t s.ex w.down (w.at_station + 1) (station_gets byte_on false z))
              (sym none) (downs refl refl (sounds
              s.ts s.us s.ds s.es s.later s.ex s.between f s.up s.answered s.count s.station_going s.host_going) refl)
          arrive (Whole item rest split ends f) = subst (λ z. Down t s.ex w.down
              (w.at_station + 1) (station_gets byte_on false z)) (sym ends) (station_arrives s.ex
              s.count s.ts s.us s.ds s.es _ s.between item rest split f s.up s.answered s.station_going s.host_going)

    -- the next byte that is in flight to the station, or there is none
    pub next_down : (s : Sound t w) → Down t s.ex w.down (w.at_station + 1) (byte_to_station w)
        ⊎ ((byte_to_station w ≡ w) × (length (down_bytes w) ≤ w.at_station))
    next_down s = elim (cases_Bool (nat_lt w.at_station (length (down_bytes w)))) [
      | inl e ↦ rw e (inl (arrived_down s (ltb-true w.at_station (length (down_bytes w)) e)))
      | inr e ↦ rw e (inr (refl, ltb-false w.at_station (length (down_bytes w)) e))
    ]

    pub byte_down : Sound t w → Sound t (byte_to_station w)
    byte_down s = elim (next_down s) [ inl d ↦ d.sound | inr q ↦ subst (Sound t) (sym q.0) s ]

-- A byte comes to the host end of a session.

module _ (t : TerminalType) where
  takes_by : (h : HostEndState) (flags : ℕ) (o : Opcode) (parts : List AnswerPart) → host_allows_records h.options
      ≡ true → host_takes h (RecordItem (record { flags = flags; opcode = o; body = parts }))
      ≡ host_takes_record h flags o parts
  takes_by h flags o parts allows =
      ap (λ (b : Bool). if b then host_takes_record h flags o parts else Refuses RecordBeforeNegotiation) allows

  module _ (w : Session) where
    abbrev byte_off : Session
    byte_off = record w { at_host = w.at_host + 1 }

    same_down : (ts : List Telnet) (ds : List Posted) → InFlight element_rules w.down w.at_station
        (tokens ts ++ posted ds) → InFlight element_rules (w.down ++ []) w.at_station (tokens ts ++ posted ds)
    same_down ts ds f = rw (append-nil w.down) f

    host_arrives_token : (ex : Exchange) → ex.count ≡ telnets w.down + telnets w.up → (ts us : List Telnet)
        (token : Telnet) (ds : List Posted) (es : List Sent) (later : List HostAnswer) → Between t ex w.station
        w.host ts (token ∷ us) ds es later → (a : Option (Answer HostState)) → host_answer w.host.options token ≡ a
        → InFlight element_rules w.down w.at_station (tokens ts ++ posted ds) → InFlight answer_rules w.up
        (w.at_host + 1) (tokens us ++ sents es) → w.answered ≡ answers_in w.events ++ later → w.station_refused ≡ false
        → w.host_refused ≡ false → Up t ex w.up (w.at_host + 1) ds (host_did byte_off (host_negotiates w.host a))
    host_arrives_token ex n ts us token ds es later b None q down up answered sg hg = absurd (x_none b.exchanges q)
    host_arrives_token ex n ts us token ds es later b (Some a) q down up answered sg hg =
        let found = host_token b a q in
        ups refl refl (sounds (ts ++ a.reply) us ds es later (after_exchange MoveUp ex) found.2
        (rw (← behind ts a.reply (posted ds) (ap posted found.0)) (written element_rules w.down w.at_station
        (tokens ts ++ posted ds) (tokens a.reply) down)) up (answered ∙ ap (λ l. l ++ later)
        (sym (quiet_told w.events (ready_event (host_allows_records w.host.options) a.after) (ready_silent
        (host_allows_records w.host.options) a.after)))) (omega (arith, found.1, n, with_tokens w.down a.reply)) sg hg)
        refl (full_host ex us a b.exchanges.to_host (up_next b.exchanges (Some a) q))

    host_arrives_record : (ex : Exchange) → ex.count ≡ telnets w.down + telnets w.up → (ts : List Telnet)
        (ds : List Posted) (e : Sent) (es : List Sent) (later : List HostAnswer) → Between t ex w.station w.host ts []
        ds (e ∷ es) later → InFlight element_rules w.down w.at_station (tokens ts ++ posted ds) → InFlight answer_rules
        w.up (w.at_host + 1) (sents es) → w.answered ≡ answers_in w.events ++ later → w.station_refused ≡ false
        → w.host_refused ≡ false → Up t ex w.up (w.at_host + 1) ds (host_did byte_off (host_takes w.host (item_of e)))
    host_arrives_record ex n ts ds (Replies parts) es later b down up answered sg hg =
        let h : HostEndState = w.host in
        let found = host_reply b in
        let x : HostAnswer = found.1 in
        let takes : host_takes h (item_of (Replies parts)) ≡ GoesOn
        (after_read h h.cancelling) (event_output (Some (Answered x))) = takes_by h 0 PutGet parts found.3
        ∙ ap (λ o. host_reads_by h o parts) found.4 ∙ ap (host_reads h) found.5 in
        rw takes (ups refl refl (sounds ts [] ds es found.2 ex found.7 (same_down ts ds down) up (answered
        ∙ ap (λ l. answers_in w.events ++ l) found.6 ∙ sym (append_assoc (answers_in w.events) (x ∷ []) found.2)
        ∙ ap (λ l. l ++ found.2) (sym (flat_map-append answer_in w.events (Host (Answered x) ∷ []))))
        (omega (arith, n, with_none w.down)) sg hg) refl refl)
    host_arrives_record ex n ts ds Ends es later b down up answered sg hg =
        let h : HostEndState = w.host in
        let found = host_end b in
        let takes : host_takes h (item_of Ends) ≡ GoesOn (after_read h false)
        (event_output (Some Cancelled)) = takes_by h 0 CancelInvite [] found.0 ∙ ap (host_ends_cancel h) found.1 in
        rw takes
        (ups refl refl (sounds ts [] ds es later ex found.2 (same_down ts ds down) up (answered ∙ ap (λ l. l ++ later)
        (sym (quiet_told w.events (Some Cancelled) refl))) (omega (arith, n, with_none w.down)) sg hg) refl refl)
    host_arrives_record ex n ts ds (Signal flags) es later b down up answered sg hg =
        let h : HostEndState = w.host in
        let found = host_signal b in
        rw (takes_by h flags NoOperation [] found.0) (ups refl refl (sounds ts [] ds es later ex found.1 (same_down ts
        ds down) up (answered ∙ ap (λ l. l ++ later) (sym (quiet_told w.events (signal flags) (signal_silent flags))))
        (omega (arith, n, with_none w.down)) sg hg) refl refl)

    host_arrives : (ex : Exchange) → ex.count ≡ telnets w.down + telnets w.up → (ts us : List Telnet)
        (ds : List Posted) (es : List Sent) (later : List HostAnswer) → Between t ex w.station w.host ts us ds es later
        → (item : Item AnswerPart) (rest : List (Item AnswerPart)) → tokens us ++ sents es ≡ item ∷ rest
        → InFlight element_rules w.down w.at_station (tokens ts ++ posted ds) → InFlight answer_rules w.up
        (w.at_host + 1) rest → w.answered ≡ answers_in w.events ++ later → w.station_refused ≡ false
        → w.host_refused ≡ false → Up t ex w.up (w.at_host + 1) ds (host_did byte_off (host_takes w.host item))
    host_arrives ex n ts [] ds [] later b item rest e down up answered sg hg = cc
    host_arrives ex n ts (token ∷ us) ds es later b item rest e down up answered sg hg =
        let same : TelnetItem token ≡ item = cc in
        let tail : tokens us ++ sents es ≡ rest = cc in
        rw (← same) (host_arrives_token ex n ts us token ds es later b (host_answer w.host.options token) refl down
        (rw tail up) answered sg hg)
    host_arrives ex n ts [] ds (r ∷ es) later b item rest e down up answered sg hg =
        let same : item_of r ≡ item = cc in
        let tail : sents es ≡ rest = cc in
        rw (← same) (host_arrives_record ex n ts ds r es later b down (rw tail up) answered sg hg)

    arrived_up : (s : Sound t w) → w.at_host < length (up_bytes w) → Up t s.ex w.up (w.at_host + 1) s.ds
        (host_gets byte_off w.host_refused (ending_at answer_rules w.up (w.at_host + 1)))
    arrived_up s less = subst
        (λ z. Up t s.ex w.up (w.at_host + 1) s.ds (host_gets byte_off z (ending_at answer_rules w.up (w.at_host + 1))))
        (sym s.host_going) (arrive (comes answer_rules w.up w.at_host (tokens s.us ++ sents s.es) s.up less)) where
          arrive : ByteComes answer_rules w.up w.at_host (tokens s.us ++ sents s.es) → Up t s.ex w.up
              (w.at_host + 1) s.ds (host_gets byte_off false (ending_at answer_rules w.up (w.at_host + 1)))
          arrive (Inside none f) = subst (λ z. Up t s.ex w.up (w.at_host + 1) s.ds (host_gets byte_off false z))
              (sym none) (ups refl refl (sounds s.ts
              s.us s.ds s.es s.later s.ex s.between s.down f s.answered s.count s.station_going s.host_going) refl refl)
          arrive (Whole item rest split ends f) = subst (λ z. Up t s.ex w.up
              (w.at_host + 1) s.ds (host_gets byte_off false z)) (sym ends) (host_arrives s.ex s.count
              s.ts s.us s.ds s.es s.later s.between item rest split s.down f s.answered s.station_going s.host_going)

    -- the next byte that is in flight to the host end, or there is none
    pub next_up : (s : Sound t w) → Up t s.ex w.up (w.at_host + 1) s.ds (byte_to_host w)
        ⊎ ((byte_to_host w ≡ w) × (length (up_bytes w) ≤ w.at_host))
    next_up s = elim (cases_Bool (nat_lt w.at_host (length (up_bytes w)))) [
      | inl e ↦ rw e (inl (arrived_up s (ltb-true w.at_host (length (up_bytes w)) e)))
      | inr e ↦ rw e (inr (refl, ltb-false w.at_host (length (up_bytes w)) e))
    ]

    pub byte_up : Sound t w → Sound t (byte_to_host w)
    byte_up s = elim (next_up s) [ inl d ↦ d.sound | inr q ↦ subst (Sound t) (sym q.0) s ]
