-- What a host end does at an item, and what it sends.

use Rattle.ws_end.proofs.Common as C
use C.{is_ok, is_err, OnOk, ◌≡◌, ◌+◌, ◌≤◌, List, [], ◌∷◌, ◌++◌, refl, ◌∙◌, ℕ, Option, Some, None, ap, sym, arith, ◌^◌}
use C.{length, if◌then◌else◌, true, false, is_some, map, nat_lt, IsSome, Err, Ok, ◌==◌, Result, false≢true, nat_tests}
use C.{IsChain, spelling_of, Reason, AnswerMismatch, host_allows_records, HostState, Answer, AnswersWith, item_spelling}
use C.{record_spelling, header, Opcode, CancelInvite, NoOperation, Item, RecordItem, TelnetItem, header_length, is_body}
use C.{element_rules, AnswerPart, Element, after_elements, after_end, body_fault, cancelled, Gives, Follows}
use C.{ScreenParts, ReadKind, one_screen, read_answer, HostAnswer, empty_record, Refuses, HostEvent, Answered}
use C.{Cancelled, HostKept, IsReaction, host_reacting, HostReached, HostParts, IsSent, HostStands, HostEndState}
use C.{sent_record, is_outstanding, after_read, event_output, ready_event, host_negotiates, host_reads, host_reads_by}
use C.{host_ends_cancel, signal, host_takes_record, Sends, host_cancel, host_send, asked_read}
use Rattle.ws_end.specs.declared.driver.halt.Halt.TheVariants as halt
use Rattle.ws_end.proofs.driver.Drivings.{is_empty}
use Rattle.ws_end.proofs.station.StationSteps.{plain_tokens}

-- a token that isn't refused
pub negotiated : (old : HostKept) (options : HostState) (state : HostEndState) (answer : Option (Answer HostState))
    (reply : List ℕ) (event : Option HostEvent) → HostStands old state → AnswersWith answer options reply
    → event ≡ ready_event (host_allows_records old.options) options
    → IsReaction host_reacting (record old { options = options }) [] (λ output. output) (host_negotiates state answer)
    (Ok (record { reply = reply; event = event }))
negotiated old options state None reply event h a e = absurd a
negotiated old options state (Some answer) reply event h a e = (
  record { options = answer.after; kept = state.kept; cancelling = state.cancelling },
  record { items = map TelnetItem answer.reply; event = ready_event (host_allows_records state.options) answer.after },
  refl,
  a.1 ∙ sym (plain_tokens element_rules _),
  e ∙ ap (λ o. ready_event (host_allows_records o) options) h.options
      ∙ ap (ready_event (host_allows_records state.options)) a.0,
  record { options = a.0; given = h.given; cancelling = h.cancelling },
)

-- the end of a cancel
pub cancel_ended : (old : HostKept) (screen : ScreenParts) (state : HostEndState) → HostStands old state
    → old.cancelling ≡ true → Follows cancelled old.screen screen
    → IsReaction host_reacting (record old { screen = screen; cancelling = false }) [] (λ output. output)
    (host_ends_cancel state state.cancelling) (Ok (record { reply = []; event = Some Cancelled }))
cancel_ended old screen state h is f = (
  after_read state false,
  event_output _,
  ap (host_ends_cancel state) (sym h.cancelling ∙ is),
  refl,
  refl,
  record { options = h.options; given = f.after state.kept h.given; cancelling = refl },
)

-- an answer, by the asked read
module _ (old : HostKept) (state : HostEndState) (h : HostStands old state) (size : length old.screen.cells ≡ 1920)
    (kind : ReadKind) (pends : old.screen.pending ≡ Some kind) (parts : List AnswerPart) where
  reads_by : (answer : Option HostAnswer) → read_answer kind old.screen.fields parts ≡ answer
      → host_reads_by state (asked_read state) parts ≡ host_reads state answer
  reads_by answer is = ap (λ o. host_reads_by state o parts) (sym (ap (λ w. w.pending) h.given.state) ∙ pends)
      ∙ ap (λ s. host_reads state (read_answer kind s.fields parts)) (sym
      (one_screen state.kept old.screen h.given size)) ∙ ap (host_reads state) is

  pub answer_taken : (screen : ScreenParts) (answer : HostAnswer)
      → read_answer kind old.screen.fields parts ≡ Some answer → Follows cancelled old.screen screen
      → IsReaction host_reacting (record old { screen = screen }) [] (λ output. output)
      (host_reads_by state (asked_read state) parts) (Ok (record { reply = []; event = Some (Answered answer) }))
  answer_taken screen answer a f = (
    after_read state state.cancelling,
    event_output _,
    reads_by _ a,
    refl,
    refl,
    record { options = h.options; given = f.after state.kept h.given; cancelling = h.cancelling },
  )

  pub answer_refused : (new : HostKept) (reason : Reason) → reason ≡ AnswerMismatch
      → read_answer kind old.screen.fields parts ≡ None
      → IsReaction host_reacting new [] (λ output. output) (host_reads_by state (asked_read state) parts)
      (Err (halt.Refused reason))
  answer_refused new reason why none = reads_by None none ∙ ap (λ r. Refuses r) (sym why)

  -- memory is wanting for one that is read
  pub answer_wanting : (new : HostKept) → IsSome (read_answer kind old.screen.fields parts)
      → IsReaction host_reacting new [] (λ output. output) (host_reads_by state (asked_read state) parts)
      (Err halt.Memory)
  answer_wanting new some = by _ refl some where
    by : (r : Option HostAnswer) → read_answer kind old.screen.fields parts ≡ r → IsSome r
        → IsReaction host_reacting new [] (λ output. output) (host_reads_by state (asked_read state) parts)
        (Err halt.Memory)
    by (Some answer) is s = (after_read state state.cancelling, event_output _, reads_by _ is, (answer, refl))
    by None is s = absurd (false≢true s)

-- an empty record without an opcode
pub signalled : (host : HostKept) (state : HostEndState) (flags : ℕ) (opcode : Opcode) (parts : List AnswerPart)
    (event : Option HostEvent) → HostStands host state → opcode ≡ NoOperation → (length parts == 0) ≡ true
    → event ≡ signal flags → IsReaction host_reacting host [] (λ output. output)
    (host_takes_record state flags opcode parts) (Ok (record { reply = []; event = event }))
signalled host state flags opcode [] event h is none s =
    (state, event_output _, ap (λ o. host_takes_record state flags o []) is, refl, s, h)
signalled host state flags opcode (p ∷ ps) event h is none s = (let e = is_empty (p ∷ ps) none in cc)

module _ (old : HostParts) (bytes : List ℕ) (items : List (Item AnswerPart)) (state : HostEndState)
    (l : HostReached old bytes items state) where
  pub cancel_sent : host_allows_records old.reacts.options ≡ true → is_some old.reacts.screen.pending ≡ true
      → old.reacts.cancelling ≡ false → (text : List ℕ)
      → text ≡ item_spelling element_rules (empty_record 0 CancelInvite)
      → IsSent (record old { reacts = record old.reacts { cancelling = true } }) bytes items (host_cancel state) text
  cancel_sent allows pends answered text e =
      let next : HostEndState = record { options = state.options; kept = state.kept; cancelling = true } in
      let allowed : host_allows_records state.options ≡ true = ap host_allows_records (sym l.stands.options) ∙ allows in
      let asked : is_some (asked_read state) ≡ true = ap (λ w. is_some w.pending) (sym l.stands.given.state) ∙ pends in
      let going : state.cancelling ≡ false = sym l.stands.cancelling ∙ answered in (
        next,
        empty_record 0 CancelInvite,
        rw (allowed, asked, going),
        e,
        (record { chain = tt; ends = refl }, omega arith),
        omega arith,
        record {
          so_far = l.so_far;
          reached = l.reached;
          kept = l.kept;
          stands = record { options = l.stands.options; given = l.stands.given; cancelling = refl };
          works = l.works;
        },
      )

  module _ (opcode : Opcode) (body : List Element) where
    abbrev pub sent_state : HostEndState
    sent_state = record {
      options = state.options;
      kept = after_end (after_elements state.kept body);
      cancelling = state.cancelling;
    }

    -- a body that nothing forbids
    pub sends_body : host_allows_records old.reacts.options ≡ true → is_outstanding state body ≡ false → is_body body
        ≡ true → body_fault state.kept body ≡ None → length (spelling_of element_rules body) ≤ 65525
        → host_send state opcode body ≡ Sends sent_state (RecordItem (sent_record opcode body))
    sends_body allows free whole none fits =
        let text : List ℕ = spelling_of element_rules body in
        let all : length (header (10 + length text) 0 opcode ++ text) ≡ 10 + length text = header_length
        (10 + length text) 0 opcode text in
        let small : nat_lt (length (header (10 + length text) 0 opcode ++ text)) (2 ^ 16) ≡ true = grind
        (arith, nat_tests, all, fits) in
        let allowed : host_allows_records state.options ≡ true = ap host_allows_records (sym l.stands.options)
        ∙ allows in
        rw (allowed, free, whole, none, small)

    pub body_sent : (screen : ScreenParts) → host_send state opcode body ≡ Sends sent_state
        (RecordItem (sent_record opcode body)) → Gives (after_end (after_elements state.kept body)) screen → IsChain
        element_rules element_rules.first body → length (spelling_of element_rules body) ≤ 65525 → (kept text : List ℕ)
        → kept ≡ spelling_of element_rules body → text ≡ record_spelling (header (10 + length kept) 0 opcode ++ kept)
        → IsSent (record old { reacts = record old.reacts { screen = screen } }) bytes items
        (host_send state opcode body) text
    body_sent screen does g chain fits kept text is e = (
      sent_state,
      RecordItem (sent_record opcode body),
      does,
      e ∙ ap (λ z. record_spelling (header (10 + length z) 0 opcode ++ z)) is,
      (
        record { chain = chain; ends = refl },
        (let all = header_length (10 + length (spelling_of element_rules body)) 0 opcode
            (spelling_of element_rules body) in omega (arith, all, fits)),
      ),
      omega arith,
      record {
        so_far = l.so_far;
        reached = l.reached;
        kept = l.kept;
        stands = record { options = l.stands.options; given = g; cancelling = l.stands.cancelling };
        works = l.works;
      },
    )

pub known_ok : {E : Type 0} {P : Type 0} (r : Result (Unit {0}) E) → is_err r ≡ false → OnOk r P → P
known_ok (Ok u) e p = p
known_ok (Err f) e p = absurd (false≢true (sym (let g : true ≡ false = e in g)))

pub extended : {E X : Type 0} (r : Result (Unit {0}) E) (new more old : List X) → is_err r ≡ false
    → new ≡ (if is_ok r then more else old) → new ≡ more
extended (Ok u) new more old e is = is
extended (Err f) new more old e is = absurd (false≢true (sym (let g : true ≡ false = e in g)))
