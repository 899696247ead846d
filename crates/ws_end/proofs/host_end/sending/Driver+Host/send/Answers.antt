use Rattle.ws_end.proofs.Common.{◌≡◌, ◌+◌, ◌≤◌, List, ◌++◌, ◌∙◌, ℕ, None, ap, sym, length, true, false, spelling_of}
use Rattle.ws_end.proofs.Common.{held_went_out, host_allows_records, record_spelling, header, Opcode, is_body}
use Rattle.ws_end.proofs.Common.{element_rules, Element, after_elements, body_fault, Gives, gives_end, HostReached}
use Rattle.ws_end.proofs.Common.{HostParts, IsSendFault, HostEndState, Item, AnswerPart, is_outstanding, host_send}
use Rattle.ws_end.specs.declared.host_end.send_fault.SendFault.TheVariants.{Memory}
use Rattle.ws_end.proofs.HostSteps.{sends_body, body_sent, sent_state, known_ok}
use Rattle.ws_end.proofs.host_end.sending.Driver+Host.send.Goals as goal

-- all is well but for memory
wants_memory : (old : HostParts) (opcode : Opcode) (body : List Element) (bytes : List ℕ)
    (items : List (Item AnswerPart)) (state : HostEndState) → HostReached old bytes items state
    → host_allows_records old.reacts.options ≡ true → is_outstanding state body ≡ false → is_body body ≡ true
    → body_fault state.kept body ≡ None → length (spelling_of element_rules body) ≤ 65525
    → IsSendFault (host_send state opcode body) Memory
wants_memory old opcode body bytes items state l allowed free whole taken fits = (
  sent_state old bytes items state l opcode body,
  _,
  sends_body old bytes items state l _ body allowed free whole taken fits,
)

pub returns-in-Err-body_spelling-clause-sent : goal.returns-in-Err-body_spelling-clause-sent
returns-in-Err-body_spelling-clause-sent c = λ bytes items state l few.
    let m = rw (← c.self.view_is, ← c.self-inside.view_is) at l in
    wants_memory _ _ _ bytes items state m (sym c.records_allowed.ensures ∙ c.if-not-records_allowed.false)
    (sym (c.is_disturbed.ensures state l.stands) ∙ c.if-is_disturbed.false)
    (sym c.is_body.ensures.same ∙ c.if-not-is_body.false)
    (sym (c.in_default.ensures.fault state.kept (rw c.assign.ensures m.stands.given)))
    (c.in-Err-body_spelling.ensures.fits (λ e. cc))

pub returns-then-is_err-clause-sent : goal.returns-then-is_err-clause-sent
returns-then-is_err-clause-sent c = λ bytes items state l few.
    let m = rw (← c.self.view_is, ← c.self-inside.view_is) at l in
    wants_memory _ _ _ bytes items state m (sym c.records_allowed.ensures ∙ c.if-not-records_allowed.false)
    (sym (c.is_disturbed.ensures state l.stands) ∙ c.if-is_disturbed.false)
    (sym c.is_body.ensures.same ∙ c.if-not-is_body.false)
    (sym (c.in_default.ensures.fault state.kept (rw c.assign.ensures m.stands.given)))
    (c.in-Ok-Some.ensures.fits (λ e. cc))

pub returns-clause-sent : goal.returns-clause-sent
returns-clause-sent c =
    let body = c.args.body.now in
    let kept = c.as_slice.result.now in
    let text : kept ≡ spelling_of element_rules body = c.as_slice.ensures.value
    ∙ rw c.in-Ok-Some.field-0-is at c.in-Ok-Some.ensures.spelled in
    let fits : length (spelling_of element_rules body) ≤ 65525 = c.in-Ok-Some.ensures.fits (λ e. cc) in
    let spelled : List ℕ = record_spelling (header (10 + length kept) 0 c.args.opcode ++ kept) in
    let went = known_ok _ (sym c.is_err.ensures.value ∙ c.if-is_err.false) c.write_record.ensures.ok in
    let out : c.into_inner.result.items ≡ spelled = c.into_inner.ensures
    ∙ held_went_out c.new-sink.result c.write_record.new.sink spelled went
    ∙ ap (λ (z : List ℕ). z ++ spelled) c.new-sink.ensures.bytes in
    λ bytes items state l few.
    let m = rw (← c.self.view_is, ← c.self-inside.view_is) at l in
    let before : Gives _ _ = rw c.assign.ensures m.stands.given in
    let does = sends_body _ bytes items state m _ body (sym c.records_allowed.ensures ∙ c.if-not-records_allowed.false)
    (sym (c.is_disturbed.ensures state l.stands) ∙ c.if-is_disturbed.false)
    (sym c.is_body.ensures.same ∙ c.if-not-is_body.false) (sym (c.in_default.ensures.fault state.kept before)) fits in
    let after = gives_end (after_elements state.kept body) c.apply_elements.new.screen _
    (c.in_default.ensures.after state.kept before) c.end_write.ensures.events in
    body_sent _ bytes items state m _ body _ does
    (rw c.assign-2.ensures after) (c.is_body.ensures.chain c.if-not-is_body.false) fits kept _ text out
