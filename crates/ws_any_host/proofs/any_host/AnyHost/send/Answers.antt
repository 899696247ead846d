use Rattle.std.proofs.Common.{ap, sym, ◌∙◌, ◌≡◌, ℕ, List, ◌++◌, ◌+◌, length}
use Rattle.ws_code.proofs.DeviceLaws.{held_went_out}
use Rattle.ws_record.specs.Encode.{record_spelling}
use Rattle.ws_record.specs.Grammar.{header}
use Rattle.ws_end.proofs.HostSteps.{known_ok}
use Rattle.ws_any_host.proofs.AnySteps.{fits, raw_spelled}
use Rattle.ws_any_host.proofs.any_host.AnyHost.send.Goals as goal

pub returns-clause-sent : goal.returns-clause-sent
returns-clause-sent c =
    let r = c.args.record_.now in
    let kept = c.as_slice-body.result.now in
    let spelled : List ℕ = record_spelling (header (10 + length kept) r.flags r.opcode ++ kept) in
    let went = known_ok _ (sym c.is_err.ensures.value ∙ c.if-is_err.false) c.write_record.ensures.ok in
    let out : c.into_inner.result.items ≡ spelled = c.into_inner.ensures
    ∙ held_went_out c.new-sink.result c.write_record.new.sink spelled went
    ∙ ap (λ (z : List ℕ). z ++ spelled) c.new-sink.ensures.bytes in (
      fits c.args.self.now.reacts r (sym c.is_ready.ensures ∙ c.if-not-is_ready.false)
          (rw c.as_slice-body.ensures at c.if-body-gt65525.false),
      out ∙ ap (λ (z : List ℕ). record_spelling (header (10 + length z) r.flags r.opcode ++ z))
          (c.as_slice-body.ensures ∙ sym (raw_spelled r.body)),
    )
