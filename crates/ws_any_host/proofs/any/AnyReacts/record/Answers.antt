use Rattle.std.proofs.Common.{◌≡◌, ◌∙◌, [], refl, ap, Some, true, ℕ, List}
use Rattle.ws_nego.specs.Host.{host_allows_records}
use Rattle.ws_record.specs.DataStep.{record_of}
use Rattle.ws_any_host.specs.AnyEndState.{AnyOutput}
use Rattle.ws_any_host.specs.declared.any_event.AnyEvent.TheVariants.{Record as Came}
use Rattle.ws_any_host.proofs.any.AnyReacts.record.Goals as goal

pub returns-clause-reacted : goal.returns-clause-reacted
returns-clause-reacted c = λ units chain small keeps items state h.
    let head = c.args.head in
    let allowed : host_allows_records state.host ≡ true = cc in
    let body : c.of-2.result ≡ units =
    c.of-2.ensures ∙ ap (λ v. v.items) c.replace-body.ensures.value ∙ keeps in
    let output : AnyOutput = record { items = []; event = Some (Came (record_of head units)) } in
    rw allowed (
      state,
      output,
      refl,
      c.of.ensures ∙ c.new-2.ensures,
      ap (λ (b : List ℕ). Some (Came (record { flags = head.flags; opcode = head.opcode; body = b }))) body,
      h,
    )
