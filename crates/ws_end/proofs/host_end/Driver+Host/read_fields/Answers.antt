use Rattle.ws_end.proofs.Common.{◌≡◌, List, ◌∙◌, Option, Some, sym, Result, AnswerPart, Field, ReadKind, read_answer}
use Rattle.ws_end.proofs.Common.{IsRead, IsSplit, HostAnswer, is_read}
use Rattle.ws_keys.specs.declared.host_answer.HostFault.{HostFault}
use Rattle.ws_end.proofs.host_end.Driver+Host.read_fields.Goals as goal

-- what may be answered by the asked read
by_asked_read : (asked : Option ReadKind) (fields : List Field) (parts : List AnswerPart) (kind : ReadKind)
    (result : Result HostAnswer HostFault) → asked ≡ Some kind → IsSplit kind fields parts result
    → (k : ReadKind) → asked ≡ Some k → IsRead (read_answer k fields parts) result
by_asked_read asked fields parts kind result is split k e =
    let same : kind ≡ k = cc in
    rw (← same) (is_read kind fields parts result split)

pub returns : goal.returns
returns c = record {
  read = rw
      (← c.self.view_is, ← c.self-inside.view_is) (by_asked_read _ _ _ _ _ (sym c.pending.ensures ∙ c.in-Some.is) c.split_answer.ensures.split);
}
