use Rattle.std.proofs.Common.{inr}
use Rattle.std.proofs.lemmas.Result.{IfOk-weaker}
use Rattle.ws_script.proofs.cause.refused.Goals as goal

pub returns-in-Some : goal.returns-in-Some
returns-in-Some c = IfOk-weaker c.refusal_text.result _ _ (λ text told. inr (
  c.in-Some.place,
  c.in-Some.reason,
  rw c.in-Some.is at c.in_ok-place.ensures,
  rw c.text.ensures at told,
)) c.refusal_text.ensures
