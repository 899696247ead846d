use Rattle.ws_end.proofs.Common.{rules}
use Rattle.ws_end.proofs.CancelFaults.{cancel_fault}
use Rattle.ws_end.proofs.host_end.sending.Driver+Host.request_cancel.Goals as goal

pub returns-in-Err : goal.returns-in-Err
returns-in-Err c = record {
  sent = λ bytes items state l few. cancel_fault state c.in-Err.fault (c.in-Err.ensures.sent bytes items state l few);
  same = search rules;
  wanting = search rules;
  full = search rules;
  failed = search rules;
}
