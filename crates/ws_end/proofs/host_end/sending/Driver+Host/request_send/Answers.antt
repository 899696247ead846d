use Rattle.ws_end.specs.declared.end_step.Sent.TheVariants.{Record}
use Rattle.ws_end.proofs.Common.{Ok, Err, rules}
use Rattle.ws_end.proofs.EndRequests.{cancels, sends}
use Rattle.ws_end.proofs.host_end.sending.Driver+Host.request_send.Goals as goal

pub returns-in-CancelInvite : goal.returns-in-CancelInvite
returns-in-CancelInvite c =
    rw c.in-CancelInvite.is (cancels c.args.body.now _ _ c.request_cancel.result c.request_cancel.ensures)

pub returns-in-Ok : goal.returns-in-Ok
returns-in-Ok c = sends c.args.opcode c.in_default.not-CancelInvite c.args.body.now _ _ (Ok (Record c.in-Ok.bytes))
    c.in-Ok.ensures.sent tt (search rules) (search rules)

pub returns-in-Err : goal.returns-in-Err
returns-in-Err c = sends c.args.opcode c.in_default.not-CancelInvite c.args.body.now _ _ (Err c.in-Err.fault)
    c.in-Err.ensures.sent c.in-Err.ensures.same (search rules) (search rules)
