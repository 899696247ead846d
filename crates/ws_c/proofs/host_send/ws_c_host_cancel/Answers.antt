use Rattle.std.proofs.Common.{rules}
use Rattle.ws_c.proofs.HeldLaws.{host_status}
use Rattle.ws_c.proofs.host_send.ws_c_host_cancel.Goals as goal

pub returns-in-Host-clause-sent : goal.returns-in-Host-clause-sent
returns-in-Host-clause-sent c = λ _. host_status _ _ c.cancel_host-status.result (search rules) c.in-Some.ensures.some
    c.deref_mut.ensures.value c.in-Host.is c.deref_mut-host.ensures.value c.put.ensures
    (let s = c.cancel_host-status.ensures in (s.sent.0, s.sent.1, s.sent.2, s.same))
