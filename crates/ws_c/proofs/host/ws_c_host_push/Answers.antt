use Rattle.std.proofs.Common.{rules}
use Rattle.ws_c.proofs.HeldLaws.{host_status}
use Rattle.ws_c.proofs.host.ws_c_host_push.Goals as goal

pub returns-in-Host-clause-pushed : goal.returns-in-Host-clause-pushed
returns-in-Host-clause-pushed c = λ _. host_status _ _ c.push_host-status.result (search rules) c.in-Some.ensures.some
    c.deref_mut.ensures.value c.in-Host.is c.deref_mut-host.ensures.value c.put.ensures c.push_host-status.ensures
