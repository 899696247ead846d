use Rattle.ws_c.proofs.HeldLaws.{on_host}
use Rattle.ws_c.proofs.host_send.send.Goals as goal

pub returns-in-Host : goal.returns-in-Host
returns-in-Host c = on_host _ _ c.in-Some.ensures.some c.deref_mut.ensures.value c.in-Host.is c.deref_mut-host.ensures.value
    c.put.ensures (let s = c.send_host-status.ensures in (s.sent.0, s.sent.1, s.sent.2, s.same))
