use Rattle.std.proofs.Common.{refl, sym}
use Rattle.ws_c.proofs.HeldLaws.{host_status}
use Rattle.ws_c.proofs.host_send.ws_c_host_sent.Goals as goal

pub returns-in-Host : goal.returns-in-Host
returns-in-Host c = host_status _ _ c.fetch_bytes-status.result c.number-given.ensures c.in-Some.ensures.some
    c.deref_mut.ensures.value c.in-Host.is c.deref_mut-host.ensures.value c.put.ensures
    (refl, rw (sym c.as_slice.ensures) c.fetch_bytes-status.ensures)
