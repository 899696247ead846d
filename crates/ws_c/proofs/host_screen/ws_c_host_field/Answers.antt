use Rattle.std.proofs.Common.{refl}
use Rattle.ws_c.proofs.HeldLaws.{host_status}
use Rattle.ws_c.proofs.host_screen.ws_c_host_field.Goals as goal

pub returns-in-Host : goal.returns-in-Host
returns-in-Host c = host_status _ _ c.tell_field-status.result c.number-given.ensures c.in-Some.ensures.some
    c.deref_mut.ensures.value c.in-Host.is c.deref_mut-host.ensures.value c.put.ensures
    (refl, rw c.screen.ensures.value at c.tell_field-status.ensures)
