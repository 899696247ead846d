use Rattle.std.proofs.Common.{refl}
use Rattle.ws_c.proofs.HeldLaws.{host_status}
use Rattle.ws_c.proofs.host_answer.ws_c_host_answer_field.Goals as goal

pub returns-in-Host : goal.returns-in-Host
returns-in-Host c = host_status _ _ c.field_at-status.result c.number-given.ensures c.in-Some.ensures.some
    c.deref_mut.ensures.value c.in-Host.is c.deref_mut-host.ensures.value c.put.ensures
    (refl, c.field_at-status.ensures)
