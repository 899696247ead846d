use Rattle.std.proofs.Common.{rules, refl}
use Rattle.ws_c.proofs.HeldLaws.{host_status}
use Rattle.ws_c.proofs.host_screen.ws_c_host_cells.Goals as goal

pub returns-in-Host-clause-cells : goal.returns-in-Host-clause-cells
returns-in-Host-clause-cells c = λ _ _. host_status _ _ c.tell_rows-status.result (search rules) c.in-Some.ensures.some
    c.deref_mut.ensures.value c.in-Host.is c.deref_mut-host.ensures.value c.put.ensures
    (refl, c.tell_rows-status.ensures.status, rw c.screen.ensures.value at c.tell_rows-status.ensures.cells)
