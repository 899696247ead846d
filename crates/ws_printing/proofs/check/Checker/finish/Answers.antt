use Rattle.ws_printing.proofs.Common.{◌∙◌}
use Rattle.ws_printing.proofs.check.Checker.finish.Goals as goal

pub returns-in-Ok : goal.returns-in-Ok
returns-in-Ok g c = λ bytes k fits.
    (k.items, c.in-Ok.ensures.ok.1 bytes k.items k.so_far k.leads, k.records, k.commands)

pub returns-in-Err : goal.returns-in-Err
returns-in-Err g c = λ bytes k fits.
    (c.taken-at.ensures ∙ k.leads.count, (c.in-Err.ensures.truncated bytes k.items k.so_far k.leads fits).1)
