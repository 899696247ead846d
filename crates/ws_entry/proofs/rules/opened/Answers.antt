use Rattle.ws_entry.proofs.Cells.{opened_within}
use Rattle.ws_entry.proofs.rules.opened.Goals as goal

pub returns-clause-within : goal.returns-clause-within
returns-clause-within c =
    opened_within c.args.screen.now c.open_field.result c.open_field.ensures.legal c.open_field.ensures.value
