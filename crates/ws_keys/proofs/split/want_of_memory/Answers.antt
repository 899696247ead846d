use Rattle.std.proofs.Common.{arith}
use Rattle.std.proofs.lemmas.Grind.{common_steps}
use Rattle.ws_keys.proofs.split.want_of_memory.Goals as goal

pub returns-then-fits_read : goal.returns-then-fits_read
returns-then-fits_read c = grind (arith, common_steps)
