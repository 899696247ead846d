use Rattle.std.proofs.Common.{arith}
use Rattle.std.proofs.lemmas.Grind.{common_steps}
use Rattle.ws_c.proofs.station_screen.state_with.Goals as goal

pub returns : goal.returns
returns c = grind (arith, common_steps)
