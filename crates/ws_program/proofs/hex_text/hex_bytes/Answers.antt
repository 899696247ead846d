use Rattle.std.proofs.Common.{arith}
use Rattle.std.proofs.lemmas.Grind.{common_steps}
use Rattle.ws_program.proofs.hex_text.hex_bytes.Goals as goal

pub returns-then-not-is_hex-clause-fault : goal.returns-then-not-is_hex-clause-fault
returns-then-not-is_hex-clause-fault c = grind (arith, common_steps)
