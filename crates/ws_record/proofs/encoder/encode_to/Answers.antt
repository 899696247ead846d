use Rattle.ws_record.proofs.Common.{arith, common_steps}
use Rattle.ws_record.proofs.encoder.encode_to.Goals as goal

pub returns-in-Err-clause-written : goal.returns-in-Err-clause-written
returns-in-Err-clause-written g c = grind (arith, common_steps)
