use Rattle.std.proofs.Common.{rules, of_calls, arith}
use Rattle.std.proofs.lemmas.Grind.{common_steps}
use Rattle.ws_identity.proofs.Plain.{told_is}
use Rattle.ws_identity.proofs.telling.told_reply.Goals as goal

pub returns : goal.returns
returns c = told_is c.args.identity.now c.args.named _ c.push_device.ensures.plain c.push_page.ensures.plain
    (first_of (search rules, search (rules, of_calls), grind (arith, common_steps)))
