use Rattle.ws_code.specs.Code.{IsUnfinished}
use Rattle.ws_telnet.specs.Machine.{unfinished_token}
use Rattle.ws_telnet.specs.Token.{token_rules}
use Rattle.rows_wire.proofs.token_rows.answer_to.Given as goal

abbrev pub invariant-loop-at : goal.invariant-loop-at
invariant-loop-at l = IsUnfinished token_rules tt (unfinished_token l.machine)
