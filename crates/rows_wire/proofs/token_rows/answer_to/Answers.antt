use Rattle.std.proofs.Common.{ℕ, List, sym, subst}
use Rattle.ws_code.specs.Code.{IsUnfinished}
use Rattle.ws_telnet.specs.Token.{token_rules}
use Rattle.ws_telnet.specs.TokenLaws.{token_begins}
use Rattle.rows_wire.proofs.token_rows.answer_to.Goals as goal

pub loop-at-init : goal.loop-at-init
loop-at-init c = subst (λ (l : List ℕ). IsUnfinished token_rules tt l) (sym c.start-machine.ensures.fresh)
    (token_begins tt)
