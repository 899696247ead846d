use Rattle.std.proofs.Common.{◌∷◌, []}
use Rattle.ws_script.proofs.CauseTexts.{stands_both}
use Rattle.ws_script.proofs.cause.causes.unknown.Goals as goal

pub returns-then-has_tab : goal.returns-then-has_tab
returns-then-has_tab c = λ line first stands none. stands_both line c.args.first.now (9 ∷ []) stands
    (c.has_tab.ensures c.if-has_tab.true)
