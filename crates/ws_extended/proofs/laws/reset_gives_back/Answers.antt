use Rattle.std.proofs.Common.{refl}
use Rattle.ws_extended.proofs.ErrorLaws.{reset_gives, reset_unrefused}
use Rattle.ws_extended.proofs.StateLaws.{error_resets}
use Rattle.ws_extended.proofs.laws.reset_gives_back.Goals as goal

pub returns-clause-given : goal.returns-clause-given
returns-clause-given c = reset_gives

pub returns-clause-unrefused : goal.returns-clause-unrefused
returns-clause-unrefused c = reset_unrefused

pub returns-clause-reset : goal.returns-clause-reset
returns-clause-reset c = error_resets

pub returns-clause-nothing : goal.returns-clause-nothing
returns-clause-nothing c = λ h n. refl
