use Rattle.ws_end.proofs.Common.{subst}
use Rattle.ws_end.specs.station.StationActs.{IsKeyTakenOn}
use Rattle.ws_end.specs.station.StationEndState.{on_profile}
use Rattle.ws_end.specs.attached.Requests.{IfDone}
use Rattle.ws_end.proofs.attached.Plays.{taken_done, press_failed, refused_done}
use Rattle.ws_end.proofs.attached.player.Player.press.Goals as goal

pub returns-in-Ok-Done-clause-done : goal.returns-in-Ok-Done-clause-done
returns-in-Ok-Done-clause-done g c =
    let taken = subst (λ o. IfDone o (IsKeyTakenOn on_profile c.args.self.now.station c.args.key))
    c.in-Ok-Done.field-0-is c.in-Ok-Done.ensures.taken in
    λ bytes items state l few. taken_done _ _ bytes items state _ _ _ _ l few c.in-Ok-Done.ensures.pressed taken

pub returns-in-Ok-Refused-clause-done : goal.returns-in-Ok-Refused-clause-done
returns-in-Ok-Refused-clause-done g c =
    let same = rw c.in-Ok-Refused.field-0-is at c.in-Ok-Refused.ensures.refused in
    let refusal = rw c.in-Ok-Refused.field-0-is at c.in-Ok-Refused.ensures.reported in
    λ bytes items state l few.
    refused_done _ _ bytes items state _ _ _ _ l few _ _ same.0 same.1 refusal c.saturating_add-self.ensures

pub returns-in-Err-clause-fault : goal.returns-in-Err-clause-fault
returns-in-Err-clause-fault g c = (
  c.in-Err.ensures.fault.0,
  λ bytes items state l few. press_failed _ c.args.self.now bytes items state _
      c.press.new.self _ _ l few c.in-Err.ensures.fault.1,
)
