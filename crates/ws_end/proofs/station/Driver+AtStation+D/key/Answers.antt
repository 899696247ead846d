use Rattle.ws_end.proofs.Common.{◌&&◌, not, ◌≡◌, refl, ◌∙◌, ap, sym, Bool, true, false, Err, Ok}
use Rattle.ws_end.proofs.station.Driver+AtStation+D.key.Goals as goal
use Rattle.ws_end.proofs.station.Driver+AtStation+D.key.Goals.{else-sends-via-then-sends+else-not-records_allowed}
use Rattle.ws_end.proofs.station.Driver+AtStation+D.key.Goals.{else-sends-via-else-sends}
use Rattle.ws_end.proofs.station.StationSteps.{pressed}

never : (b : Bool) → (b && false) ≡ false
never true = refl
never false = refl

unsent : (b c : Bool) → b ≡ false → (b && c) ≡ false
unsent b c e = rw e refl

pub returns-in-Ok-clause-keyed : goal.returns-in-Ok-clause-keyed
returns-in-Ok-clause-keyed g c =
    let d = g.D.StationDisplay.does in
    rw (← c.self.view_is, ← c.self-inside.view_is) (λ bytes items state l few. pressed g.D.Commands.Code.rules d _ bytes
    items state l c.args.key (elim c.else-sends.branch [
      | else-sends-via-then-sends+else-not-records_allowed w ↦ ap (λ (b : Bool). d.sends c.args.key && not b)
          (sym w.if-not-records_allowed.ensures) ∙ never _
      | else-sends-via-else-sends w ↦ unsent _ _ (sym w.if-sends.ensures)
    ]) c.press.new.self (Ok c.in-Ok.answer) (c.in-Ok.ensures.pressed state l.stands.given))

pub returns-in-Err-clause-keyed : goal.returns-in-Err-clause-keyed
returns-in-Err-clause-keyed g c =
    let d = g.D.StationDisplay.does in
    rw (← c.self.view_is, ← c.self-inside.view_is) (λ bytes items state l few. pressed g.D.Commands.Code.rules d _ bytes
    items state l c.args.key (elim c.else-sends.branch [
      | else-sends-via-then-sends+else-not-records_allowed w ↦ ap (λ (b : Bool). d.sends c.args.key && not b)
          (sym w.if-not-records_allowed.ensures) ∙ never _
      | else-sends-via-else-sends w ↦ unsent _ _ (sym w.if-sends.ensures)
    ]) c.press.new.self (Err c.in-Err.refusal) (c.in-Err.ensures.pressed state l.stands.given))
