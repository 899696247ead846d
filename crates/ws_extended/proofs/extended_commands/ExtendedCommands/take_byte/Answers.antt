use Rattle.std.proofs.Common.{ℕ, List, [], ◌∷◌, false, refl, subst, sym, ◌∙◌}
use Rattle.ws_code.specs.Code.{IsUnfinished}
use Rattle.ws_code.specs.Run.{IsRunOfValues, intake, with_keep}
use Rattle.ws_code.specs.declared.run.End.{End}
use Rattle.ws_code.specs.declared.run.Standing.{Standing}
use Rattle.ws_code.proofs.RunLaws.{is_between, same_reading}
use Rattle.ws_extended.specs.ExtendedElements.{extended_rules}
use Rattle.ws_extended.specs.ExtendedLaws.{extended_begins}
use Rattle.ws_extended.specs.ExtendedRuns.{reading_by}
use Rattle.ws_extended.specs.declared.extended_place.ExtendedPlace.{ExtendedPlace}
use Rattle.ws_extended.proofs.Running.{run_bad, run_more, run_unit}
use Rattle.ws_extended.proofs.extended_commands.ExtendedCommands.take_byte.Goals as goal

pub returns-in-More : goal.returns-in-More
returns-in-More g c =
    let step = c.in-More.ensures in
    run_more extended_rules extended_begins g.K.Keep.keeper (reading_by c.args.self.now)
    (reading_by c.push.new.self) c.args.keep.now c.args.keep.now c.args.byte _ c.requires.unfinished step.2
    (same_reading _ _ _ _ step.0 step.1) refl (c.requires.at_place ∙ sym step.0) refl

pub returns-in-Unit : goal.returns-in-Unit
returns-in-Unit g c =
    let from = reading_by c.args.self.now in
    let to = reading_by c.restart.new.self in
    let b : ℕ = c.args.byte in
    let element = c.in-Unit.element in
    let fresh = c.restart.ensures.fresh in
    let handed = c.hand_over.ensures in
    let unfinished = subst (λ (begun : List ℕ). IsUnfinished extended_rules to.place begun) (sym fresh)
    (extended_begins to.place) in
    let standing : Standing ExtendedPlace = record { place = c.after-place.result; is_inside = false } in
    let at = is_between extended_rules to standing unfinished (sym c.restart.ensures.place) refl fresh in
    subst (λ (end : End). IsRunOfValues (intake extended_rules g.K.Keep.keeper) (with_keep from c.args.keep.now)
    (b ∷ []) (with_keep to c.hand_over.new.keep) standing end) (sym handed.1)
    (run_unit extended_rules extended_begins g.K.Keep.keeper from to c.args.keep.now
    c.hand_over.new.keep b standing handed.0 element c.requires.unfinished c.in-Unit.ensures handed.2 handed.3
    (same_reading _ _ _ _ (c.restart.ensures.place ∙ c.after-place.ensures) fresh) at)

pub returns-in-Bad : goal.returns-in-Bad
returns-in-Bad g c =
    run_bad extended_rules extended_begins g.K.Keep.keeper (reading_by c.args.self.now)
    (reading_by c.push.new.self) c.args.keep.now c.args.keep.now c.args.byte c.args.at.now c.requires.unfinished
    c.in-Bad.reason c.in-Bad.ensures.0 c.in-Bad.ensures.1 refl
