use Rattle.std.proofs.Common.{ℕ, List, [], ◌∷◌, ◌++◌, subst, sym, slice_index}
use Rattle.std.proofs.lemmas.List.{take_more}
use Rattle.ws_code.specs.Code.{IsSpelled}
use Rattle.ws_code.specs.Run.{IsRunOfValues, intake, with_keep}
use Rattle.ws_code.specs.declared.run.End.{End}
use Rattle.ws_code.proofs.RunLaws.{same_reading}
use Rattle.ws_extended.specs.ExtendedElements.{extended_rules}
use Rattle.ws_extended.specs.ExtendedLaws.{extended_begins}
use Rattle.ws_extended.specs.ExtendedRuns.{reading_by}
use Rattle.ws_extended.proofs.Running.{run_unit}
use Rattle.ws_extended.proofs.extended_commands.ExtendedCommands.take.Goals as goal

pub returns-in-Some-clause-run : goal.returns-in-Some-clause-run
returns-in-Some-clause-run g c =
    let from = reading_by c.args.self.now in
    let values = c.args.values.now in
    let b : ℕ = slice_index values 0 in
    let element = c.in-Some.element in
    let is = c.in-Some.ensures in
    let handed = c.hand_over-end.ensures in
    let at = c.requires.at in
    let spelled = subst (λ (begun : List ℕ). IsSpelled extended_rules from.place (begun ++ b ∷ []) element) (sym is.0)
    is.1 in
    let one = run_unit extended_rules extended_begins g.K.Keep.keeper from from c.args.keep.now
    c.hand_over-end.new.keep b c.args.at.now handed.0 element at.unfinished spelled handed.2 handed.3
    (same_reading _ _ _ _ (sym is.2) is.0) at in
    subst (λ (xs : List ℕ). IsRunOfValues (intake extended_rules g.K.Keep.keeper) (with_keep from c.args.keep.now) xs
    (with_keep from c.hand_over-end.new.keep) c.args.at.now c.hand_over-end.result)
    (sym (take_more values 0 0 c.requires.some))
    (subst (λ (end : End). IsRunOfValues (intake extended_rules g.K.Keep.keeper) (with_keep from c.args.keep.now)
    (b ∷ []) (with_keep from c.hand_over-end.new.keep) c.args.at.now end) (sym handed.1) one)
