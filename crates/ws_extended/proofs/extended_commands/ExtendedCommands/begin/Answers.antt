use Rattle.std.proofs.Common.{[], ◌∷◌, ◌++◌, List, ℕ, refl, sym, subst, ap, ◌∙◌, ◌≡◌, true}
use Rattle.ws_code.specs.Code.{IsUnfinished, IsPrefix}
use Rattle.ws_code.specs.Run.{reading}
use Rattle.ws_code.specs.Step.{IsStep}
use Rattle.ws_stream.specs.ElementLaws.{element_begins}
use Rattle.ws_stream.specs.Elements.{allows_orders, element_rules}
use Rattle.ws_stream.specs.Reasons.{element_reason}
use Rattle.ws_stream.specs.Taking.{reading_of}
use Rattle.ws_stream.specs.UnfinishedElement.{unfinished_of}
use Rattle.ws_extended.specs.ExtendedElements.{extended_rules}
use Rattle.ws_extended.specs.ExtendedMachine.{inner_place, fits_phase}
use Rattle.ws_extended.specs.ExtendedReasons.{extended_reason}
use Rattle.ws_extended.specs.ExtendedRuns.{reading_by}
use Rattle.ws_extended.specs.declared.extended_commands.ExtendedCommands.{ExtendedCommands}
use Rattle.ws_extended.specs.declared.extended_commands.phase.Phase.TheVariants.{Begin, Escaped}
use Rattle.ws_extended.proofs.MachineLaws.{escape_more, escape_taken, first_reasons, fresh, none_begins}
use Rattle.ws_extended.proofs.extended_commands.ExtendedCommands.begin.Goals as goal

-- the profile's machine has no byte yet
none_yet : (m : ExtendedCommands) → m.phase ≡ Begin → unfinished_of m.inner ≡ []
none_yet m is = fresh m.place m.phase (unfinished_of m.inner) is m.sound

pub push-more-requires : goal.push-more-requires
push-more-requires c =
    let m = c.args.self.now in
    subst (λ (l : List ℕ). IsUnfinished element_rules (reading_of m.inner).place l) (sym (none_yet m c.requires))
    (element_begins (reading_of m.inner).place)

pub invariant_of-self : goal.invariant_of-self
invariant_of-self c =
    let m = c.args.self.now in
    let taken : _ = escape_taken (reading_of m.inner).place (unfinished_of m.inner) c.args.byte
    (reading_of c.push-more.new.self).place (unfinished_of c.push-more.new.self) c.push-more.result
    (none_yet m c.requires) c.if-byte-eq-ESCAPE.true c.push-more.ensures in
    record {
      beside = ap allows_orders taken.0 ∙ m.beside;
      sound = subst (λ (l : List ℕ). fits_phase m.place Escaped l ≡ true) (sym taken.1) refl;
    }

pub returns-then-byte-eq-ESCAPE : goal.returns-then-byte-eq-ESCAPE
returns-then-byte-eq-ESCAPE c =
    let is = c.if-byte-eq-ESCAPE.true in
    let place = c.args.self.now.place in (
      refl,
      ap (λ (n : ℕ). n ∷ []) (sym is),
      subst (λ (n : ℕ). IsUnfinished extended_rules place (n ∷ [])) (sym is) (escape_more place),
    )

pub go_on-requires-clause-unfinished : goal.go_on-requires-clause-unfinished
go_on-requires-clause-unfinished c =
    let m = c.args.self.now in
    subst (λ (l : List ℕ). IsUnfinished element_rules (inner_place m.place) l) (sym (none_yet m c.requires))
    (element_begins (inner_place m.place))

pub go_on-requires-clause-reason : goal.go_on-requires-clause-reason
go_on-requires-clause-reason c =
    let m = c.args.self.now in
    subst (λ (l : List ℕ). (IsPrefix element_rules (inner_place m.place) (l ++ c.args.byte ∷ []) → ⊥)
    → element_reason (inner_place m.place) l c.args.byte ≡ extended_reason m.place l c.args.byte)
    (sym (none_yet m c.requires))
    (first_reasons m.place c.args.byte c.ranges.byte.fits (c.in-None.ensures.taken refl))

pub returns-in-Some-refused_first : goal.returns-in-Some-refused_first
returns-in-Some-refused_first c =
    let refused : _ = c.in-Some-refused_first.ensures.refused c.in-Some-refused_first.reason refl in
    (none_begins c.args.self.now.place c.args.byte c.if-byte-eq-ESCAPE.false refused.0, refused.1)

pub returns-in-None : goal.returns-in-None
returns-in-None c =
    let m = c.args.self.now in
    let n = c.go_on.new.self in
    subst (λ (l : List ℕ). IsStep extended_rules (reading m.place l) c.args.byte (reading_by n) c.go_on.result)
    (none_yet m c.requires) c.go_on.ensures
