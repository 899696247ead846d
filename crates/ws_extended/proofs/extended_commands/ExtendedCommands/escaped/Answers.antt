use Rattle.std.proofs.Common.{[], ◌∷◌, ◌++◌, List, ℕ, refl, sym, subst, ap, ◌≡◌}
use Rattle.ws_code.specs.Code.{IsUnfinished, IsPrefix}
use Rattle.ws_code.specs.Run.{reading}
use Rattle.ws_code.specs.Step.{IsStep}
use Rattle.ws_stream.specs.Elements.{element_rules}
use Rattle.ws_stream.specs.Reasons.{element_reason}
use Rattle.ws_stream.specs.UnfinishedElement.{unfinished_of}
use Rattle.ws_stream.specs.declared.command_code.TheConstants.{ESCAPE}
use Rattle.ws_extended.specs.ExtendedElements.{extended_rules}
use Rattle.ws_extended.specs.ExtendedMachine.{inner_place}
use Rattle.ws_extended.specs.ExtendedReasons.{extended_reason}
use Rattle.ws_extended.specs.ExtendedRuns.{reading_by}
use Rattle.ws_extended.specs.declared.extended_commands.ExtendedCommands.{ExtendedCommands}
use Rattle.ws_extended.specs.declared.extended_commands.phase.Phase.TheVariants.{Escaped}
use Rattle.ws_extended.proofs.MachineLaws.{command_reasons, escape_begun, has_escape, query_begun}
use Rattle.ws_extended.proofs.extended_commands.ExtendedCommands.escaped.Goals as goal

-- the profile's machine has the escape
escape_there : (m : ExtendedCommands) → m.phase ≡ Escaped → unfinished_of m.inner ≡ ESCAPE ∷ []
escape_there m is = has_escape m.place m.phase (unfinished_of m.inner) is m.sound

pub returns-then-byte-eq-WRITE_STRUCTURED_FIELD : goal.returns-then-byte-eq-WRITE_STRUCTURED_FIELD
returns-then-byte-eq-WRITE_STRUCTURED_FIELD c =
    let is = c.if-byte-eq-WRITE_STRUCTURED_FIELD.true in
    let place = c.args.self.now.place in (
      refl,
      ap (λ (n : ℕ). ESCAPE ∷ n ∷ []) (sym is),
      subst (λ (n : ℕ). IsUnfinished extended_rules place (ESCAPE ∷ n ∷ [])) (sym is) (query_begun place),
    )

pub go_on-requires-clause-unfinished : goal.go_on-requires-clause-unfinished
go_on-requires-clause-unfinished c =
    let m = c.args.self.now in
    subst (λ (l : List ℕ). IsUnfinished element_rules (inner_place m.place) l) (sym (escape_there m c.requires))
    (escape_begun (inner_place m.place))

pub go_on-requires-clause-reason : goal.go_on-requires-clause-reason
go_on-requires-clause-reason c =
    let m = c.args.self.now in
    subst (λ (l : List ℕ). (IsPrefix element_rules (inner_place m.place) (l ++ c.args.byte ∷ []) → ⊥)
    → element_reason (inner_place m.place) l c.args.byte ≡ extended_reason m.place l c.args.byte)
    (sym (escape_there m c.requires))
    (command_reasons m.place c.args.byte
    (c.in-None.ensures.left refl c.if-byte-eq-WRITE_STRUCTURED_FIELD.false c.if-byte-eq-ROLL.false))

pub returns-in-None : goal.returns-in-None
returns-in-None c =
    let is = c.if-byte-eq-ROLL.true in (
      refl,
      ap (λ (n : ℕ). ESCAPE ∷ n ∷ []) (sym is),
      subst (λ (n : ℕ). IsUnfinished extended_rules c.args.self.now.place (ESCAPE ∷ n ∷ [])) (sym is)
          (c.in-None.ensures.rolls refl is),
    )

pub returns-in-None-2 : goal.returns-in-None-2
returns-in-None-2 c =
    let m = c.args.self.now in
    let n = c.go_on.new.self in
    subst (λ (l : List ℕ). IsStep extended_rules (reading m.place l) c.args.byte (reading_by n) c.go_on.result)
    (escape_there m c.requires) c.go_on.ensures
