use Rattle.std.proofs.Common.{◌≡◌, ◌++◌, ◌∙◌, List, ℕ, true, sym, ap, subst}
use Rattle.ws_stream.specs.UnfinishedElement.{unfinished_of}
use Rattle.ws_extended.specs.ExtendedMachine.{element_begun_in, fits_phase}
use Rattle.ws_extended.specs.ExtendedReasons.{is_inner}
use Rattle.ws_extended.specs.declared.extended_commands.phase.Phase.{Phase}
use Rattle.ws_extended.specs.declared.extended_place.ExtendedPlace.{ExtendedPlace}
use Rattle.ws_extended.proofs.Lifting.{inner_grows}
use Rattle.ws_extended.proofs.MachineLaws.{fresh}
use Rattle.ws_extended.proofs.extended_commands.ExtendedCommands.is_of_profile.Goals as goal

pub returns-in-Begin : goal.returns-in-Begin
returns-in-Begin c = λ is.
    let m = c.args.self.now in
    let none = fresh m.place m.phase (unfinished_of m.inner) c.in-Begin.is m.sound in
    record {
      place = c.in-InProfile.field-0;
      is_place = c.in-InProfile.is;
      begun = ap (λ (p : Phase). element_begun_in p (unfinished_of m.inner)) c.in-Begin.is ∙ sym none;
      inner = rw none (c.begins_profile.ensures is c.in-InProfile.field-0);
    }

pub returns-in-Inside : goal.returns-in-Inside
returns-in-Inside c = λ is.
    let m = c.args.self.now in
    let bytes : List ℕ = unfinished_of m.inner in
    let sound : is_inner m.place bytes ≡ true =
    subst (λ (p : Phase). fits_phase m.place p bytes ≡ true) c.in-Inside.is m.sound in
    record {
      place = c.in-InProfile.field-0;
      is_place = c.in-InProfile.is;
      begun = ap (λ (p : Phase). element_begun_in p bytes) c.in-Inside.is;
      inner = subst (λ (p : ExtendedPlace). is_inner p (bytes ++ c.args.values.now) ≡ true) c.in-InProfile.is
          (inner_grows m.place bytes c.args.values.now sound);
    }
