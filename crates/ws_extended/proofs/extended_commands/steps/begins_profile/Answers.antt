use Rattle.std.proofs.Common.{◌≡◌, ◌≢◌, ℕ, ◌<◌, ◌≤◌, List, [], ◌∷◌, Bool, true, false, length, slice_index, refl, arith}
use Rattle.std.proofs.Common.{◌==◌, if◌then◌else◌}
use borrow.Author.Tests.{ne_eqb}
use Rattle.ws_stream.specs.declared.command_code.TheConstants.{ESCAPE}
use Rattle.ws_stream.specs.declared.place.Place.{Place}
use Rattle.ws_extended.specs.ExtendedReasons.{is_inner, takes_command}
use Rattle.ws_extended.specs.declared.extended_place.ExtendedPlace.TheVariants.{InProfile}
use Rattle.ws_extended.proofs.extended_commands.steps.begins_profile.Goals as goal

no_escape : (place : Place) (bytes : List ℕ) → 0 < length bytes → slice_index bytes 0 ≢ ESCAPE
    → is_inner (InProfile place) bytes ≡ true
no_escape place [] some ne = absurd (omega (arith, some))
no_escape place (b ∷ []) some ne = rw (ne_eqb b ESCAPE ne) refl
no_escape place (b ∷ code ∷ bytes) some ne = rw (ne_eqb b ESCAPE ne) refl

own_command : (place : Place) (bytes : List ℕ) → 2 ≤ length bytes
    → takes_command (InProfile place) (slice_index bytes 1) ≡ true → is_inner (InProfile place) bytes ≡ true
own_command place [] some own = absurd (omega (arith, some))
own_command place (b ∷ []) some own = absurd (omega (arith, some))
own_command place (b ∷ code ∷ bytes) some own = go (b == ESCAPE)
  where
    go : (t : Bool) → (if t then takes_command (InProfile place) code else true) ≡ true
    go true = own
    go false = refl

pub returns-then-values-ne-ESCAPE : goal.returns-then-values-ne-ESCAPE
returns-then-values-ne-ESCAPE c =
    λ is place. no_escape place c.args.values.now c.requires c.if-values-ne-ESCAPE.true

pub returns : goal.returns
returns c = λ is place. own_command place c.args.values.now (omega arith) (c.is_own_command.ensures is place)
