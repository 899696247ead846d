-- A run of bytes through the machine of `ExtendedCommands`.
use Rattle.std.specs.Prelude.{◌≡◌, ℕ, List, ◌++◌, true}
use Rattle.ws_code.specs.Run.{Reading}
use Rattle.ws_code.specs.declared.keep.Kept.{Kept}
use Rattle.ws_code.specs.declared.keep.Kept.TheVariants.{GoOn, Enough, NoMemory}
use Rattle.ws_code.specs.declared.run.End.{End}
use Rattle.ws_code.specs.declared.run.End.TheVariants.{More, Enough as EndsEnough, NoMemory as EndsNoMemory}
use Rattle.ws_stream.specs.UnfinishedElement.{unfinished_of}
use Rattle.ws_stream.specs.declared.place.Place.{Place}
use Rattle.ws_extended.specs.ExtendedMachine.{element_begun_in}
use Rattle.ws_extended.specs.ExtendedReasons.{is_inner}
use Rattle.ws_extended.specs.declared.extended_commands.ExtendedCommands.{ExtendedCommands}
use Rattle.ws_extended.specs.declared.extended_place.ExtendedPlace.{ExtendedPlace}
use Rattle.ws_extended.specs.declared.extended_place.ExtendedPlace.TheVariants.{InProfile}

-- where the element stands that is read, and its bytes so far
abbrev pub reading_by : ExtendedCommands → Reading ExtendedPlace
reading_by m = record { place = m.place; begun = element_begun_in m.phase (unfinished_of m.inner) }

-- how a run goes on, by what became of an element
abbrev pub kept_end : Kept → End
kept_end GoOn = More
kept_end Enough = EndsEnough
kept_end NoMemory = EndsNoMemory

-- the machine stands at a place of the profile, whose machine has the bytes of the element so far, and only elements of
-- the profile begin with these and the values
pub record GoesInside (m : ExtendedCommands) (values : List ℕ) : Type 0 where
  pub place : Place
  pub is_place : m.place ≡ InProfile place
  pub begun : element_begun_in m.phase (unfinished_of m.inner) ≡ unfinished_of m.inner
  pub inner : is_inner (InProfile place) (unfinished_of m.inner ++ values) ≡ true
