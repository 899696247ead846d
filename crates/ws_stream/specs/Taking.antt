-- What a byte makes of the machine of `Commands`, and of what keeps the elements.

use Rattle.std.specs.Prelude.{◌≡◌, ℕ, List, [], ◌∷◌, ◌++◌, ◌⊎◌, Bool, true, false}
use Rattle.ws_code.specs.Code.{IsSpelled}
use Rattle.ws_code.specs.Keep.{Keeper, KeepsOne}
use Rattle.ws_code.specs.Run.{Reading, WithKeep, reading}
use Rattle.ws_code.specs.Step.{IsStep}
use Rattle.ws_code.specs.declared.code.Push.TheVariants as answer
use Rattle.ws_code.specs.declared.keep.Kept.{Kept}
use Rattle.ws_code.specs.declared.keep.Kept.TheVariants as kept
use Rattle.ws_code.specs.declared.run.End.{End}
use Rattle.ws_code.specs.declared.run.End.TheVariants.{More, Enough, NoMemory, Bad}
use Rattle.ws_code.specs.declared.run.Standing.{Standing}
use Rattle.ws_stream.specs.Elements.{element_rules}
use Rattle.ws_stream.specs.Machine.{unfinished_in}
use Rattle.ws_stream.specs.UnfinishedElement.{unfinished_of}
use Rattle.ws_stream.specs.declared.commands.Commands.{Commands}
use Rattle.ws_stream.specs.declared.commands.phase.Phase.{Phase}
use Rattle.ws_stream.specs.declared.commands.phase.Phase.TheVariants.{Begin}
use Rattle.ws_stream.specs.declared.element.Element.{Element}
use Rattle.ws_stream.specs.declared.place.Place.{Place}

-- where the element stands that is read, and its bytes so far
abbrev pub reading_of : Commands → Reading Place
reading_of m = record { place = m.place; begun = unfinished_of m }

-- the machine is inside an element
abbrev pub is_inside : Phase → Bool
is_inside Begin = false
is_inside _ = true

-- where the machine stands
abbrev pub standing_of : Commands → Standing Place
standing_of m = record { place = m.place; is_inside = is_inside m.phase }

-- the machine waits for this now
pub record IsWaiting (old : Commands) (phase : Phase) (new : Commands) (end : End) : Type 0 where
  pub more : end ≡ More
  pub place : new.place ≡ old.place
  pub begun : unfinished_of new ≡ unfinished_in phase old.bytes old.kinds old.controls

-- After the bytes of an element that has begun at the place, the byte goes on with it, or is refused.
abbrev pub GoesOnWithElement : Place → List ℕ → ℕ → Commands → End → Type 0
GoesOnWithElement place begun b machine More =
    IsStep element_rules (reading place begun) b (reading_of machine) answer.More
GoesOnWithElement place begun b machine (Bad reason) =
    IsStep element_rules (reading place begun) b (reading_of machine) (answer.Bad reason)
GoesOnWithElement place begun b machine _ = ⊥

module _ {K : Type 0} where
  -- the keep has answered so to the element, and the machine stands after it
  pub record HasKept (keeper : Keeper Element K) (old : K) (element : Element) (after : WithKeep Commands K)
      (kept : Kept) : Type 0 where
    pub keeps : KeepsOne keeper old after.keep element kept
    pub answer : keeper.may_answer kept
    pub behind : reading_of after.read ≡ record { place = element_rules.after element; begun = [] }

  -- what becomes of an element that the keep is given
  abbrev pub IsKept : Keeper Element K → K → Element → WithKeep Commands K → End → Type 0
  IsKept keeper old element after More = HasKept keeper old element after kept.GoOn
  IsKept keeper old element after Enough = HasKept keeper old element after kept.Enough
  IsKept keeper old element after NoMemory = HasKept keeper old element after kept.NoMemory
  IsKept keeper old element after (Bad reason) = ⊥

  -- The byte goes on with the element or is refused, and the keep is as it was; or it completes one, for the keep.
  abbrev pub Takes : Keeper Element K → WithKeep (Reading Place) K → ℕ → WithKeep Commands K → End → Type 0
  Takes keeper before b after end =
      (GoesOnWithElement before.read.place before.read.begun b after.read end × (after.keep ≡ before.keep))
      ⊎ ((element : Element) × IsSpelled element_rules before.read.place (before.read.begun ++ b ∷ []) element
      × IsKept keeper before.keep element after end)
