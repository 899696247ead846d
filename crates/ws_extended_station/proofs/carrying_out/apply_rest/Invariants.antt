use Rattle.std.proofs.Common.{◌≡◌, List, is_some, length}
use Rattle.ws_extended.specs.ExtendedStates.{ExtendedState}
use Rattle.ws_extended.specs.declared.extended_element.ExtendedElement.{ExtendedElement}
use Rattle.ws_extended.specs.declared.extended_place.ExtendedPlace.TheVariants.{InProfile}
use Rattle.ws_extended.proofs.OpenWrites.{is_open_at}
use Rattle.ws_extended_station.specs.CarriedOut.{IsUnderWay}
use Rattle.ws_extended_station.proofs.carrying_out.apply_rest.Given as goal

-- the elements so far are carried out, and weren't refused
abbrev pub invariant-loop-slot : goal.invariant-loop-slot
invariant-loop-slot l = record {
  open_ : is_some l.display.screen.writing ≡ is_open_at l.reader;
  way : (state : ExtendedState) (body : List ExtendedElement)
      → IsUnderWay state body l.fn.display l.fn.front.heard l.fn.front.left.now (InProfile l.fn.front.place)
      → IsUnderWay state body l.display l.heard l.left l.reader;
}

abbrev pub decreases-loop-slot : goal.decreases-loop-slot
decreases-loop-slot l = length l.left
