use Rattle.std.proofs.Common.{◌≡◌, List, is_some, length}
use Rattle.ws_code.specs.Code.{IsChain, spelling_of}
use Rattle.ws_stream.specs.Elements.{allows_orders}
use Rattle.ws_extended.specs.ExtendedElements.{extended_rules}
use Rattle.ws_extended.specs.ExtendedStates.{ExtendedState}
use Rattle.ws_extended.specs.ExtendedViews.{Shows}
use Rattle.ws_extended.specs.declared.extended_element.ExtendedElement.{ExtendedElement}
use Rattle.ws_extended.specs.declared.extended_place.ExtendedPlace.TheVariants.{InProfile}
use Rattle.ws_extended_station.specs.CarriedOut.{IsUnderWay}
use Rattle.ws_extended_station.proofs.carrying_out.apply_prefix.Given as goal

-- the elements so far are carried out, and weren't refused
abbrev pub invariant-loop-element : goal.invariant-loop-element
invariant-loop-element l = record {
  open_ : is_some l.display.screen.writing ≡ allows_orders l.reader;
  way : (state : ExtendedState) (body : List ExtendedElement) → IsChain extended_rules extended_rules.first body
      → l.bytes ≡ spelling_of extended_rules body → Shows state l.fn.display
      → IsUnderWay state body l.display l.heard l.left (InProfile l.reader);
}

abbrev pub decreases-loop-element : goal.decreases-loop-element
decreases-loop-element l = length l.left
