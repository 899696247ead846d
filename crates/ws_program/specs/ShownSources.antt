-- What is shown of the bytes that a source gives, while they are read.

use Rattle.std.specs.Prelude.{◌≡◌, ℕ, List, [], Bool, Err, ◌⊎◌}
use Rattle.ws_code.specs.Device.{Reader, ReadFault}
use Rattle.ws_code.specs.declared.fault.Fault.{Fault}
use Rattle.ws_code.specs.declared.fault.Fault.TheVariants.{Read, Write}
use Rattle.ws_printing.specs.Printouts.{Printout}
use Rattle.ws_printing.specs.SourceChecks.{HasRefusal, GaveEnough}
use Rattle.ws_text.specs.Printed.{Printing, in_whole, IsPrinted}
use Rattle.ws_program.specs.StreamText.{Showing, Placed, items_without_places, lines_of, HoldsItems, AreShown}
use Rattle.ws_program.specs.StreamText.{HasStopped, show_printing}

module _ {Place U : Type 0} (way : Showing Place U) (bytes : List ℕ) where
  -- the lines of all items that the bytes hold, each of which is carried out; no byte is refused
  pub record AreAllLines (text : List ℕ) : Type 0 where
    pub placed : List (Placed U)
    pub shown : AreShown way bytes [] placed
    pub holds : HoldsItems way.rules bytes (items_without_places placed)
    pub unrefused : ¬ HasRefusal way.rules bytes
    pub lines : text ≡ lines_of way.view placed

  -- what is printed of bytes after which a read failed
  abbrev pub unread_printing : Printing Bool Fault
  unread_printing = in_whole Write (λ text outcome. AreAllLines text × (outcome ≡ Err Read))

  -- no byte more is read: nothing more of the stream is shown, or showing it came to a fault
  abbrev pub AreEnough : {S : Type 0} → Printout S → Type 0
  AreEnough out = ((text : List ℕ) × HasStopped way bytes text)
      ⊎ ((fault : Fault) × IsPrinted out.writer out.from out.to (show_printing way bytes) (Err fault))

module _ {R S Place U : Type 0} (reader : Reader R) (from to : R) (out : Printout S) (way : Showing Place U) where
  -- What came of showing a source's bytes: a read failed after these; or they are all, up to its end, or enough, and
  -- are shown as whole ones are.
  abbrev pub IsSourceShown : ((List ℕ → Printing Bool Fault) → List ℕ → Type 0) → Type 0
  IsSourceShown HasPrinted = (bytes : List ℕ)
      × ((ReadFault reader from to bytes × HasPrinted (unread_printing way) bytes)
      ⊎ (GaveEnough reader from to (λ bytes. AreEnough way bytes out) bytes × HasPrinted (show_printing way) bytes))
