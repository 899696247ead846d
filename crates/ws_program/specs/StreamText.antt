-- What is shown of a stream: the lines of its items, and what stands after them: a screen, or the line of a refusal.

use Rattle.std.specs.Prelude.{◌≡◌, ℕ, ◌+◌, ◌<◌, List, [], ◌∷◌, ◌++◌, ◌⊎◌, Bool, true, false, Option, None, Some, IfSome}
use Rattle.std.specs.Prelude.{length, take, map, Result, Ok, Err}
use Rattle.std.specs.List.{flat_map}
use Rattle.ws_code.specs.Code.{Rules}
use Rattle.ws_code.specs.declared.fault.Fault.{Fault}
use Rattle.ws_code.specs.declared.fault.Fault.TheVariants.{Memory}
use Rattle.ws_code.specs.declared.fault.Fault.TheVariants as faults
use Rattle.ws_code.specs.declared.reason.Reason.{Reason}
use Rattle.ws_record.specs.Grammar.{IsInGrammar}
use Rattle.ws_record.specs.Refusal.{Layer, IsOpen, IsRefused, IsTruncated}
use Rattle.ws_record.specs.Receiver.{Receiving, HasReceived, HasUnit}
use Rattle.ws_record.specs.declared.record.Item.{Item}
pub use Rattle.ws_end.specs.Acts.{HoldsItems}
pub use Rattle.ws_trace.specs.Ends.{IsWholeItem}
use Rattle.ws_text.specs.Printed.{Printing, IsPrinted}
use Rattle.ws_printing.specs.Printouts.{IsPrintedOut, Printout}
use Rattle.ws_printing.specs.CheckLine.{line_of}
use Rattle.ws_printing.specs.declared.verdict.Verdict.TheVariants.{Refused, Truncated}

-- How items of some body are shown: an item's lines, why one isn't carried out after others, and what stands after
-- all of them where the stream is accepted.
pub record View (U : Type 0) : Type 1 where
  pub lines : ℕ → Item U → List ℕ
  pub fault : List (Item U) → Item U → Option Reason
  pub Ends : List (Item U) → List ℕ → Type 0

-- a way in which streams are shown: the rules of their bodies, and how their items are
pub record Showing (Place U : Type 0) : Type 1 where
  pub rules : Rules Place U
  pub view : View U

-- bodies of these rules, and their items in this view
abbrev pub showing : {Place U : Type 0} → Rules Place U → View U → Showing Place U
showing rules view = record { rules = rules; view = view }

-- an item with the place of its last byte
abbrev pub Placed : Type 0 → Type 0
Placed U = ℕ × Item U

module _ {U : Type 0} where
  -- the items without their places
  abbrev pub items_without_places : List (Placed U) → List (Item U)
  items_without_places placed = map (λ x. x.1) placed

  -- the lines of items, one after another
  abbrev pub lines_of : View U → List (Placed U) → List ℕ
  lines_of view placed = flat_map (λ x. view.lines x.0 x.1) placed

  -- the lines of the first items, the last of which may not be carried out
  abbrev pub lines_with : View U → List (Placed U) → Option (Placed U) → List ℕ
  lines_with view placed None = lines_of view placed
  lines_with view placed (Some x) = lines_of view placed ++ view.lines x.0 x.1

module _ {Place U : Type 0} where
  -- after the items before, the item is complete with the byte at its place, and not before, and no layer refuses
  -- a byte up to that one
  pub record IsComplete (rules : Rules Place U) (bytes : List ℕ) (before : List (Item U)) (x : Placed U)
      : Type 0 where
    pub within : x.0 < length bytes
    pub opened : (layer : Layer) → IsOpen rules layer (take (x.0 + 1) bytes)
    pub not_before : HoldsItems rules (take x.0 bytes) before
    pub with_it : HoldsItems rules (take (x.0 + 1) bytes) (before ++ x.1 ∷ [])

  -- the items are complete one after another, and each is carried out
  abbrev pub AreShown : Showing Place U → List ℕ → List (Item U) → List (Placed U) → Type 0
  AreShown way bytes before [] = Unit {0}
  AreShown way bytes before (x ∷ xs) = IsComplete way.rules bytes before x × (way.view.fault before x.1 ≡ None)
      × AreShown way bytes (before ++ x.1 ∷ []) xs

  -- the bytes are accepted, and what stands after all items is shown
  abbrev pub IsAcceptedEnd : Showing Place U → List ℕ → List (Placed U) → List ℕ → Type 0
  IsAcceptedEnd way bytes placed text = IsInGrammar way.rules bytes (items_without_places placed)
      × way.view.Ends (items_without_places placed) text

  -- a byte is refused after the items, and its line is shown
  abbrev pub IsRefusedEnd : Rules Place U → List ℕ → List (Placed U) → List ℕ → Type 0
  IsRefusedEnd rules bytes placed text = (place : ℕ) × (reason : Reason) × IsRefused rules bytes place reason
      × HoldsItems rules (take place bytes) (items_without_places placed)
      × (text ≡ line_of (Refused place reason) (length bytes))

  -- the bytes end too early after the items, and the line of that is shown
  abbrev pub IsTruncatedEnd : Rules Place U → List ℕ → List (Placed U) → List ℕ → Type 0
  IsTruncatedEnd rules bytes placed text = IsTruncated rules bytes × HoldsItems rules bytes
      (items_without_places placed)
      × (text ≡ line_of (Truncated (length bytes)) (length bytes))

  -- the next item isn't carried out, and is shown too, with the line of its reason
  abbrev pub IsUnappliedEnd : Showing Place U → List ℕ → List (Placed U) → List ℕ → Type 0
  IsUnappliedEnd way bytes placed text = (x : Placed U) × (reason : Reason)
      × IsComplete way.rules bytes (items_without_places placed) x
      × (way.view.fault (items_without_places placed) x.1 ≡ Some reason)
      × (text ≡ way.view.lines x.0 x.1 ++ line_of (Refused x.0 reason) (length bytes))

  -- nothing more is shown after the items: a byte is refused, or the next item isn't carried out
  abbrev pub IsStoppedEnd : Showing Place U → List ℕ → List (Placed U) → List ℕ → Type 0
  IsStoppedEnd way bytes placed text = IsRefusedEnd way.rules bytes placed text ⊎ IsUnappliedEnd way bytes placed text

  -- what stands after the items: that of an accepted stream, or the line of one that is not
  abbrev pub IsEnd : Showing Place U → List ℕ → List (Placed U) → Bool → List ℕ → Type 0
  IsEnd way bytes placed true text = IsAcceptedEnd way bytes placed text
  IsEnd way bytes placed false text = IsTruncatedEnd way.rules bytes placed text ⊎ IsStoppedEnd way bytes placed text

  -- the whole text that is shown of a stream: the lines of its items, and what comes after them
  pub record IsShown (way : Showing Place U) (bytes : List ℕ) (accepted : Bool) (text : List ℕ)
      : Type 0 where
    pub placed : List (Placed U)
    pub shown : AreShown way bytes [] placed
    pub end : List ℕ
    pub ends : IsEnd way bytes placed accepted end
    pub lines : text ≡ lines_of way.view placed ++ end

  -- the lines of a stream's first items, perhaps with those of one more that is complete and isn't carried out
  pub record AreFirstLines (way : Showing Place U) (bytes : List ℕ) (text : List ℕ) : Type 0 where
    pub placed : List (Placed U)
    pub shown : AreShown way bytes [] placed
    pub last : Option (Placed U)
    pub complete : IfSome last (IsComplete way.rules bytes (items_without_places placed))
    pub lines : text ≡ lines_with way.view placed last

  -- the whole text that is shown of a stream of which no byte more would be shown
  abbrev pub HasStopped : Showing Place U → List ℕ → List ℕ → Type 0
  HasStopped way bytes text = (shown : IsShown way bytes false text) × IsStoppedEnd way bytes shown.placed shown.end

  -- a unit of the record that comes next after the items is complete in the bytes, so that a list grows for it
  abbrev pub GrowsBehind : Rules Place U → List ℕ → List (Item U) → Type 0
  GrowsBehind rules bytes items = HasUnit rules [] items bytes

  -- how what is shown ends: with the whole text; or with the lines of the first items, after which a growth is refused
  abbrev pub IsShowEnd : Showing Place U → List ℕ → List ℕ → Result Bool Fault → Type 0
  IsShowEnd way bytes text (Ok accepted) = IsShown way bytes accepted text
  IsShowEnd way bytes text (Err Memory) = (placed : List (Placed U)) × AreShown way bytes [] placed
      × GrowsBehind way.rules bytes (items_without_places placed) × (text ≡ lines_of way.view placed)
  IsShowEnd way bytes text (Err fault) = ⊥

  -- what is shown of a stream; a sink may fail within the lines of the first items, or within the whole text
  abbrev pub show_printing : Showing Place U → List ℕ → Printing Bool Fault
  show_printing way bytes = record {
    Ends = IsShowEnd way bytes;
    Cut = λ text fault. (fault ≡ faults.Write) × (AreFirstLines way bytes text
        ⊎ ((accepted : Bool) × IsShown way bytes accepted text));
  }

  module _ {Made S : Type 0} (out : Printout S) (way : Showing Place U) (makes : List (Item U) → Made → Type 0)
      (bytes : List ℕ) (receiver : Receiving Place U) (made : Made) where
    -- all items that the bytes hold were shown and carried out: they make this, and the bytes lead to the receiver
    pub record HasShown : Type 0 where
      pub placed : List (Placed U)
      pub shown : AreShown way bytes [] placed
      pub received : HasReceived way.rules receiver bytes (items_without_places placed)
      pub makes_it : makes (items_without_places placed) made
      pub went_out : IsPrintedOut out (lines_of way.view placed)

    -- what is answered where bytes are shown that may not be all: they go on, nothing more is shown, or there was a
    -- fault
    abbrev pub IsPieceShown : Result Bool Fault → Type 0
    IsPieceShown (Ok true) = HasShown
    IsPieceShown (Ok false) = ((text : List ℕ) × HasStopped way bytes text)
        × IsPrinted out.writer out.from out.to (show_printing way bytes) (Ok false)
    IsPieceShown (Err fault) = IsPrinted out.writer out.from out.to (show_printing way bytes) (Err fault)
