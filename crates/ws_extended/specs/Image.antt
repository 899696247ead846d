-- The image of a screen: the elements of the profile that make any screen equal to it (own choice; SC30-3533, Save
-- Screen command, leaves it to the display).
use Rattle.std.specs.Prelude.{ℕ, ◌<◌, ◌+◌, ◌-◌, ◌/◌, ◌%◌, List, [], ◌∷◌, ◌++◌, Option, Some, None, map}
use Rattle.std.specs.Prelude.{if◌then◌else◌}
use Rattle.std.specs.List.{flat_map, AllByRecursion}
use Rattle.ws_code.specs.Code.{AreBytes}
use Rattle.ws_code.specs.FormatWord.{IsFfw}
use Rattle.ws_code.specs.declared.address.TheConstants.{CELLS}
use Rattle.ws_stream.specs.FieldOrder.{FieldOrder}
use Rattle.ws_stream.specs.declared.element.Element.{Element}
use Rattle.ws_stream.specs.declared.element.Element.TheVariants.{ClearUnit, Write, ReadInput, ReadMdt}
use Rattle.ws_stream.specs.declared.element.Element.TheVariants.{ReadMdtAlternate, Soh, Sba, Ic, Mc, Sf, Put}
use Rattle.ws_screen.specs.declared.control.TheConstants.{UNLOCK, MESSAGE_ON, MESSAGE_OFF, BLINK_ON, BLINK_OFF}
use Rattle.ws_screen.specs.declared.field.Field.{Field}
use Rattle.ws_screen.specs.declared.read_kind.ReadKind.{ReadKind}
use Rattle.ws_screen.specs.declared.read_kind.ReadKind.TheVariants.{Input, Mdt, MdtAlternate}
use Rattle.ws_screen.specs.ScreenParts.{ScreenParts}

-- the control character of a screen's lock and lights
abbrev pub lights : ScreenParts → ℕ
lights s = (if s.locked then 0 else UNLOCK) + (if s.message then MESSAGE_ON else MESSAGE_OFF)
    + (if s.blink then BLINK_ON else BLINK_OFF)

-- the bytes of a header with an error line and key switches
abbrev pub start_of_header_bytes : ℕ → ℕ → List ℕ
start_of_header_bytes row switches =
    0 ∷ 0 ∷ 0 ∷ row ∷ switches / 65536 % 256 ∷ switches / 256 % 256 ∷ switches % 256 ∷ []

-- the order of a field, with a plain attribute in the cell before it
abbrev pub field_order : Field → FieldOrder
field_order f = record { format = Some f.format; controls = []; attribute = 0x20; length = f.length }

-- the image of a field: its order, with the attribute in the cell before it
abbrev pub field_image : Field → List Element
field_image f = Sba (f.start - 1) ∷ Sf (field_order f) ∷ []

-- the home, where one is set
abbrev pub home_image : Option ℕ → List Element
home_image None = []
home_image (Some place) = Ic place ∷ []

-- the read of a kind, which locks and lights nothing
abbrev pub plain_read : ReadKind → Element
plain_read Input = ReadInput 0 0
plain_read Mdt = ReadMdt 0 0
plain_read MdtAlternate = ReadMdtAlternate 0 0

-- the pending read, where there is one
abbrev pub read_image : Option ReadKind → List Element
read_image None = []
read_image (Some kind) = plain_read kind ∷ []

-- A screen's image, with the row of its error line.
abbrev pub image : ℕ → ScreenParts → List Element
image row s = ClearUnit ∷ Write 0 (lights s) ∷ Soh (start_of_header_bytes row s.switches)
    ∷ (flat_map field_image s.fields ++ (home_image s.home_set
    ++ (Sba 0 ∷ (map Put s.cells ++ (Mc s.cursor ∷ read_image s.pending)))))

-- the place is on the screen, where there is one
abbrev pub IsWithin : Option ℕ → Type 0
IsWithin None = Unit {0}
IsWithin (Some place) = place < CELLS

-- what the types of a screen's parts allow
pub record IsTyped (s : ScreenParts) : Type 0 where
  pub cells : AreBytes s.cells
  pub formats : AllByRecursion (λ f. IsFfw f.format) s.fields
  pub cursor : s.cursor < CELLS
  pub home : IsWithin s.home_set
