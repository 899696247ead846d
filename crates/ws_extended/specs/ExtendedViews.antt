-- What a contract sees of a display as live hosts use it.
use Rattle.std.specs.Prelude.{ℕ, ◌≡◌, Bool, false, true, Option, Some, None}
use Rattle.std.specs.Option.{IsSome}
use Rattle.ws_stream.specs.Elements.{lets_orders_follow}
use Rattle.ws_screen.specs.Given.{Gives, NeedsWrite}
use Rattle.ws_screen.specs.ScreenParts.{ScreenParts}
use Rattle.ws_extended.specs.ErrorLine.{error_row}
use Rattle.ws_extended.specs.ExtendedElements.{is_text}
use Rattle.ws_extended.specs.ExtendedStates.{Kept, ExtendedState}
use Rattle.ws_extended.specs.declared.error_line.KeptRow.{KeptRow}
use Rattle.ws_extended.specs.declared.extended_element.ExtendedElement.{ExtendedElement}
use Rattle.ws_extended.specs.declared.extended_element.ExtendedElement.TheVariants.{Profile, Text, RestoreScreen}
use Rattle.ws_extended.specs.declared.extended_element.ExtendedElement.TheVariants.{Roll, WriteError, Asks}

-- a display: the screen as it is seen, the row of the error line, the row that an error covers, where one stands, and
-- how many bytes its text has
pub record ExtendedParts : Type 0 where
  pub screen : ScreenParts
  pub error_row : ℕ
  pub kept : Option Kept
  pub text : ℕ

-- the row that an error covers, as contracts see it
abbrev pub kept_of : Option KeptRow → Option Kept
kept_of None = None
kept_of (Some k) = Some (record { row = k.row; cells = k.cells })

-- the events leave the display so: its screen, its error line, the row that an error covers, and its text's length
pub record Shows (state : ExtendedState) (display : ExtendedParts) : Type 0 where
  pub gives : Gives state.history display.screen
  pub row_is : display.error_row ≡ error_row state.history
  pub kept_is : display.kept ≡ state.kept
  pub text_is : display.text ≡ state.text

-- a write is open after an element that was carried out
abbrev pub leaves_write_open : ExtendedElement → Bool
leaves_write_open (Profile e) = lets_orders_follow e
leaves_write_open (Text e) = true
leaves_write_open RestoreScreen = false
leaves_write_open (Roll r) = false
leaves_write_open WriteError = true
leaves_write_open (Asks ask) = false

-- what an element needs of the screen: an order an open write, and a text's element that it is text in one
abbrev pub NeedsOpenWrite : ExtendedElement → ScreenParts → Type 0
NeedsOpenWrite (Profile e) s = NeedsWrite e → IsSome s.writing
NeedsOpenWrite (Text e) s = IsSome s.writing × (is_text e ≡ true)
NeedsOpenWrite RestoreScreen s = Unit {0}
NeedsOpenWrite (Roll r) s = Unit {0}
NeedsOpenWrite WriteError s = Unit {0}
NeedsOpenWrite (Asks ask) s = Unit {0}
