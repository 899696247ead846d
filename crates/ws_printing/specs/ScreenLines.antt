-- The lines of a screen, as a text in bytes.

use Rattle.std.specs.Prelude.{◌≡◌, ℕ, zero, suc, List, [], ◌∷◌, ◌++◌, Bool, codes, if◌then◌else◌, nat_lt, length}
use Rattle.std.specs.Fmt.{decimal}
use Rattle.ws_code.specs.declared.address.TheConstants.{ROWS}
use Rattle.ws_code.specs.declared.code_page.CodePage.{CodePage}
use Rattle.ws_screen.specs.ScreenParts.{ScreenParts}
use Rattle.ws_screen.specs.declared.shown.Shown.{Shown}
use Rattle.ws_text.specs.ItemLines.{cell_text}
use Rattle.ws_printing.specs.Characters.{without_last_blanks, characters_text}
use Rattle.ws_printing.specs.ColoredRows.{colored_text}
use Rattle.ws_printing.specs.ShownOnPage.{page_037, row_on_page}
use Rattle.ws_printing.specs.declared.look.Look.{Look}
use Rattle.ws_printing.specs.declared.paint.Paint.{Paint}
use Rattle.ws_printing.specs.declared.paint.Paint.TheVariants.{Plain, Color}

-- how a screen is printed: in a paint, on a page
abbrev pub look : Paint → CodePage → Look
look paint page = record { paint = paint; page = page }

-- in a paint on page 037, as the profile is printed
abbrev pub on_037 : Paint → Look
on_037 paint = look paint page_037

-- what is printed of cells: their characters, plain or in colour
abbrev pub painted : Paint → List Shown → List ℕ
painted Plain cells = characters_text (λ s. s.character) cells
painted Color cells = colored_text cells

-- what stands before a row's number
abbrev pub indent : ℕ → List ℕ
indent row = if nat_lt row 10 then codes " " else []

-- the line of a row: its number right in two places, a blank, and what it shows; a row that is all blank has none
abbrev pub row_line : Paint → ℕ → List Shown → List ℕ
row_line paint row [] = []
row_line paint row (cell ∷ shown) = indent row ++ decimal row ++ codes " " ++ painted paint (cell ∷ shown) ++ 10 ∷ []

-- the line of a row of a screen: of its cells up to the last that shows no blank
abbrev pub line_of_row : Look → List ℕ → ℕ → List ℕ
line_of_row look cells row =
    row_line look.paint row (without_last_blanks (λ s. s.character) (row_on_page look.page cells row))

-- the lines of the first rows, so many
unfoldable pub rows_text : Look → List ℕ → ℕ → List ℕ
rows_text look cells zero = []
rows_text look cells (suc n) = rows_text look cells n ++ line_of_row look cells (suc n)

-- the word for the keyboard's lock
abbrev pub lock_name : Bool → List ℕ
lock_name locked = if locked then codes "locked" else codes "unlocked"

-- the word for a light
abbrev pub on_or_off : Bool → List ℕ
on_or_off on = if on then codes "on" else codes "off"

-- the line of a screen's state: the cursor, the keyboard's lock, the message light, the blinking cursor, the number of
-- fields
abbrev pub state_line : ScreenParts → List ℕ
state_line s = codes "cursor " ++ cell_text s.cursor ++ codes ", " ++ lock_name s.locked ++ codes ", message "
    ++ on_or_off s.message ++ codes ", blink " ++ on_or_off s.blink ++ codes ", fields " ++ decimal (length s.fields)
    ++ 10 ∷ []

-- the lines of a whole screen, in a paint and on a page: its rows and its state
abbrev pub screen_text : Look → ScreenParts → List ℕ
screen_text look s = codes "screen\n" ++ rows_text look s.cells ROWS ++ state_line s

-- these are the lines of a whole screen
abbrev pub IsScreenText : Look → ScreenParts → List ℕ → Type 0
IsScreenText look s text = text ≡ screen_text look s

-- these are the lines of a display, in a paint and on a page: its screen's, and those after them, if there are any
abbrev pub IsDisplayText : Look → ScreenParts → List ℕ → List ℕ → Type 0
IsDisplayText look s behind text = text ≡ screen_text look s ++ behind
