-- The text of a field, as C sees it

use Rattle.std.specs.Prelude.{◌≡◌, ℕ, ◌<◌, ◌≤◌, List, length, map, Option, Some, None}
use Rattle.std.specs.Str.{encode_utf8_all}
use Rattle.ws_screen.specs.Keyed.{cells_of}
use Rattle.ws_screen.specs.Lines.{shown_char}
use Rattle.ws_screen.specs.ScreenParts.{ScreenParts}
use Rattle.ws_screen.specs.declared.field.Field.{Field}
use Rattle.ws_keys.specs.Contents.{without_trailing_nulls}
use Rattle.ws_c.specs.declared.status.Status.TheVariants.{Done, NoRoom, BadArgument}
use Rattle.ws_c.specs.declared.told.Told.{Told}
use Rattle.ws_code.specs.declared.code_page.CodePage.{CodePage}
use Rattle.ws_c.specs.Pages.{char_seen}
use Rattle.ws_c.specs.Calls.{Crossed, TellsOnly, holds_front, told_length}

-- the character that a byte shows where nothing hides it, on a page if there is one
abbrev pub char_shown : Option CodePage → ℕ → ℕ
char_shown None b = shown_char b
char_shown (Some page) b = char_seen page (record { character = shown_char b; attribute = 0x20 }) b

-- The characters of a field's cells up to the last that isn't 00, in UTF-8: those that they show, whether or not an
-- attribute hides them.
abbrev pub field_text : Option CodePage → ScreenParts → Field → List ℕ
field_text page s f = encode_utf8_all (map (char_shown page) (without_trailing_nulls (cells_of s f)))

-- what is told of a text: how long it is; a buffer with room for it gets it
pub record IsTextTold (text : List ℕ) (call : Crossed Told) : Type 0 where
  pub state : call.told ≡ told_length (length text)
  pub room : length call.buffer < length text → (call.status ≡ NoRoom) × (call.after ≡ call.buffer)
  pub put : length text ≤ length call.buffer
      → (call.status ≡ Done) × (call.after ≡ holds_front text call.buffer)

-- what is told of the text of a field, where there is one
abbrev pub IsFieldTextTold : Option Field → Option CodePage → ScreenParts → Crossed Told → Type 0
IsFieldTextTold None page s call = TellsOnly call BadArgument (told_length 0)
IsFieldTextTold (Some field) page s call = IsTextTold (field_text page s field) call
