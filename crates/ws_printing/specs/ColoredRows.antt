-- The cells of a row in colour, by sequences that a terminal knows (ECMA-48, SGR: select graphic rendition).

use Rattle.std.specs.Prelude.{ℕ, List, [], ◌∷◌, ◌++◌, ◌==◌, Bool, false, Option, None, Some, codes}
use Rattle.std.specs.Prelude.{if◌then◌else◌, encode_utf8}
use Rattle.ws_screen.specs.Colors.{style_of}
use Rattle.ws_screen.specs.declared.shown.Shown.{Shown}
use Rattle.ws_screen.specs.declared.style.Color.{Color}
use Rattle.ws_screen.specs.declared.style.Color.TheVariants.{Green, White, Red, Turquoise, Yellow, Pink, Blue}
use Rattle.ws_screen.specs.declared.style.Style.{Style}

-- codes between what introduces a sequence, ESC and a bracket, and the letter that ends it
abbrev pub sequence : List ℕ → List ℕ
sequence selected = 0x1B ∷ codes "[" ++ selected ++ codes "m"

-- back to how the terminal shows a text by itself
abbrev pub reset : List ℕ
reset = sequence (codes "0")

-- a colour's codes; white is the terminal's white in high intensity
abbrev pub color_codes : Color → List ℕ
color_codes Green = codes "32"
color_codes White = codes "37;1"
color_codes Red = codes "31"
color_codes Turquoise = codes "36"
color_codes Yellow = codes "33"
color_codes Pink = codes "35"
color_codes Blue = codes "34"

-- a style's codes: reversed, underscored and blinking have one after the colour's; column separators have none
abbrev pub style_codes : Style → List ℕ
style_codes style = color_codes style.color ++ (if style.is_reversed then codes ";7" else [])
    ++ (if style.is_underscored then codes ";4" else []) ++ (if style.is_blinking then codes ";5" else [])

-- an attribute's sequence begins with the reset, so that nothing of the one before stays on
abbrev pub attribute_sequence : ℕ → List ℕ
attribute_sequence attribute = sequence (codes "0;" ++ style_codes (style_of attribute))

-- whether the attribute of the cell before, where there is one, is this one
abbrev pub is_same : Option ℕ → ℕ → Bool
is_same None attribute = false
is_same (Some before) attribute = before == attribute

-- the sequence before a cell: none after a cell of the same attribute
abbrev pub sequence_behind : Option ℕ → ℕ → List ℕ
sequence_behind before attribute = if is_same before attribute then [] else attribute_sequence attribute

-- what is printed of cells after a cell of an attribute, or after none: for each of them the sequence where its
-- attribute is another, then its character
abbrev pub colored_behind : Option ℕ → List Shown → List ℕ
colored_behind before [] = []
colored_behind before (cell ∷ cells) = sequence_behind before cell.attribute ++ encode_utf8 cell.character
    ++ colored_behind (Some cell.attribute) cells

-- what is printed of the cells of a row, and the reset after the last
abbrev pub colored_text : List Shown → List ℕ
colored_text cells = colored_behind None cells ++ reset
