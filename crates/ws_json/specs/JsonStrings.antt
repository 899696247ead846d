-- Texts as strings of JSON, and the lines of a body as an array of them (RFC 8259, sections 5 and 7).

use Rattle.std.specs.Prelude.{ℕ, List, [], ◌∷◌, ◌++◌, ◌==◌, ◌||◌, codes, drop, map, if◌then◌else◌}
use Rattle.std.specs.List.{flat_map, join_with_byte, slice_split}

-- a byte in a string: `"` and `\` stand after `\`. No control character comes here.
abbrev pub json_byte : ℕ → List ℕ
json_byte byte = if byte == 0x22 || byte == 0x5C then 0x5C ∷ byte ∷ [] else byte ∷ []

-- a text as a string
abbrev pub json_string : List ℕ → List ℕ
json_string text = codes "\"" ++ flat_map json_byte text ++ codes "\""

-- a line of a body as a string, without its two blanks
abbrev pub line_string : List ℕ → List ℕ
line_string line = json_string (drop 2 line)

-- what stands after each LF of a text
abbrev pub lines_after : List ℕ → List (List ℕ)
lines_after text = drop 1 (slice_split (λ byte. byte == 10) text)

-- the lines of a body, each of which stands after LF, as strings with commas between them
abbrev pub line_strings : List ℕ → List ℕ
line_strings text = join_with_byte 0x2C (map line_string (lines_after text))

-- the same as an array
abbrev pub json_lines : List ℕ → List ℕ
json_lines text = codes "[" ++ line_strings text ++ codes "]"
