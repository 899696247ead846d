-- What goes on for the bytes of a text, one by one, are its lines as strings.

use Rattle.std.specs.Prelude.{zero, suc, ◌-◌, Option, Some, None, codes, ◌==◌, map, cond, if◌then◌else◌, true, false}
use Rattle.std.specs.List.{flat_map, join_with_byte, onto_first, slice_split}
use Rattle.std.proofs.Common.{◌≡◌, ◌∙◌, ℕ, ◌<◌, List, [], ◌∷◌, ◌++◌, ap, sym, refl, drop, length, append_assoc, arith}
use Rattle.std.proofs.Math.Seq.{drop-nil}
use Rattle.std.proofs.lemmas.List.{append-nil}
use Rattle.std.proofs.lemmas.List.Splits.{length-slice_split}
use Rattle.ws_json.specs.JsonStrings.{json_byte, line_string, line_strings}
use Rattle.ws_json.specs.LineStrings.{inner_part, left_after, string_end, string_part}

-- what goes on for bytes
abbrev pub string_parts : Option ℕ → List ℕ → List ℕ
string_parts left [] = []
string_parts left (byte ∷ bytes) = string_part left byte ++ string_parts (left_after left byte) bytes

-- how many bytes are left out after them
abbrev pub left_after_all : Option ℕ → List ℕ → Option ℕ
left_after_all left [] = left
left_after_all left (byte ∷ bytes) = left_after_all (left_after left byte) bytes

-- what goes on for them, with the end of the last string
abbrev pub strings : Option ℕ → List ℕ → List ℕ
strings left bytes = string_parts left bytes ++ string_end (left_after_all left bytes)

parts_of : List ℕ → List (List ℕ)
parts_of = slice_split (λ byte. byte == 10)

after_comma : List ℕ → List ℕ
after_comma line = 0x2C ∷ line_string line

-- strings of lines, of which the first has begun
begun : ℕ → List (List ℕ) → List ℕ
begun left [] = []
begun left (line ∷ lines) = flat_map json_byte (drop left line) ++ (codes "\"" ++ flat_map after_comma lines)

some_part : (text : List ℕ) → 0 < length (parts_of text)
unfolding parts_of
some_part text = omega (arith, length-slice_split (λ byte. byte == 10) text)

joined : (line : List ℕ) (lines : List (List ℕ))
    → line_string line ++ flat_map after_comma lines ≡ join_with_byte 0x2C (map line_string (line ∷ lines))
unfolding after_comma
joined line [] = append-nil (line_string line)
joined line (next ∷ lines) = ap (λ (z : List ℕ). line_string line ++ 0x2C ∷ z) (joined next lines)

quoted : (line : List ℕ) (lines : List (List ℕ))
    → codes "\"" ++ begun 2 (line ∷ lines) ≡ line_string line ++ flat_map after_comma lines
unfolding begun
quoted line lines = ap (λ (z : List ℕ). codes "\"" ++ z)
    (sym (append_assoc (flat_map json_byte (drop 2 line)) (codes "\"") (flat_map after_comma lines)))

-- after the first LF
first_begins : (parts : List (List ℕ)) → 0 < length parts
    → codes "\"" ++ begun 2 parts ≡ join_with_byte 0x2C (map line_string parts)
first_begins [] h = absurd (omega arith)
first_begins (line ∷ lines) h = quoted line lines ∙ joined line lines

-- after another
next_begins : (left : ℕ) (parts : List (List ℕ)) → 0 < length parts
    → codes "\",\"" ++ begun 2 parts ≡ begun left ([] ∷ parts)
unfolding begun after_comma
next_begins left [] h = absurd (omega arith)
next_begins left (line ∷ lines) h =
    ap (λ (z : List ℕ). codes "\"," ++ z) (quoted line lines)
    ∙ ap (λ (z : List ℕ). flat_map json_byte z ++ (codes "\"" ++ flat_map after_comma (line ∷ lines)))
    (sym (drop-nil left))

-- at another byte
goes_on : (left byte : ℕ) (parts : List (List ℕ)) → 0 < length parts
    → inner_part (Some left) byte ++ begun (left - 1) parts ≡ begun left (onto_first byte parts)
unfolding begun
goes_on left byte [] h = absurd (omega arith)
goes_on zero byte (line ∷ lines) h = sym (append_assoc (json_byte byte) (flat_map json_byte line) _)
goes_on (suc left) byte (line ∷ lines) h =
    let same : suc left - 1 ≡ left = omega arith in
    ap (λ n. begun n (line ∷ lines)) same

in_line : (left : ℕ) (text : List ℕ) → strings (Some left) text ≡ begun left (parts_of text)
unfolding begun parts_of
in_line left [] = ap (λ (z : List ℕ). flat_map json_byte z ++ codes "\"") (sym (drop-nil left))
in_line left (byte ∷ text) = append_assoc (string_part (Some left) byte) _ _
    ∙ (elim (byte == 10) as (λ is. (if is then codes "\",\"" else inner_part (Some left) byte)
    ++ strings (if is then Some 2 else Some (left - 1)) text
    ≡ begun left (cond is ([] ∷ parts_of text) (onto_first byte (parts_of text)))) [
      | true ↦ ap (λ (z : List ℕ). codes "\",\"" ++ z) (in_line 2 text)
          ∙ next_begins left (parts_of text) (some_part text)
      | false ↦ ap (λ (z : List ℕ). inner_part (Some left) byte ++ z) (in_line (left - 1) text)
          ∙ goes_on left byte (parts_of text) (some_part text)
    ])

skipped : (byte : ℕ) (parts : List (List ℕ)) → 0 < length parts → drop 1 parts ≡ drop 1 (onto_first byte parts)
skipped byte [] h = absurd (omega arith)
skipped byte (line ∷ lines) h = refl

pub are_line_strings : (text : List ℕ) → strings None text ≡ line_strings text
unfolding parts_of
are_line_strings [] = refl
are_line_strings (byte ∷ text) = append_assoc (string_part None byte) _ _
    ∙ (elim (byte == 10) as (λ is. (if is then codes "\"" else []) ++ strings (if is then Some 2 else None) text
    ≡ join_with_byte 0x2C (map line_string (drop 1 (cond is ([] ∷ parts_of text) (onto_first byte (parts_of text)))))) [
      | true ↦ ap (λ (z : List ℕ). codes "\"" ++ z) (in_line 2 text) ∙ first_begins (parts_of text) (some_part text)
      | false ↦ are_line_strings text
          ∙ ap (λ z. join_with_byte 0x2C (map line_string z)) (skipped byte (parts_of text) (some_part text))
    ])
