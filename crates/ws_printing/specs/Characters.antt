-- What cells or bytes show, as a text: their characters in UTF-8, without the blanks at the end.

use Rattle.std.specs.Prelude.{ℕ, List, [], ◌∷◌, ◌++◌, ◌==◌, codes, encode_utf8, if◌then◌else◌}
use Rattle.std.specs.List.{flat_map}

module _ {A : Type 0} (character : A → ℕ) where
  -- one before others, of which the last shows no blank: by itself it must show none either
  abbrev pub with_first : A → List A → List A
  with_first first [] = if character first == 0x20 then [] else first ∷ []
  with_first first (next ∷ rest) = first ∷ next ∷ rest

  -- those up to the last that shows no blank
  abbrev pub without_last_blanks : List A → List A
  without_last_blanks [] = []
  without_last_blanks (first ∷ rest) = with_first first (without_last_blanks rest)

  -- their characters
  abbrev pub characters_text : List A → List ℕ
  characters_text all = flat_map (λ one. encode_utf8 (character one)) all

  -- their characters after a blank; of none nothing
  abbrev pub after_blank : List A → List ℕ
  after_blank [] = []
  after_blank (first ∷ rest) = codes " " ++ characters_text (first ∷ rest)
