-- Tables of first words, as the code has them.

use Rattle.std.specs.Prelude.{Some, if◌then◌else◌}
use Rattle.std.specs.Option.{is_some}
use Rattle.std.specs.Str.{bytes_eq}
use Rattle.std.proofs.Common.{◌≡◌, ◌<◌, ◌+◌, ℕ, zero, suc, List, [], ◌∷◌, Bool, true, false, Bor, Option, map, get_or}
use Rattle.std.proofs.Common.{drop, length, arith, refl, sym, ap, subst, ◌∙◌}
use Rattle.std.proofs.lemmas.Bool.{false≢true}
use Rattle.std.proofs.lemmas.List.{at_drop_more}
use Rattle.std.proofs.lemmas.Slice.Eq.{bytes_eq-Decides}
use Rattle.ws_text.specs.Names.{look_up}
use Rattle.ws_script.specs.cause.Vocabularies.{Words}
use Rattle.ws_script.specs.declared.cause.word_kind.WordKind.{WordKind}

abbrev pub Known : Type 0
Known = Bor (List ℕ) × Bor (List WordKind)

-- their bytes, with the kinds of the words after each
abbrev pub table : List Known → Words
table words = map (λ known. (known.0.now, known.1.now)) words

either : {A : Type 0} (b : Bool) (a : A) (other : Option A) → is_some other ≡ true
    → is_some (if b then Some a else other) ≡ true
either true a other some = refl
either false a other some = some

-- what a word is looked up for from a place on
pub from_place : (word : List ℕ) (words : List Known) (i : ℕ) (d : Known) (is : Bool) → i < length words
    → is ≡ bytes_eq word (get_or words i d).0.now → look_up word (table (drop i words))
    ≡ (if is then Some (get_or words i d).1.now else look_up word (table (drop (i + 1) words)))
from_place word words i d is within e = at_drop_more (λ z. look_up word (table z)) words i d within
    ∙ ap (λ b. if b then Some (get_or words i d).1.now else look_up word (table (drop (i + 1) words))) (sym e)

-- each word of a table is found
pub known_in : (words : List Known) (i : ℕ) (d : Known) → i < length words
    → is_some (look_up (get_or words i d).0.now (table words)) ≡ true
known_in [] i d within = absurd (omega arith)
known_in (known ∷ words) zero d within = rw ((bytes_eq-Decides known.0.now known.0.now).1 refl) refl
known_in (known ∷ words) (suc i) d within =
    either (bytes_eq (get_or words i d).0.now known.0.now) known.1.now _ (known_in words i d (omega arith))

-- what holds where a word is this one, or else is found among others, holds where it is found
found_in : {A : Type 0} {T : Type 0} (b : Bool) (a : A) (other : Option A) → is_some (if b then Some a else other) ≡ true
    → (b ≡ true → T) → (is_some other ≡ true → T) → T
found_in true a other found here there = here refl
found_in false a other found here there = there found

-- what holds of each word of a table holds of each that is found
pub of_found : (P : List ℕ → Type 0) (words : List Known) (d : Known)
    → ((i : ℕ) → i < length words → P (get_or words i d).0.now) → (name : List ℕ)
    → is_some (look_up name (table words)) ≡ true → P name
of_found P [] d each name found = absurd (false≢true found)
of_found P (known ∷ words) d each name found = found_in (bytes_eq name known.0.now) known.1.now _ found
    (λ same. subst P (sym ((bytes_eq-Decides name known.0.now).0 same)) (each 0 (omega arith)))
    (of_found P words d (λ i within. each (suc i) (omega arith)) name)
