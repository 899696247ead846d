-- Words: blanks and digits.

use Rattle.std.specs.Char.{digit_value}
use Rattle.std.specs.Str.Parse.{AllDigits}
use Rattle.std.proofs.lemmas.Slice.Eq.{bytes_eq-Decides}
use Rattle.ws_printing.proofs.Common as C
use C.{FindsCharPrefix, is_some, codes, Option, Some, None, MatchOption, ◌==◌, bytes_eq, ◌≡◌, ◌≢◌, ℕ, suc, ◌+◌, ◌<◌}
use C.{List, [], ◌∷◌, ◌++◌, true, false, not, ◌&&◌, length, get_or, drop, inl, inr, refl, sym, ap, ◌∙◌, subst, arith}
use C.{append_assoc, lit<, Bor, false≢true, and_parts, eqb_tells, IsSplitOnceResult, split_parts, strip_prefix_char}
use Rattle.ws_printing.specs.script.ScriptFaults.{IsNoComment, has_no_blank}

-- texts that a test tells apart
pub differ : (a b : List ℕ) → bytes_eq a b ≡ false → a ≡ b → ⊥
differ a b f e = false≢true (sym f ∙ (bytes_eq-Decides a b).1 e)

pub no_blank_from : (w : List ℕ) → ((i : ℕ) → i < length w → get_or w i 0 ≢ 32) → has_no_blank w ≡ true
no_blank_from [] h = refl
no_blank_from (x ∷ w) h = elim (eqb_tells x 32) [
  | inl p ↦ absurd (h 0 (omega arith) p.1)
  | inr p ↦ ap (λ b. not b && has_no_blank w) p.0 ∙ no_blank_from w (λ i k. h (suc i) (omega arith))
]

pub no_blank_tail : (x : ℕ) (w : List ℕ) → has_no_blank (x ∷ w) ≡ true → has_no_blank w ≡ true
no_blank_tail x w h = (and_parts (not (x == 32)) (has_no_blank w) h).1

blank_head : (x : ℕ) (w : List ℕ) → x ≡ 32 → has_no_blank (x ∷ w) ≡ true → ⊥
blank_head x w e h = false≢true (ap (λ z. has_no_blank (z ∷ w)) (sym e) ∙ h)

-- a text with a blank has one
pub blank_inside : (c a : List ℕ) → has_no_blank ((c ++ codes " ") ++ a) ≡ true → ⊥
blank_inside [] a h = false≢true h
blank_inside (x ∷ c) a h = blank_inside c a (no_blank_tail x ((c ++ codes " ") ++ a) h)

-- a text has one first word
pub split_unique : (c d a b : List ℕ) → has_no_blank c ≡ true → has_no_blank d ≡ true → (c ++ codes " ") ++ a
    ≡ (d ++ codes " ") ++ b → (c ≡ d) × (a ≡ b)
split_unique [] [] a b hc hd e = (refl, cc)
split_unique [] (y ∷ d) a b hc hd e = let first : y ≡ 32 = cc in absurd (blank_head y d first hd)
split_unique (x ∷ c) [] a b hc hd e = let first : x ≡ 32 = cc in absurd (blank_head x c first hc)
split_unique (x ∷ c) (y ∷ d) a b hc hd e =
    let first : x ≡ y = cc in
    let rest : (c ++ codes " ") ++ a ≡ (d ++ codes " ") ++ b = cc in
    let found : (c ≡ d) × (a ≡ b) = split_unique c d a b (no_blank_tail x c hc) (no_blank_tail y d hd) rest in
    let words : c ≡ d = found.0 in
    (cc, found.1)

pub regrouped : (text c a : List ℕ) → text ≡ c ++ (32 ∷ a) → text ≡ (c ++ codes " ") ++ a
regrouped text c a e = e ∙ sym (append_assoc c (codes " ") a)

pub digits_have_no_blank : (ds : List ℕ) → AllDigits 10 ds → has_no_blank ds ≡ true
digits_have_no_blank [] h = refl
digits_have_no_blank (c ∷ cs) h = elim (eqb_tells c 32) [
  | inl p ↦ (let P : ℕ → Type 0 = λ z. digit_value z < 10 in let bad : digit_value 32 < 10 = subst P p.1 h.0 in
      absurd (omega arith))
  | inr p ↦ ap (λ b. not b && has_no_blank cs) p.0 ∙ digits_have_no_blank cs h.1
]

-- what `split_once` gives at a blank
pub split_at_blank : (text : List ℕ) (r : Option (Bor (List ℕ) × Bor (List ℕ))) → IsSplitOnceResult 32 text r
    → MatchOption r (has_no_blank text ≡ true) (λ parts. (text ≡ (parts.0.now ++ codes " ") ++ parts.1.now)
    × (has_no_blank parts.0.now ≡ true))
split_at_blank text None h = no_blank_from text (split_parts 32 text None h (lit< tt))
split_at_blank text (Some parts) h =
    let found = split_parts 32 text (Some parts) h (lit< tt) in
    (regrouped text parts.0.now parts.1.now found.0, no_blank_from parts.0.now found.1)

-- what `strip_prefix` gives at `#`
abbrev pub IsStripped : List ℕ → Option (Bor (List ℕ)) → Type 0
IsStripped text r = MatchOption r (FindsCharPrefix 35 text None) (λ x. (n : ℕ) × FindsCharPrefix 35 text (Some n)
    × (x.now ≡ drop n text) × (length x.now + n ≡ length text))

pub comment_text : (text : List ℕ) (r : Option (Bor (List ℕ))) → IsStripped text r → is_some r ≡ true → (rest : List ℕ)
    × (text ≡ codes "#" ++ rest)
comment_text text None h e = cc
comment_text text (Some x) h e = (x.now, strip_prefix_char 35 text (Some x) h (lit< tt))

pub is_no_comment : (text : List ℕ) (r : Option (Bor (List ℕ))) → IsStripped text r → is_some r ≡ false
    → IsNoComment text
is_no_comment text None h e = strip_prefix_char 35 text None h (lit< tt)
is_no_comment text (Some x) h e = cc
