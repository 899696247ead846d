use Rattle.std.specs.Char.{is_ascii_hexdigit}
use Rattle.std.specs.List.{concat, slice_split, onto_first, list_all}
use Rattle.std.specs.Prelude.{not, nat_le, is_some, IsErr, if◌then◌else◌}
use Rattle.std.proofs.Common.{◌≡◌, ℕ, ◌+◌, ◌-◌, ◌%◌, ◌==◌, ◌&&◌, ◌||◌, Bool, true, false, inl, inr, List, [], ◌∷◌, ◌++◌}
use Rattle.std.proofs.Common.{length, map, Bor, Some, None, Result, Ok, Err, arith, refl, sym, ap, subst, ◌∙◌, ◌≤◌}
use Rattle.std.proofs.Common.{take, add-zero, append_assoc}
use Rattle.std.proofs.lemmas.Bool.{or_cases, and_parts, eqb-true, eqb-false}
use Rattle.std.proofs.lemmas.List.{append-nil, length-append, take_all}
use Rattle.std.proofs.lemmas.List.Elements.{filter-append}
use Rattle.std.proofs.lemmas.List.Folds.{list_all-append}
use Rattle.std.proofs.lemmas.List.Sums.{AllPass-from_list_all, list_all-from_AllPass}
use mathlib.Core.Bool.{cond, beq, true≢false}
use Rattle.hex.specs.Hex.{is_hex_digit, decode_of}
use Rattle.hex.specs.declared.error.FromHexError.{FromHexError}
use Rattle.hex.proofs.HexLemmas.{decode_of-ok, decode_of-digits}
use Rattle.ws_program.specs.HexText.{is_blank_byte, without_blanks, IsHexOf}

-- Hex text and its digits.

onto_first_concat : (x : ℕ) (parts : List (List ℕ)) → concat (onto_first x parts) ≡ x ∷ concat parts
onto_first_concat x [] = refl
onto_first_concat x (part ∷ parts) = refl

part_concat : (is_cut : Bool) (x : ℕ) (parts : List (List ℕ)) (rest : List ℕ) → concat parts ≡ rest
    → concat (cond is_cut ([] ∷ parts) (onto_first x parts)) ≡ cond (not is_cut) (x ∷ rest) rest
part_concat true x parts rest e = e
part_concat false x parts rest e = onto_first_concat x parts ∙ ap (λ z. x ∷ z) e

-- the parts between blanks, one behind the other
pub concat_parts : (text : List ℕ) → concat (slice_split is_blank_byte text) ≡ without_blanks text
concat_parts [] = refl
concat_parts (b ∷ text) = part_concat (is_blank_byte b) b (slice_split is_blank_byte text) (without_blanks text)
    (concat_parts text)

-- the parts so far and one more
pub concat_now_more : (parts : List (Bor (List ℕ))) (part : Bor (List ℕ))
    → concat (map (λ x. x.now) (parts ++ part ∷ [])) ≡ concat (map (λ x. x.now) parts) ++ part.now
concat_now_more [] part = append-nil part.now
concat_now_more (x ∷ parts) part =
    ap (λ z. x.now ++ z) (concat_now_more parts part)
    ∙ sym (append_assoc x.now (concat (map (λ y. y.now) parts)) part.now)

three_ranges : (a b c : Bool) (x y z : ℕ) → ((c || a) || b)
    ≡ is_some (if a then Some x else if b then Some y else if c then Some z else None)
three_ranges true b true x y z = refl
three_ranges true b false x y z = refl
three_ranges false true true x y z = refl
three_ranges false true false x y z = refl
three_ranges false false true x y z = refl
three_ranges false false false x y z = refl

-- a digit of the alphabet in either case is one of the library's, and no blank
ascii_is_hex : (b : ℕ) → is_ascii_hexdigit b ≡ is_hex_digit b
ascii_is_hex b = three_ranges (nat_le 65 b && nat_le b 70) (nat_le 97 b && nat_le b 102) (nat_le 48 b && nat_le b 57)
    (b - 55) (b - 87) (b - 48)

blank_is_one : (b : ℕ) → is_blank_byte b ≡ true → is_hex_digit b ≡ false
blank_is_one b h = elim (or_cases ((b == 32 || b == 9) || b == 13) (b == 10) h) [
  | inl g ↦ elim (or_cases (b == 32 || b == 9) (b == 13) g) [
    | inl k ↦ elim (or_cases (b == 32) (b == 9) k) [
      | inl e ↦ rw (eqb-true b 32 e) refl
      | inr e ↦ rw (eqb-true b 9 e) refl
    ]
    | inr e ↦ rw (eqb-true b 13 e) refl
  ]
  | inr e ↦ rw (eqb-true b 10 e) refl
]

-- The bytes were looked at: whether all are digits or blanks, and if they are, whether the number of digits is odd.
pub record Looked (bytes : List ℕ) (is_odd is_text : Bool) : Type 0 where
  pub text : is_text ≡ list_all is_hex_digit (without_blanks bytes)
  pub odd : is_text ≡ true → is_odd ≡ (length (without_blanks bytes) % 2 == 1)

-- the text and the number of digits, with a byte that is a digit or isn't, and is a blank or isn't
text_more : (is_text is_digit is_blank : Bool) → (is_text && (is_digit || is_blank))
    ≡ (is_text && list_all (λ x. x) (cond (not is_blank) (is_digit ∷ []) []))
text_more false is_digit is_blank = refl
text_more true true true = refl
text_more true true false = refl
text_more true false true = refl
text_more true false false = refl

one_more : (b : ℕ) (is_blank : Bool) → list_all (λ x. x) (cond (not is_blank) (is_hex_digit b ∷ []) [])
    ≡ list_all is_hex_digit (cond (not is_blank) (b ∷ []) [])
one_more b true = refl
one_more b false = refl

odd_more : (is_odd : Bool) (n : ℕ) → is_odd ≡ (n % 2 == 1) → not (beq is_odd true) ≡ ((n + 1) % 2 == 1)
odd_more true n h =
    let odd = eqb-true (n % 2) 1 (sym h) in
    let even : (n + 1) % 2 ≡ 0 = omega arith in
    rw even refl
odd_more false n h =
    let even = eqb-false (n % 2) 1 (sym h) in
    let odd : (n + 1) % 2 ≡ 1 = omega arith in
    rw odd refl

odd_same : (is_odd : Bool) → not (beq is_odd false) ≡ is_odd
odd_same true = refl
odd_same false = refl

odd_one : (is_odd is_digit is_blank : Bool) (n b : ℕ) → (is_digit || is_blank) ≡ true
    → (is_blank ≡ true → is_digit ≡ false)
    → is_odd ≡ (n % 2 == 1)
    → not (beq is_odd is_digit) ≡ ((n + length (cond (not is_blank) (b ∷ []) [])) % 2 == 1)
odd_one is_odd true true n b h k e = absurd (true≢false (k refl))
odd_one is_odd true false n b h k e = odd_more is_odd n e
odd_one is_odd false true n b h k e = odd_same is_odd ∙ e ∙ ap (λ m. m % 2 == 1) (sym (add-zero n))
odd_one is_odd false false n b h k e = absurd (true≢false (sym h))

looked_one : (bytes : List ℕ) (b : ℕ) (is_odd is_text : Bool) → Looked bytes is_odd is_text
    → Looked (bytes ++ b ∷ []) (not (beq is_odd (is_hex_digit b))) (is_text && (is_hex_digit b || is_blank_byte b))
looked_one bytes b is_odd is_text l =
    let joined = filter-append (λ x. not (is_blank_byte x)) bytes (b ∷ []) in
    record {
      text = text_more is_text (is_hex_digit b) (is_blank_byte b)
          ∙ ap (λ z. is_text && z) (one_more b (is_blank_byte b))
          ∙ ap (λ z. z && list_all is_hex_digit (without_blanks (b ∷ []))) l.text
          ∙ sym (list_all-append is_hex_digit (without_blanks bytes) (without_blanks (b ∷ [])))
          ∙ ap (list_all is_hex_digit) (sym joined);
      odd = λ h.
          let both = and_parts is_text (is_hex_digit b || is_blank_byte b) h in
          odd_one is_odd (is_hex_digit b) (is_blank_byte b) (length (without_blanks bytes)) b both.1 (blank_is_one b)
          (l.odd both.0)
          ∙ ap (λ n. n % 2 == 1) (sym (ap length joined ∙ length-append (without_blanks bytes)
          (without_blanks (b ∷ []))));
    }

-- one byte more
pub looked_more : (bytes : List ℕ) (b : ℕ) (is_odd is_text is_digit is_blank : Bool)
    → is_digit ≡ is_ascii_hexdigit b → is_blank ≡ is_blank_byte b → Looked bytes is_odd is_text
    → Looked (bytes ++ b ∷ []) (not (beq is_odd is_digit)) (is_text && (is_digit || is_blank))
looked_more bytes b is_odd is_text is_digit is_blank d k l = rw (d ∙ ascii_is_hex b, k)
    (looked_one bytes b is_odd is_text l)

-- all were looked at
pub looked_all : (text : List ℕ) (n : ℕ) (is_odd is_text : Bool) → length text ≤ n → Looked (take n text) is_odd is_text
    → Looked text is_odd is_text
looked_all text n is_odd is_text h l = subst (λ z. Looked z is_odd is_text) (take_all n text h) l

-- what was looked at is hex, or it isn't
pub hex_of : (text : List ℕ) (is_odd is_text : Bool) → Looked text is_odd is_text → is_text ≡ true → not is_odd ≡ true
    → (bytes : List ℕ) × IsHexOf bytes text
hex_of text true is_text l t o = absurd (true≢false (sym o))
hex_of text false is_text l t o =
    let even = eqb-false (length (without_blanks text) % 2) 1 (sym (l.odd t)) in
    decode_of-digits (without_blanks text) (omega arith)
    (AllPass-from_list_all is_hex_digit (without_blanks text) (sym l.text ∙ t))

err_of : (r : Result (List ℕ) FromHexError) → ((bytes : List ℕ) → r ≡ Ok bytes → ⊥) → IsErr r
err_of (Ok bytes) h = absurd (h bytes refl)
err_of (Err e) h = refl

not_both : (is_odd is_text : Bool) → (is_text ≡ true) → (is_text ≡ true → is_odd ≡ false) → (is_text && not is_odd)
    ≡ true
not_both is_odd is_text t o = rw (t, o t) refl

pub not_hex : (text : List ℕ) (is_odd is_text : Bool) → Looked text is_odd is_text → (is_text && not is_odd) ≡ false
    → IsErr (decode_of (without_blanks text))
not_hex text is_odd is_text l h = err_of (decode_of (without_blanks text)) (λ bytes e.
    let ok = decode_of-ok (without_blanks text) bytes e in
    let is = l.text ∙ list_all-from_AllPass is_hex_digit (without_blanks text) ok.1 in
    let even : is_text ≡ true → is_odd ≡ false = λ t. l.odd t ∙ ap (λ n. n == 1) ok.0 in
    true≢false (sym (not_both is_odd is_text is even) ∙ h))
