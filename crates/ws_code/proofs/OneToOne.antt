-- Code page 037 is one to one.
use Rattle.std.specs.List.{list_all, range_with_len}
use Rattle.std.specs.Option.{option_map, option_map_or}
use Rattle.std.specs.Prelude.{position}
use Rattle.std.proofs.Common.{◌≡◌, ℕ, zero, suc, ◌+◌, ◌-◌, ◌<◌, ◌≤◌, List, Bool, true, false, Option, Some, None}
use Rattle.std.proofs.Common.{length, ◌==◌, slice_index, refl, sym, ap, ◌∙◌, arith, nat_le, nat_lt, ◌&&◌, if◌then◌else◌}
use Rattle.std.proofs.lemmas.List.Quantifiers.{position-Some}
use borrow.Author.Tests.{eqb-true, eqb-false, lt-ltb, le-leb, ltb-true, leb-true}
use Rattle.ws_code.specs.Ebcdic.{code_page, char_of, byte_of}

all_in : (p : ℕ → Bool) (lo n : ℕ) → list_all p (range_with_len lo n) ≡ true → (k : ℕ) → lo ≤ k → k < lo + n → p k
    ≡ true
all_in p lo zero all k low high = absurd (omega arith)
all_in p lo (suc n) all k low high = go (p lo) refl all (all_in p (lo + 1) n) (lo == k) refl
  where
    Later : Type 0
    Later = list_all p (range_with_len (lo + 1) n) ≡ true → (k : ℕ) → lo + 1 ≤ k → k < lo + 1 + n → p k ≡ true

    go : (t : Bool) → p lo ≡ t → (t && list_all p (range_with_len (lo + 1) n)) ≡ true → Later → (u : Bool) → (lo == k)
        ≡ u → p k ≡ true
    go false e all ih u q = absurd (cc)
    go true e all ih true q = ap p (sym (eqb-true lo k q)) ∙ e
    go true e all ih false q = let ne : lo ≡ k → ⊥ = eqb-false lo k q in ih all k (omega arith) (omega arith)

-- the first place of a character
abbrev place : List ℕ → ℕ → Option ℕ
place page c = position (λ listed. listed == c) page

abbrev is_at : ℕ → Option ℕ → Bool
is_at k o = option_map_or (λ i. i == k) o false

is_at-true : (k : ℕ) (o : Option ℕ) → is_at k o ≡ true → o ≡ Some k
is_at-true k None e = absurd (cc)
is_at-true k (Some i) e = ap Some (eqb-true i k e)

-- each character stands on the page once
once : (k : ℕ) → k < 191 → place code_page (slice_index code_page k) ≡ Some k
once k small = is_at-true k _
    (all_in (λ i. is_at i (place code_page (slice_index code_page i))) 0 191 refl k (omega arith) (omega arith))

-- a byte's character by a page
abbrev char_in : List ℕ → ℕ → Option ℕ
char_in page b = if nat_le 0x40 b && nat_lt b 0xFF then Some (slice_index page (b - 0x40)) else None

module _ (page : List ℕ) (size : length page ≡ 191)
    (first : (k : ℕ) → k < 191 → place page (slice_index page k) ≡ Some k) where
  -- where a byte's character stands
  stands : (b c : ℕ) → char_in page b ≡ Some c → (0x40 ≤ b) × (place page c ≡ Some (b - 0x40))
  stands b c e = go (nat_le 0x40 b) refl (nat_lt b 0xFF) refl e
    where
      go : (t : Bool) → nat_le 0x40 b ≡ t → (u : Bool) → nat_lt b 0xFF ≡ u
          → (if t && u then Some (slice_index page (b - 0x40)) else None) ≡ Some c → (0x40 ≤ b)
          × (place page c ≡ Some (b - 0x40))
      go false p u q e = absurd (cc)
      go true p false q e = absurd (cc)
      go true p true q e =
          let low : 0x40 ≤ b = leb-true 0x40 b p in
          let high : b < 0xFF = ltb-true b 0xFF q in
          let is : slice_index page (b - 0x40) ≡ c = cc in
          (low, ap (place page) (sym is) ∙ first (b - 0x40) (omega arith))

  in_page-some : (c i : ℕ) → place page c ≡ Some i → (b : ℕ) → (Some (i + 0x40) ≡ Some b → char_in page b ≡ Some c)
      × (char_in page b ≡ Some c → Some (i + 0x40) ≡ Some b)
  in_page-some c i at b = (there, back)
    where
      found : (i < length page) × ((slice_index page i == c) ≡ true)
          × ((k : ℕ) → k < i → (slice_index page k == c) ≡ false)
      found = position-Some (λ listed. listed == c) page i 0 at

      there : Some (i + 0x40) ≡ Some b → char_in page b ≡ Some c
      there e =
          let same : i + 0x40 ≡ b = cc in
          let small : i < 191 = omega (arith, found.0, size) in
          let back : b - 0x40 ≡ i = omega arith in
          rw (le-leb 0x40 b (omega arith), lt-ltb b 0xFF (omega arith), back)
          (ap Some (eqb-true (slice_index page i) c found.1))

      back : char_in page b ≡ Some c → Some (i + 0x40) ≡ Some b
      back e =
          let at_b : _ = stands b c e in
          let same : i ≡ b - 0x40 = ap (λ o. option_map_or (λ x. x) o 0) (sym at ∙ at_b.1) in
          ap Some (omega (arith, at_b.0, same))

  in_page-none : (c : ℕ) → place page c ≡ None → (b : ℕ) → (None ≡ Some b → char_in page b ≡ Some c)
      × (char_in page b ≡ Some c → None ≡ Some b)
  in_page-none c at b = ((λ e. absurd (cc)), (λ e. let at_b : _ = stands b c e in absurd (clash (sym at ∙ at_b.1))))
    where
      clash : {X : Type 0} {x : X} → None ≡ Some x → ⊥
      clash e = cc

pub byte_of-some : (c i : ℕ) → place code_page c ≡ Some i → (b : ℕ) → (Some (i + 0x40) ≡ Some b → char_of b ≡ Some c)
    × (char_of b ≡ Some c → Some (i + 0x40) ≡ Some b)
byte_of-some = in_page-some code_page refl once

pub byte_of-none : (c : ℕ) → place code_page c ≡ None → (b : ℕ) → (None ≡ Some b → char_of b ≡ Some c)
    × (char_of b ≡ Some c → None ≡ Some b)
byte_of-none = in_page-none code_page refl once

-- the byte of a byte's character is that byte, and no other byte has it
pub byte_of_char : (b c : ℕ) → (byte_of c ≡ Some b → char_of b ≡ Some c) × (char_of b ≡ Some c → byte_of c ≡ Some b)
unfolding byte_of
byte_of_char b c = go (place code_page c) refl
  where
    go : (at : Option ℕ) → place code_page c ≡ at
        → (option_map (λ place. place + 0x40) at ≡ Some b → char_of b ≡ Some c)
        × (char_of b ≡ Some c → option_map (λ place. place + 0x40) at ≡ Some b)
    go (Some i) at = byte_of-some c i at b
    go None at = byte_of-none c at b

-- it is of Latin-1
pub latin : (k : ℕ) → k < 191 → slice_index code_page k < 256
latin k small = ltb-true _ 256
    (all_in (λ i. nat_lt (slice_index code_page i) 256) 0 191 refl k (omega arith) (omega arith))

-- a byte that has a character, and that character
pub char_bounds : (b c : ℕ) → char_of b ≡ Some c → (0x40 ≤ b) × (b < 0xFF) × (c < 256)
char_bounds b c e = go (nat_le 0x40 b) refl (nat_lt b 0xFF) refl e
  where
    go : (t : Bool) → nat_le 0x40 b ≡ t → (u : Bool) → nat_lt b 0xFF ≡ u
        → (if t && u then Some (slice_index code_page (b - 0x40)) else None) ≡ Some c
        → (0x40 ≤ b) × (b < 0xFF) × (c < 256)
    go false p u q e = absurd (cc)
    go true p false q e = absurd (cc)
    go true p true q e =
        let low : 0x40 ≤ b = leb-true 0x40 b p in
        let high : b < 0xFF = ltb-true b 0xFF q in
        let is : slice_index code_page (b - 0x40) ≡ c = cc in
        let small : slice_index code_page (b - 0x40) < 256 = latin (b - 0x40) (omega arith) in
        (low, high, omega arith)

-- each of bytes 40 to FE has a character
pub has_char : (b : ℕ) → 0x40 ≤ b → b < 0xFF → char_of b ≡ Some (slice_index code_page (b - 0x40))
has_char b low high = rw (le-leb 0x40 b low, lt-ltb b 0xFF high) refl
