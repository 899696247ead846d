-- Bytes and numbers by their words, and bytes as units.

use Rattle.ws_text.proofs.Common.{◌∙◌, ap, ◌≡◌, arith, refl, sym, [], length, ◌∷◌, List, ℕ, ◌<◌, inl, ◌≤◌, inr, ◌/◌}
use Rattle.ws_text.proofs.Common.{Err, Ok, Result, ◌⊎◌, decode_of, FromHexError, IsHexByte, IsHex, AllByRecursion, ◌++◌}
use Rattle.ws_text.proofs.Common.{subst, take, Some, get_or, drop, Option, map, suc, map-append, AreTyped, AreEach}
use Rattle.ws_text.proofs.Common.{Wording, RunName, ◌+◌, append-nil, None, MatchOption, ◌*◌, IsByteRun, behind_first}
use Rattle.ws_text.proofs.Common.{◌^◌, cond, eqb_tells, IsNumber}
use Rattle.std.specs.Char.{digit_value}
use Rattle.std.specs.Str.{chars}
use Rattle.std.specs.Str.Parse.{IsNumeral, digits_value, without_leading_plus}
use Rattle.std.proofs.Math.Nat.{pow-le-pow_right}
use Rattle.std.proofs.lemmas.List.{nil_from_length}
use Rattle.std.proofs.Math.Seq.{split_at}
use Rattle.std.proofs.lemmas.Int.Digits.{digits_value-lt}
use Rattle.hex.proofs.HexLemmas.{decode_of-ok, decode_of-even, decode_pairs-ok}
use Rattle.hex.proofs.Pairs.{prepend, prepend-cons_byte, decode_start, decode_pairs-ok_pair, decode_pairs-err_pair}
use Rattle.hex.specs.Hex.{decode_pairs, pair_value, ◌>>=◌}
use Rattle.ws_code.proofs.Lists.{AllByRecursion-append}
use Rattle.ws_code.specs.Ebcdic.{byte_of}
use Rattle.ws_text.specs.WordLaws.{byte_same}

-- WORDS OF SO MANY HEX DIGITS

-- hex of one byte, or of two, is some
pub some_hex : (word : List ℕ) (b : ℕ) (bytes : List ℕ) → decode_of word ≡ Ok (b ∷ bytes) → IsHex word (b ∷ bytes)
some_hex word b bytes is = (λ e. omega (arith, ap length e, (decode_of-ok word (b ∷ bytes) is).2), is)

pub one_of : (bytes : List ℕ) → 1 ≤ length bytes → length bytes < 2 → bytes ≡ get_or bytes 0 0 ∷ []
one_of (x ∷ []) low high = refl
one_of bytes low high = absurd (omega (arith, low, high))

pub two_of : (bytes : List ℕ) → 2 ≤ length bytes → length bytes < 3 → bytes ≡ get_or bytes 0 0 ∷ get_or bytes 1 0 ∷ []
two_of (x ∷ y ∷ []) low high = refl
two_of bytes low high = absurd (omega (arith, low, high))

-- a word of no digits, or of more than 128, isn't hex of 1 to 64 bytes
pub not_short : (word : List ℕ) → (length word / 2 ≡ 0) ⊎ (64 < length word / 2) → (bytes : List ℕ) → IsHex word bytes
    → length bytes ≤ 64 → ⊥
not_short word (inl none) bytes is few = is.0 (nil_from_length word (omega (arith, none, (decode_of-ok word bytes is.1).2)))
not_short word (inr many) bytes is few = omega (arith, many, few, (decode_of-ok word bytes is.1).2)

-- BYTES AS UNITS

pub first_more : {U : Type 0} (first : Option U) (us vs : List U) → behind_first first us ++ vs
    ≡ behind_first first (us ++ vs)
first_more None us vs = refl
first_more (Some u) us vs = refl

run_more : {U : Type 0} (w : Wording U) (n : RunName) (first : Option U) (bytes : List ℕ) (b : ℕ) (units : List U)
    → AreEach w n first bytes units → w.IsByte n b → AreEach w n first (bytes ++ b ∷ []) (units ++ w.byte n b ∷ [])
run_more w n first bytes b units h is = (
  AllByRecursion-append (w.IsByte n) bytes (b ∷ []) h.0 (is, tt),
  ap (λ z. z ++ w.byte n b ∷ []) h.1 ∙ first_more first (map (w.byte n) bytes) (w.byte n b ∷ [])
      ∙ ap (λ z. behind_first first z) (sym (map-append (w.byte n) bytes (b ∷ []))),
)

-- the units of bytes begin with those of the first bytes
next_unit : {U : Type 0} (w : Wording U) (n : RunName) (first : Option U) (bytes front more : List ℕ) (b : ℕ)
    (all units : List U) → AreEach w n first bytes all → AreEach w n first front units → bytes ≡ front ++ b ∷ more
    → all ≡ units ++ w.byte n b ∷ map (w.byte n) more
next_unit w n first bytes front more b all units h f e =
    h.1 ∙ ap (λ z. behind_first first z) (ap (λ z. map (w.byte n) z) e ∙ map-append (w.byte n) front (b ∷ more))
    ∙ sym (first_more first (map (w.byte n) front) (w.byte n b ∷ map (w.byte n) more))
    ∙ ap (λ z. z ++ w.byte n b ∷ map (w.byte n) more) (sym f.1)

-- characters so far, and their units
pub record TypedSoFar {U : Type 0} (w : Wording U) (n : RunName) (characters : List ℕ) (units : List U) : Type 0 where
  pub bytes : List ℕ
  pub typed : map byte_of characters ≡ map (λ b. Some b) bytes
  pub run : AreEach w n None bytes units

pub typed_more : {U : Type 0} {w : Wording U} {n : RunName} (characters : List ℕ) (x b : ℕ) {units : List U}
    → TypedSoFar w n characters units → byte_of x ≡ Some b → w.IsByte n b
    → TypedSoFar w n (characters ++ x ∷ []) (units ++ w.byte n b ∷ [])
typed_more {w = w} {n = n} characters x b {units = units} h is good = record {
  bytes = h.bytes ++ b ∷ [];
  typed = map-append byte_of characters (x ∷ []) ∙ ap (λ z. z ++ byte_of x ∷ []) h.typed
      ∙ ap (λ o. map (λ y. Some y) h.bytes ++ o ∷ []) is ∙ sym (map-append (λ y. Some y) h.bytes (b ∷ []));
  run = run_more w n None h.bytes b units h.run good;
}

pub typed_all : {U : Type 0} {w : Wording U} {n : RunName} {text characters : List ℕ} {units : List U} → n ≡ w.typed
    → characters ≡ chars text → TypedSoFar w n characters units → AreTyped w text units
typed_all {w = w} {units = units} is e h = record {
  bytes = h.bytes;
  typed = ap (λ z. map byte_of z) (sym e) ∙ h.typed;
  run = subst (λ (z : RunName). AreEach w z None h.bytes units) is h.run;
}

-- the byte of the next character
byte_at : (Is : ℕ → Type 0) (front rest bytes done : List ℕ) (x : ℕ)
    → map byte_of (front ++ x ∷ rest) ≡ map (λ b. Some b) bytes
    → map byte_of front ≡ map (λ b. Some b) done → AllByRecursion Is bytes
    → (b : ℕ) × (more : List ℕ) × (byte_of x ≡ Some b) × Is b × (bytes ≡ done ++ b ∷ more)
byte_at Is [] rest (b ∷ bytes) [] x e f h =
    let first : byte_of x ≡ Some b = cc in
    (b, bytes, first, h.0, refl)
byte_at Is (c ∷ front) rest (b ∷ bytes) (d ∷ done) x e f h =
    let tails : map byte_of (front ++ x ∷ rest) ≡ map (λ b. Some b) bytes = cc in
    let fronts : map byte_of front ≡ map (λ b. Some b) done = cc in
    let found = byte_at Is front rest bytes done x tails fronts h.1 in
    let same : b ≡ d = cc in
    let more : bytes ≡ done ++ found.0 ∷ found.1 = found.4 in
    (found.0, found.1, found.2, found.3, cc)
byte_at Is front rest bytes done x e f h = cc

-- what the characters are begins with the units so far and that of the next character
pub next_typed : {U : Type 0} {w : Wording U} {n : RunName} (text characters : List ℕ) (x : ℕ) (byte : Option ℕ)
    {units all : List U} → n ≡ w.typed → characters ≡ take (length characters) (chars text)
    → (length characters < length (chars text)) × (x ≡ get_or (chars text) (length characters) x) → byte ≡ byte_of x
    → TypedSoFar w n characters units → AreTyped w text all
    → (b : ℕ) × (more : List U) × (byte ≡ Some b) × w.IsByte n b × (all ≡ units ++ w.byte n b ∷ more)
next_typed {w = w} {n = n} text characters x byte {all = all} named front at is h are =
    let run = subst (λ (z : RunName). AreEach w z None are.bytes all) (sym named) are.run in
    let rest = drop (suc (length characters)) (chars text) in
    let cut : chars text ≡ characters ++ x ∷ rest = split_at (chars text) (length characters) x at.0
    ∙ ap (λ z. take (length characters) (chars text) ++ z ∷ rest) (sym at.1) ∙ ap (λ z. z ++ x ∷ rest) (sym front) in
    let found = byte_at (w.IsByte n) characters rest are.bytes h.bytes x
    (ap (λ z. map byte_of z) (sym cut) ∙ are.typed) h.typed run.0 in (
      found.0,
      map (w.byte n) found.1,
      is ∙ found.2,
      found.3,
      next_unit w n None _ _ _ _ _ _ run h.run found.4,
    )

-- RUNS OF BYTES IN HEX, PAIR BY PAIR

-- what a result holds
abbrev bytes_of : Result (List ℕ) FromHexError → List ℕ
bytes_of (Ok bytes) = bytes
bytes_of (Err e) = []

-- a pair reads as the same byte wherever it stands
pair_moves : (a b i j v : ℕ) → pair_value a b i ≡ Ok v → pair_value a b j ≡ Ok v
pair_moves a b i j v e = grind (arith)

one_pair : (a b v : ℕ) → pair_value a b 0 ≡ Ok v → IsHexByte (a ∷ b ∷ []) v
unfolding decode_pairs
one_pair a b v e = decode_pairs-ok_pair 0 a b v [] e

two_digits : (a b v : ℕ) (r : Result ℕ FromHexError) → pair_value a b 0 ≡ r → IsHexByte (a ∷ b ∷ []) v → r ≡ Ok v
two_digits a b v (Ok x) e h = ap Ok (byte_same (a ∷ b ∷ []) x v (one_pair a b x e) h)
two_digits a b v (Err x) e h = cc (sym (decode_pairs-err_pair 0 a b x [] e) ∙ h)

-- the digits so far are those of good bytes, these are their units, and the rest is to be decoded
pub record RunSoFar {U : Type 0} (w : Wording U) (n : RunName) (word rest : List ℕ) (units : List U) : Type 0 where
  pub bytes : List ℕ
  pub at : ℕ
  pub decoded : decode_pairs 0 word ≡ prepend bytes (decode_pairs at rest)
  pub run : AreEach w n (w.first n) bytes units

-- what the first two digits are
abbrev IsFirst : List ℕ → Option ℕ → Type 0
IsFirst digits first = MatchOption first ((byte : ℕ) → IsHexByte digits byte → ⊥) (IsHexByte digits)

first_is : (digits : List ℕ) (first : Option ℕ) (b : ℕ) → IsFirst digits first → IsHexByte digits b → first ≡ Some b
first_is digits (Some x) b h is = ap (λ z. Some z) (byte_same digits x b h is)
first_is digits None b h is = absurd (h b is)

module _ {U : Type 0} (w : Wording U) (n : RunName) where
  pub run_begun : (word rest : List ℕ) (units : List U) → rest ≡ word → units ≡ behind_first (w.first n) []
      → RunSoFar w n word rest units
  run_begun word rest units e is =
      rw e (record { bytes = []; at = 0; decoded = decode_start word []; run = (tt, is) })

  run_goes_on : (word rest behind : List ℕ) (b : ℕ) (units : List U) → RunSoFar w n word rest units
      → IsHexByte (take 2 rest) b → behind ≡ drop 2 rest → w.IsByte n b
      → RunSoFar w n word behind (units ++ w.byte n b ∷ [])
  run_goes_on word (x ∷ y ∷ rest) behind b units h is e good =
      let pair = pair_moves x y 0 h.at b (two_digits x y b (pair_value x y 0) refl is) in
      record {
        bytes = h.bytes ++ b ∷ [];
        at = h.at + 2;
        decoded = h.decoded ∙ ap (prepend h.bytes) (decode_pairs-ok_pair h.at x y b rest pair)
            ∙ prepend-cons_byte h.bytes b (decode_pairs (h.at + 2) rest)
            ∙ ap (λ z. prepend (h.bytes ++ b ∷ []) (decode_pairs (h.at + 2) z)) (sym e);
        run = run_more w n (w.first n) h.bytes b units h.run good;
      }
  run_goes_on word rest behind b units h is e good = absurd (omega (arith, (decode_of-ok (take 2 rest) (b ∷ []) is).2))

  -- and the byte that was read
  pub run_more_by : {word rest behind : List ℕ} {units : List U} (first : Option ℕ) (b : ℕ)
      → RunSoFar w n word rest units → IsFirst (take 2 rest) first → first ≡ Some b → behind ≡ drop 2 rest
      → w.IsByte n b → RunSoFar w n word behind (units ++ w.byte n b ∷ [])
  run_more_by {word} {rest} {behind} {units} first b h is e =
      run_goes_on word rest behind b units h (subst (λ (z : Option ℕ). IsFirst (take 2 rest) z) e is)

  -- what is decoded as a whole is so in pairs
  in_pairs : (word bytes : List ℕ) → decode_of word ≡ Ok bytes → decode_pairs 0 word ≡ Ok bytes
  in_pairs word bytes e = sym (decode_of-even word (decode_of-ok word bytes e).0) ∙ e

  data_within : (front more : List ℕ) (b : ℕ) → AllByRecursion (w.IsByte n) (front ++ b ∷ more) → w.IsByte n b
  data_within [] more b h = h.0
  data_within (x ∷ front) more b h = data_within front more b h.1

  next_pair : (front bytes : List ℕ) (x y at : ℕ) (r : Result ℕ FromHexError) (more : Result (List ℕ) FromHexError)
      → pair_value x y at ≡ r → Ok bytes ≡ prepend front (r >>= (λ byte. more >>= (λ rest. Ok (byte ∷ rest))))
      → AllByRecursion (w.IsByte n) bytes
      → (b : ℕ) × (rest : List ℕ) × IsHexByte (x ∷ y ∷ []) b × w.IsByte n b × (bytes ≡ front ++ b ∷ rest)
  next_pair front bytes x y at (Err e) more is f good = cc f
  next_pair front bytes x y at (Ok b) (Err e) is f good = cc f
  next_pair front bytes x y at (Ok b) (Ok rest) is f good =
      let cut = ap bytes_of f in
      let data_ = data_within front rest b (subst (λ (z : List ℕ). AllByRecursion (w.IsByte n) z) cut good) in
      (b, rest, one_pair x y b (pair_moves x y at 0 b is), data_, cut)

  -- what the digits are begins with the units so far and that of the next two digits
  pub next_of_run : (word rest : List ℕ) (first : Option ℕ) {units all : List U} → (rest ≡ [] → ⊥)
      → IsFirst (take 2 rest) first → RunSoFar w n word rest units → IsByteRun w n word all
      → (b : ℕ) × (more : List U) × (first ≡ Some b) × w.IsByte n b × (all ≡ units ++ w.byte n b ∷ more)
  unfolding decode_pairs
  next_of_run word [] first some is h r = absurd (some refl)
  next_of_run word (x ∷ []) first some is h r = cc (sym (in_pairs word r.0 r.1.1) ∙ h.decoded)
  next_of_run word (x ∷ y ∷ rest) first some is h r =
      let found = next_pair h.bytes r.0 x y h.at (pair_value x y h.at) (decode_pairs (h.at + 2) rest) refl
      (sym (in_pairs word r.0 r.1.1) ∙ h.decoded) r.2.0 in
      let read = first_is (x ∷ y ∷ []) first found.0 is found.2 in
      (found.0, map (w.byte n) found.1, read, found.3, next_unit w n (w.first n) _ _ _ _ _ _ r.2 h.run found.4)

  -- all digits are read
  pub whole_run : {word rest : List ℕ} {units : List U} → (word ≡ [] → ⊥) → rest ≡ [] → RunSoFar w n word rest units
      → IsByteRun w n word units
  unfolding decode_pairs
  whole_run {word = word} some e h =
      let all : decode_pairs 0 word ≡ Ok h.bytes = h.decoded ∙ ap (λ z. prepend h.bytes (decode_pairs h.at z)) e
      ∙ ap Ok (append-nil h.bytes) in
      let even : length word ≡ 2 * length h.bytes = (decode_pairs-ok 0 word h.bytes all).1 in
      (h.bytes, (some, decode_of-even word (omega (arith, even)) ∙ all), h.run)

-- NUMBERS

-- a numeral has no sign
pub no_plus : (ds : List ℕ) → IsNumeral 10 ds → without_leading_plus ds ≡ ds
no_plus [] h = refl
no_plus (c ∷ cs) h = elim (eqb_tells c 43) [
  | inl p ↦ (let P : ℕ → Type 0 = λ z. digit_value z < 10 in let bad : digit_value 43 < 10 = subst P p.1 h.1.0 in
      absurd (omega arith))
  | inr p ↦ ap (λ b. drop (cond b 1 0) (c ∷ cs)) p.0
]

pub number_fits : (ds : List ℕ) (n : ℕ) → IsNumber ds n → digits_value 10 ds < 2 ^ 32
number_fits ds n h = omega
    (arith, digits_value-lt 10 ds h.0.1, pow-le-pow_right {n = 10} (omega arith) {i = length ds} {j = 9} h.1)

-- what isn't parsed is no number
pub unparsed : (ds : List ℕ)
    → (IsNumeral 10 (without_leading_plus ds) × (digits_value 10 (without_leading_plus ds) < 2 ^ 32) → ⊥) → (n : ℕ)
    → IsNumber ds n → ⊥
unparsed ds none_is n h =
    let P : List ℕ → Type 0 = λ z. IsNumeral 10 z × (digits_value 10 z < 2 ^ 32) in
    none_is (subst P (sym (no_plus ds h.0)) (h.0, number_fits ds n h))
