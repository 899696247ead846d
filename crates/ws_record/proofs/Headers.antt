-- The ten bytes of a header, one after another.
use Rattle.ws_record.proofs.Common.{◌≡◌, ℕ, List, [], ◌∷◌, ◌++◌, drop, refl, ◌∙◌, append_assoc, ◌<◌, length, ◌*◌, ◌≤◌}
use Rattle.ws_record.proofs.Common.{inl, inr, arith, ◌+◌, zero, suc, get_or, ◌-◌, length-append, replicate}
use Rattle.ws_record.proofs.Common.{get_or-append, get_or-append_seam, cases_lt, common_steps, length-replicate}
use Rattle.ws_record.proofs.Common.{AreBytes, byte_at, AreBytes-append, zeros_are, ten_cells, header, opcode_byte}
use Rattle.ws_record.proofs.Common.{IsFramed, HeaderSoFar, declared, CanBeFramed, Opcode, Invite}

-- the length of a header is ten
pub header_length : (n f : ℕ) (o : Opcode) (rest : List ℕ) → length (header n f o ++ rest) ≡ 10 + length rest
header_length n f o rest = omega arith

-- what a right header has at a place after its length
pub record RightCell (i b : ℕ) : Type 0 where
  pub kind_high : i ≡ 2 → b ≡ 0x12
  pub kind_low : i ≡ 3 → b ≡ 0xa0
  pub reserved_high : i ≡ 4 → b ≡ 0
  pub reserved_low : i ≡ 5 → b ≡ 0
  pub variable_length : i ≡ 6 → b ≡ 4
  pub opcode : i ≡ 9 → (opcode : Opcode) × (opcode_byte opcode ≡ b)

pub cell_of : (xs : List ℕ) → HeaderSoFar xs → (i : ℕ) → i < length xs → RightCell i (get_or xs i 0)
cell_of xs h i k = grind (arith, common_steps)

-- a right header and the rest, by its bytes
pub header_parts : (xs : List ℕ) (n flags : ℕ) (opcode : Opcode) → AreBytes xs → HeaderSoFar xs → 10 ≤ length xs → n
    ≡ declared xs → flags ≡ get_or xs 7 0 * 256 + get_or xs 8 0 → opcode_byte opcode ≡ get_or xs 9 0 → xs
    ≡ header n flags opcode ++ drop 10 xs
header_parts xs n flags opcode are h long says flag_bytes op =
    ten_cells xs long ∙ grind (arith, byte_at xs 0 are, byte_at xs 1 are, byte_at xs 7 are, byte_at xs 8 are)

header_right : (n f : ℕ) (o : Opcode) (rest : List ℕ) → 10 ≤ n → HeaderSoFar (header n f o ++ rest)
header_right n f o rest long = grind (arith, common_steps)

-- what a right record says of its length and of its header
framed_means : (xs : List ℕ) → IsFramed xs → (declared xs ≡ length xs) × HeaderSoFar xs
framed_means xs f =
    let long = header_length (length xs) f.flags f.opcode f.rest in grind (arith, common_steps, header_right)

-- more bytes after a whole header, and the front of a right one
pub header_append : (xs ys : List ℕ) → 10 ≤ length xs → HeaderSoFar xs → HeaderSoFar (xs ++ ys)
header_append xs ys long h = grind (arith, common_steps)

header_front : (xs ys : List ℕ) → HeaderSoFar (xs ++ ys) → HeaderSoFar xs
header_front xs ys h = grind (arith, common_steps)

-- a byte after bytes that aren't a whole header yet
pub header_more : (xs : List ℕ) (b : ℕ) → HeaderSoFar xs → (length xs ≡ 1 → 10 ≤ get_or xs 0 0 * 256 + b)
    → RightCell (length xs) b → HeaderSoFar (xs ++ b ∷ [])
header_more xs b h long right = record {
  declares = grind (arith, common_steps);
  kind_high = grind (arith, common_steps);
  kind_low = grind (arith, common_steps);
  reserved_high = grind (arith, common_steps);
  reserved_low = grind (arith, common_steps);
  variable_length = grind (arith, common_steps);
  opcode = λ k. elim (cases_lt 9 (length xs)) [
    | inl lt ↦ rw (get_or-append xs (b ∷ []) 0 9 lt) (h.opcode lt)
    | inr ge ↦ (let e : length xs ≡ 9 = omega (arith, length-append xs (b ∷ [])) in
        rw (rw e at (get_or-append_seam xs b [] 0)) (right.opcode e))
  ];
}

-- a right header, with which bytes that begin one go on
abbrev sample : List ℕ
sample = header 255 0 Invite

sample_are : AreBytes sample
sample_are = grind arith

pub empty_header : HeaderSoFar []
empty_header = header_front [] sample (header_right 255 0 Invite [] (omega arith))

-- Bytes that begin a right header, and aren't more than it declares, can become a right record.
padded : (xs : List ℕ) → AreBytes xs → HeaderSoFar xs → 10 ≤ length xs → length xs ≤ declared xs → CanBeFramed xs
padded xs are h long few =
    let rest : ℕ = declared xs - length xs in
    let full = xs ++ replicate rest 0 in
    let total : length full ≡ declared xs =
    omega (arith, length-append xs (replicate rest 0), length-replicate {A = ℕ} rest 0) in
    let all : AreBytes full = AreBytes-append xs (replicate rest 0) are (zeros_are rest) in
    let on : HeaderSoFar full = header_append xs (replicate rest 0) long h in
    let o = on.opcode (omega (arith, total)) in
    record {
      more = replicate rest 0;
      bytes = zeros_are rest;
      framed = record {
        flags = _;
        opcode = o.0;
        rest = drop 10 full;
        flags_fit = omega (arith, byte_at full 7 all, byte_at full 8 all);
        length_fits = omega (arith, total, byte_at xs 0 are, byte_at xs 1 are);
        spelled = header_parts full (length full) (get_or full 7 0 * 256 + get_or full 8 0) o.0 all on
            (omega (arith, total)) (grind (arith, common_steps)) refl o.1;
      };
    }

completed : (k : ℕ) (xs : List ℕ) → length xs + k ≡ 10 → AreBytes xs → HeaderSoFar xs → CanBeFramed xs
completed zero xs e are h = padded xs are h (omega arith) (omega (arith, h.declares (omega arith)))
completed (suc k) xs e are h =
    let b : ℕ = get_or sample (length xs) 0 in
    let fits : b < 256 = byte_at sample (length xs) sample_are in
    let right = cell_of sample (header_right 255 0 Invite [] (omega arith)) (length xs) (omega arith) in
    let on = completed k (xs ++ b ∷ []) (omega (arith, length-append xs (b ∷ [])))
    (AreBytes-append xs (b ∷ []) are (fits, tt))
    (header_more xs b h (λ one. (let last : b ≡ 255 = rw one refl in omega (arith, last))) right) in
    record {
      more = b ∷ on.more;
      bytes = (fits, on.bytes);
      framed = rw (append_assoc xs (b ∷ []) on.more) at on.framed;
    }

pub can_be_framed : (xs : List ℕ) → AreBytes xs → HeaderSoFar xs → (1 < length xs → length xs ≤ declared xs)
    → CanBeFramed xs
can_be_framed xs are h few = elim (cases_lt (length xs) 10) [
  | inl lt ↦ completed (10 - length xs) xs (omega arith) are h
  | inr long ↦ padded xs are h long (few (omega arith))
]

-- and the other way
pub can_means : (xs : List ℕ) → CanBeFramed xs → HeaderSoFar xs
can_means xs can = header_front xs can.more (framed_means (xs ++ can.more) can.framed).1

-- a byte that a right header has at its place
module _ (xs : List ℕ) (b : ℕ) (m : List ℕ) (f : IsFramed (xs ++ b ∷ m)) where
  pub next_cell : RightCell (length xs) b
  next_cell = rw (get_or-append_seam xs b m 0) at (cell_of _ (framed_means _ f).1 (length xs)
      (omega (arith, length-append xs (b ∷ m))))

  pub no_room : 1 < length xs → declared xs ≤ length xs → ⊥
  no_room k e =
      let facts = framed_means _ f in grind (arith, common_steps)
