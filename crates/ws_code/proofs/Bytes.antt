use Rattle.std.proofs.Common.{◌≡◌, ℕ, List, [], ◌∷◌, ◌++◌, take, drop, sym, ap, ◌∙◌, ◌<◌, length, ◌≤◌, inl, inr, arith}
use Rattle.std.proofs.Common.{zero, suc, get_or, ◌-◌, length-append}
use Rattle.std.proofs.Math.ListN.{replicate, drop_of_length-le}
use Rattle.std.proofs.lemmas.Bool.{cases_lt}
use Rattle.std.proofs.lemmas.List.{append-nil, take-append-drop, length-replicate}
use Rattle.ws_code.specs.Code.{Rules, IsChain, spelling_of, AreBytes}
use Rattle.ws_code.proofs.CodeLaws.{AreBytes-front, AreBytes-append, zeros_are}

-- Lists of bytes: their parts and places, and the bytes of spellings.

pub AreBytes-apart : (xs ys : List ℕ) → AreBytes (xs ++ ys) → AreBytes xs × AreBytes ys
AreBytes-apart [] ys h = (tt, h)
AreBytes-apart (x ∷ xs) ys h = let both = AreBytes-apart xs ys h.1 in ((h.0, both.0), both.1)

-- a byte at a place is one
pub byte_at : (xs : List ℕ) (i : ℕ) → AreBytes xs → get_or xs i 0 < 256
byte_at [] i h = omega arith
byte_at (x ∷ xs) zero h = h.0
byte_at (x ∷ xs) (suc i) h = byte_at xs i h.1

-- the values of a slice are bytes, and so are those of its fronts
slice_bytes : (xs : List ℕ) → ((i : ℕ) → get_or xs i 0 < 256) → AreBytes xs
slice_bytes [] h = tt
slice_bytes (x ∷ xs) h = (h 0, slice_bytes xs (λ i. h (suc i)))

pub front_bytes : (xs : List ℕ) (n : ℕ) → ((i : ℕ) → get_or xs i 0 < 256) → AreBytes (take n xs)
front_bytes xs n h = AreBytes-front (take n xs) (drop n xs) (rw (take-append-drop n xs) (slice_bytes xs h))

-- bytes that fill others up to ten
pub padding : (so_far : List ℕ) → (fill : List ℕ) × AreBytes fill × (10 ≤ length (so_far ++ fill))
    × (drop 10 (so_far ++ fill) ≡ drop 10 so_far)
padding so_far = elim (cases_lt (length so_far) 10) [
  | inl h ↦
      let total : length (so_far ++ replicate (10 - length so_far) 0) ≡ 10 = omega (
        arith,
        length-append so_far (replicate (10 - length so_far) 0),
        length-replicate {A = ℕ} (10 - length so_far) 0,
      ) in (
        replicate (10 - length so_far) 0,
        zeros_are (10 - length so_far),
        omega arith,
        drop_of_length-le (so_far ++ replicate (10 - length so_far) 0) {i = 10} (omega arith)
            ∙ sym (drop_of_length-le so_far {i = 10} (omega arith)),
      )
  | inr h ↦ (
    [],
    tt,
    (let f : length (so_far ++ []) ≡ length so_far = ap length (append-nil so_far) in omega arith),
    ap (drop 10) (append-nil so_far),
  )
]

module _ {Place U : Type 0} (rules : Rules Place U) where
  -- the law on the bytes of spellings
  abbrev pub SpellsBytes : Type 0
  SpellsBytes = (u : U) → rules.is_unit u → AreBytes (rules.spelling u)

  pub list_bytes : SpellsBytes → (place : Place) (us : List U) → IsChain rules place us
      → AreBytes (spelling_of rules us)
  list_bytes law place [] c = tt
  list_bytes law place (u ∷ us) c = AreBytes-append (rules.spelling u) (spelling_of rules us) (law u c.0.is_unit)
      (list_bytes law (rules.after u) us c.1)
