use Rattle.std.proofs.Common.{◌≡◌, ℕ, List, ◌++◌, take, drop, sym, ap, ◌∙◌, append_assoc, ◌<◌, length, ◌≤◌, inl, inr}
use Rattle.std.proofs.Common.{arith, ◌+◌, ◌^◌, ◌-◌, length-append, length-take}
use Rattle.std.proofs.Math.Seq.{take-add}
use Rattle.std.proofs.lemmas.Bool.{cases_lt}
use Rattle.std.proofs.lemmas.List.{take-append-drop, length-take-le}
use Rattle.ws_code.proofs.DeviceLaws.{rest_from, length_rest}

-- A piece of bytes: fronts of it, and what is left of it behind one.

-- what is left of a piece behind a front of it
abbrev pub left_of : List ℕ → ℕ → List ℕ
left_of piece i = take (length piece - i) (drop i piece)

pub left_joined : (piece : List ℕ) (i : ℕ) → take i piece ++ left_of piece i ≡ piece
left_joined piece i = ap (λ x. take i piece ++ x) (rest_from piece i) ∙ take-append-drop i piece

-- a front of what is left behind a front
pub bytes_on : (bytes piece : List ℕ) (i k : ℕ)
    → (bytes ++ take i piece) ++ take k (left_of piece i) ≡ bytes ++ take (i + k) piece
bytes_on bytes piece i k = append_assoc bytes (take i piece) (take k (left_of piece i))
    ∙ ap (λ x. bytes ++ (take i piece ++ take k x)) (rest_from piece i)
    ∙ ap (λ x. bytes ++ x) (sym (take-add i k piece))

-- what holds of all fronts up to one, and of the fronts behind it
pub each_on : (Q : List ℕ → Type 0) (bytes piece : List ℕ) (i k : ℕ) → ((n : ℕ) → n ≤ i → Q (bytes ++ take n piece))
    → ((n : ℕ) → n < k → Q ((bytes ++ take i piece) ++ take n (left_of piece i))) → (n : ℕ) → n < i + k
    → Q (bytes ++ take n piece)
each_on Q bytes piece i k below behind n lt = elim (cases_lt i n) [
  | inl k' ↦ (let same : i + (n - i) ≡ n = omega (arith, k') in
      rw same at (rw (bytes_on bytes piece i (n - i)) at (behind (n - i) (omega (arith, k', lt)))))
  | inr k' ↦ below n k'
]

-- and of this front too
pub upto : (Q : ℕ → Type 0) (i : ℕ) → ((n : ℕ) → n < i → Q n) → Q i → (n : ℕ) → n ≤ i → Q n
upto Q i below here n k =
    elim (cases_lt n i) [ inl lt ↦ below n lt | inr ge ↦ rw (let e : i ≡ n = omega (arith, ge, k) in e) at here ]

-- there is room for what is left
pub room_on : (bytes piece : List ℕ) (i : ℕ) → length bytes + length piece + 1 < 2 ^ 64
    → length (bytes ++ take i piece) + length (left_of piece i) < 2 ^ 64
room_on bytes piece i fits =
    omega (arith, fits, length-append bytes (take i piece), length-take i piece, length_rest piece i)

-- and for a byte more
pub room_next : (bytes piece : List ℕ) (i : ℕ) → length bytes + length piece + 1 < 2 ^ 64 → i ≤ length piece
    → length (bytes ++ take i piece) + length (left_of piece i) + 1 < 2 ^ 64
room_next bytes piece i fits within =
    omega
    (arith, fits, within, length-append bytes (take i piece), length-take-le i piece within, length_rest piece i)
