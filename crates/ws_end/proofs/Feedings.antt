-- A piece of bytes at an end of a session, by its prefixes.

use Rattle.ws_end.proofs.Common.{◌≡◌, ◌+◌, ◌≤◌, List, [], ◌∷◌, ◌++◌, refl, subst, ◌∙◌, ℕ, zero, suc, ◌<◌, take, ap, sym}
use Rattle.ws_end.proofs.Common.{arith, inl, inr, length, append_assoc, ◌-◌, take-append-add, length-take-le}
use Rattle.ws_end.proofs.Common.{append-nil, Rules, Item, all_came, IsTrace, Arrives, Transitions, Happen, HoldsItems}
use Rattle.ws_end.specs.Acts.{protocol_of}

module _ {Place U : Type 0} (rules : Rules Place U) (Request : Type 0) where
  -- where no item is complete with any of the bytes, nothing happens
  pub none_happen : (bytes : List ℕ) (items : List (Item U)) (came : List ℕ) → ((n : ℕ) → n ≤ length came
      → HoldsItems rules (bytes ++ take n came) items) → Happen rules bytes items (all_came {Request = Request} came) []
  none_happen bytes items [] held = refl
  none_happen bytes items (b ∷ came) held = inl (
    held 1 (omega arith),
    none_happen _ items came (λ n k. rw (append_assoc bytes (b ∷ []) (take n came)) (held (suc n) (omega (arith, k)))),
  )

  -- where one is with the last of them, it arrives
  pub one_happens : (bytes : List ℕ) (items : List (Item U)) (item : Item U) (came : List ℕ)
      → 0 < length came → ((n : ℕ) → n < length came → HoldsItems rules (bytes ++ take n came) items) → HoldsItems rules
      (bytes ++ came) (items ++ item ∷ []) → Happen rules bytes items (all_came {Request = Request} came)
      (Arrives item ∷ [])
  one_happens bytes items item [] some held last = absurd (omega (arith, some))
  one_happens bytes items item (b ∷ []) some held last = inr (item, [], last, refl, refl)
  one_happens bytes items item (b ∷ (c ∷ came)) some held last = inl (
    held 1 (omega arith),
    one_happens (bytes ++ b ∷ []) items item (c ∷ came) (omega arith) (λ n k. rw (append_assoc bytes (b ∷ [])
        (take n (c ∷ came))) (held (suc n) (omega (arith, k)))) (rw (append_assoc bytes (b ∷ []) (c ∷ came)) last),
  )

-- a list by a value of it
pub value_at : (xs : List ℕ) (k : ℕ) → k < length xs → (b : ℕ) × (rest : List ℕ) × (xs ≡ take k xs ++ b ∷ rest)
    × (take (suc k) xs ≡ take k xs ++ b ∷ [])
value_at [] k lt = absurd (omega (arith, lt))
value_at (x ∷ xs) zero lt = (x, xs, refl, refl)
value_at (x ∷ xs) (suc k) lt =
    let p = value_at xs k (omega (arith, lt)) in
    (p.0, p.1, ap (λ z. x ∷ z) p.2, ap (λ z. x ∷ z) p.3)

-- bytes that are some have a last one
pub last_of : (piece : List ℕ) (used : ℕ) → used ≤ length piece → 0 < used
    → (prefix : List ℕ) × (byte : ℕ) × (take used piece ≡ prefix ++ byte ∷ [])
last_of piece used within some =
    let m : ℕ = used - 1 in
    let last : suc m ≡ used = omega (arith, some) in
    let at = value_at piece m (omega (arith, within, some)) in
    (take m piece, at.0, ap (λ (n : ℕ). take n piece) (sym last) ∙ at.3)

-- so many bytes of a piece with the next one
pub with_next : (piece : List ℕ) (used : ℕ) → used ≤ length piece → (byte : ℕ) (rest : List ℕ)
    → piece ≡ take used piece ++ byte ∷ rest → take (used + 1) piece ≡ take used piece ++ byte ∷ []
with_next piece used within byte rest split =
    let size : length (take used piece) ≡ used = length-take-le used piece within in
    subst (λ (z : List ℕ). take (used + 1) z ≡ take used piece ++ byte ∷ []) (sym split)
    (subst (λ (n : ℕ). take (n + 1) (take used piece ++ byte ∷ rest) ≡ take used piece ++ byte ∷ []) size
    (take-append-add (take used piece) (byte ∷ rest) 1))

module _ {Place PlaceV State U V Request Event : Type 0} (rules : Rules Place U) (out : Rules PlaceV V)
    (transitions : Transitions State U V Request Event) where
  -- no byte comes
  pub none_come : (Then : List ℕ → List (Item U) → State → Type 0) (bytes : List ℕ) (items : List (Item U))
      (state : State) → Then bytes items state → IsTrace (protocol_of rules out transitions) Then bytes items state
      (all_came {Request = Request} []) [] []
  none_come Then bytes items state then = record {
    happened = [];
    happen = refl;
    taken = tt;
    wrote = refl;
    tells = refl;
    reached = rw (append-nil bytes) (rw (append-nil items) then);
  }
