-- Two lists whose items take turns.

use Rattle.std.proofs.Common.{◌≡◌, ℕ, suc, ◌+◌, ◌<◌, min, List, [], ◌∷◌, ◌++◌, ◌⊎◌, length, take, drop, get_or, refl}
use Rattle.std.proofs.Common.{sym, ap, ◌∙◌, ◌-◌, append_assoc, arith, inl, inr}
use Rattle.std.proofs.Math.Seq.{drop-cons}
use Rattle.std.proofs.lemmas.Bool.{cases_lt}
use Rattle.std.proofs.lemmas.List.{append-nil, drop_all, take_all, length-drop}
use Rattle.ws_network.specs.Turns.{turns}

-- Two lists whose items take turns.

-- one of each is moved behind those in order
module _ {A : Type 0} (xs ys order : List A) (i : ℕ) (x y : A) where
  pub moved : i < length xs → i < length ys → x ≡ get_or xs i x → y ≡ get_or ys i y
      → order ++ turns (drop i xs) (drop i ys) ≡ turns xs ys
      → ((order ++ x ∷ []) ++ y ∷ []) ++ turns (drop (i + 1) xs) (drop (i + 1) ys) ≡ turns xs ys
  moved short less one other before =
      let n : suc i ≡ i + 1 = omega arith in
      let first : drop i xs ≡ x ∷ drop (i + 1) xs = drop-cons xs i x short
      ∙ ap (λ z. z ∷ drop (suc i) xs) (sym one) ∙ ap (λ m. x ∷ drop m xs) n in
      let second : drop i ys ≡ y ∷ drop (i + 1) ys = drop-cons ys i y less
      ∙ ap (λ z. z ∷ drop (suc i) ys) (sym other) ∙ ap (λ m. y ∷ drop m ys) n in
      append_assoc (order ++ x ∷ []) (y ∷ []) (turns (drop (i + 1) xs) (drop (i + 1) ys))
      ∙ append_assoc order (x ∷ []) (y ∷ turns (drop (i + 1) xs) (drop (i + 1) ys))
      ∙ ap (λ z. order ++ z) (sym (ap (λ z. turns z (drop i ys)) first
      ∙ ap (λ z. turns (x ∷ drop (i + 1) xs) z) second)) ∙ before

module _ {A : Type 0} where
  none_left : (zs : List A) → turns zs [] ≡ zs
  none_left [] = refl
  none_left (z ∷ zs) = refl

  -- where either has no items left, the others follow
  either_over : (us vs : List A) → (us ≡ []) ⊎ (vs ≡ []) → turns us vs ≡ us ++ vs
  either_over us vs (inl none) = ap (λ z. turns z vs) none ∙ sym (ap (λ z. z ++ vs) none)
  either_over us vs (inr none) = ap (λ z. turns us z) none ∙ none_left us ∙ sym (append-nil us)
      ∙ sym (ap (λ z. us ++ z) none)

  pub rest_follows : (xs ys order : List A) (n : ℕ) → n ≡ min (length xs) (length ys)
      → order ++ turns (drop n xs) (drop n ys) ≡ turns xs ys → (order ++ drop n xs) ++ drop n ys ≡ turns xs ys
  rest_follows xs ys order n shared before =
      let over : (drop n xs ≡ []) ⊎ (drop n ys ≡ []) = elim (cases_lt (length xs) (length ys)) [
        | inl less ↦ inl (drop_all n xs (omega (arith, shared, less)))
        | inr most ↦ inr (drop_all n ys (omega (arith, shared, most)))
      ] in
      append_assoc order (drop n xs) (drop n ys)
      ∙ ap (λ z. order ++ z) (sym (either_over (drop n xs) (drop n ys) over)) ∙ before

  -- what is left of a list, cut out of it
  cut_rest : (zs : List A) (n : ℕ) → take (length zs - n) (drop n zs) ≡ drop n zs
  cut_rest zs n = let long = length-drop n zs in take_all (length zs - n) (drop n zs) (omega (arith, long))

  pub cut_follows : (xs ys order : List A) (n : ℕ) → n ≡ min (length xs) (length ys)
      → order ++ turns (drop n xs) (drop n ys) ≡ turns xs ys
      → (order ++ take (length xs - n) (drop n xs)) ++ take (length ys - n) (drop n ys) ≡ turns xs ys
  cut_follows xs ys order n shared before = ap (λ z. (order ++ z) ++ take (length ys - n) (drop n ys)) (cut_rest xs n)
      ∙ ap (λ z. (order ++ drop n xs) ++ z) (cut_rest ys n) ∙ rest_follows xs ys order n shared before
