-- The last of some that show characters: left out where it shows a blank, else all stay.

use Rattle.ws_printing.proofs.Common.{◌==◌, if◌then◌else◌, ◌≡◌, ◌≢◌, ℕ, List, [], ◌∷◌, ◌++◌, Bool, inl, inr, refl, ap}
use Rattle.ws_printing.proofs.Common.{◌∙◌, eqb_tells, with_first, without_last_blanks}

module _ {A : Type 0} (character : A → ℕ) where
  pub blank_last : (front : List A) (last : A) → character last ≡ 0x20
      → without_last_blanks character (front ++ last ∷ []) ≡ without_last_blanks character front
  blank_last [] last e = ap (λ n. if n == 0x20 then [] else last ∷ []) e
  blank_last (x ∷ front) last e = ap (with_first character x) (blank_last front last e)

  kept_first : (first : A) (front : List A) (last : A) → with_first character first (front ++ last ∷ [])
      ≡ first ∷ (front ++ last ∷ [])
  kept_first first [] last = refl
  kept_first first (x ∷ front) last = refl

  pub shown_last : (front : List A) (last : A) → character last ≢ 0x20
      → without_last_blanks character (front ++ last ∷ []) ≡ front ++ last ∷ []
  shown_last [] last n = elim (eqb_tells (character last) 0x20) [
    | inl e ↦ absurd (n e.1)
    | inr e ↦ ap (λ (b : Bool). if b then [] else last ∷ []) e.0
  ]
  shown_last (x ∷ front) last n = ap (with_first character x) (shown_last front last n) ∙ kept_first x front last
