-- Bytes that are taken one after another

use Rattle.std.proofs.Common.{◌≡◌, ℕ, ◌-◌, List, [], ◌∷◌, ◌++◌, length, take, drop}
use Rattle.std.proofs.Common.{refl, ap, subst, sym, ◌∙◌, arith, append_assoc}
use Rattle.std.proofs.lemmas.List.{append-nil, take_all, length-drop}
use Rattle.ws_c.specs.Pushes.{TakesAll}

module _ {S : Type 0} (Takes : S → ℕ → List ℕ → S → Type 0) where
  -- one more byte
  pub takes_more : (old mid new : S) (bytes : List ℕ) (brought : List ℕ) (byte : ℕ) (reply : List ℕ)
      → TakesAll Takes old bytes brought mid → Takes mid byte reply new
      → TakesAll Takes old (bytes ++ byte ∷ []) (brought ++ reply) new
  takes_more old mid new [] brought byte reply t one = (
    new,
    reply,
    [],
    subst (λ (s : S). Takes s byte reply new) t.0
        one,
    (refl, refl),
    ap (λ (l : List ℕ). l ++ reply) t.1 ∙ sym (append-nil reply),
  )
  takes_more old mid new (b ∷ bs) brought byte reply t one = (
    t.0,
    t.1,
    t.2 ++ reply,
    t.3,
    takes_more t.0 mid new bs t.2 byte reply t.4 one,
    ap (λ (l : List ℕ). l ++ reply) t.5 ∙ append_assoc t.1 t.2 reply,
  )

-- what is left of them
pub rest_is : (bytes : List ℕ) (n : ℕ) → take (length bytes - n) (drop n bytes) ≡ drop n bytes
rest_is bytes n = take_all (length bytes - n) (drop n bytes) (omega (arith, length-drop n bytes))
