-- Names that C gives, and the field that a refusal names

use Rattle.std.specs.Prelude.{◌==◌}
use Rattle.std.specs.Option.{option_map, option_map_or}
use Rattle.std.proofs.Common.{◌≡◌, ℕ, List, [], ◌∷◌, Bool, true, false, Option, Some, None, length, refl, ap, arith}
use borrow.Author.Tests.{eqb-true}
use Rattle.ws_identity.specs.Names.{capitals}
use Rattle.ws_screen.specs.declared.field.Field.{Field}
use Rattle.ws_c.specs.LiveStations.{IsNameOf}

-- of no byte there is no name
pub named_none : (is_name : List ℕ → Bool) (bytes : List ℕ) → (length bytes == 0) ≡ true → IsNameOf is_name bytes None
named_none is_name [] e = refl
named_none is_name (b ∷ bs) e = absurd (omega (arith, eqb-true (length (b ∷ bs)) 0 e))

-- of others it is these in capitals
pub named_some : (is_name : List ℕ → Bool) (bytes name : List ℕ) → (length bytes == 0) ≡ false
    → is_name (capitals bytes) ≡ true → name ≡ capitals bytes → IsNameOf is_name bytes (Some name)
named_some is_name [] name e good same = absurd (cc)
named_some is_name (b ∷ bs) name e good same = (good, ap Some same)

-- where these are none, there is none
pub named_not : (is_name : List ℕ → Bool) (bytes : List ℕ) (name : Option (List ℕ)) → (length bytes == 0) ≡ false
    → (is_name (capitals bytes) ≡ true → ⊥) → IsNameOf is_name bytes name → ⊥
named_not is_name [] name e bad named = cc
named_not is_name (b ∷ bs) name e bad named = bad named.0

-- the index of the field that was found, or none
pub found_some : (found : Option Field) (start none : ℕ) (index : ℕ → ℕ) → option_map (λ f. f.start) found ≡ Some start
    → option_map_or (λ f. index f.start) found none ≡ index start
found_some None start none index e = absurd (cc)
found_some (Some f) start none index e = ap index (let same : f.start ≡ start = cc in same)

pub found_none : (found : Option Field) (none : ℕ) (index : ℕ → ℕ) → option_map (λ f. f.start) found ≡ None
    → option_map_or (λ f. index f.start) found none ≡ none
found_none None none index e = refl
found_none (Some f) none index e = absurd (cc)
