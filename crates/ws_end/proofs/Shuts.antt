-- What a call of an end that is shut answers.

use Rattle.ws_end.proofs.Common as C
use C.{◌≡◌, ◌+◌, ◌<◌, ℕ, Option, None, ◌^◌, inl, inr, IsSome, Err, Ok, Result, Refusal, arith}
use Rattle.ws_end.specs.Ends.{IsShut}

module _ {A E : Type 0} (ended : Option Refusal) (taken : ℕ) (why : E) where
  pub shut_fails : (result : Result A E) → (IsSome ended → result ≡ Err why) → (taken + 1 ≡ 2 ^ 64 → result ≡ Err why)
      → IsShut ended taken → result ≡ Err why
  shut_fails result failed full (inl over) = failed over
  shut_fails result failed full (inr all) = full all

  -- one that answers isn't
  pub not_shut : (answer : A) → (IsSome ended → Ok answer ≡ Err why) → (taken + 1 ≡ 2 ^ 64 → Ok answer ≡ Err why)
      → IsShut ended taken → ⊥
  not_shut answer failed full shut = (let e : Ok answer ≡ Err why = shut_fails (Ok answer) failed full shut in cc)

-- nothing leads to an end that is shut, with a byte more
pub none_reached : (ended : Option Refusal) (taken count : ℕ) → ended ≡ None → taken ≡ count → count + 1 < 2 ^ 64
    → IsShut ended taken → ⊥
none_reached ended taken count works counted few (inl over) = (let e = rw works at over in cc)
none_reached ended taken count works counted few (inr all) = omega (arith, counted, few, all)
