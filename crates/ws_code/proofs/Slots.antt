use Rattle.std.proofs.Common.{◌≡◌, List, [], ◌∷◌, ap, ◌⊎◌, inl, inr, Option, Some, None}
use Rattle.ws_code.specs.Keep.{holds_last}
use Rattle.ws_code.specs.declared.keep.Kept.TheVariants.{GoOn, Enough}
use Rattle.ws_code.proofs.Lists.{one_last}

-- A slot that keeps one unit.

module _ {U : Type 0} where
  -- a slot has enough with each unit
  pub only_enough : (more : List U) → (more ≡ []) ⊎ (GoOn ≡ Enough) → more ≡ []
  only_enough more (inl e) = e
  only_enough more (inr e) = cc

  pub slot_is : (slot : Option U) (unit : U) → holds_last slot (unit ∷ []) → slot ≡ Some unit
  slot_is None unit h = absurd (let e : unit ∷ [] ≡ [] = h in cc)
  slot_is (Some u) unit h = ap Some (one_last _ _ _ h.1).1
