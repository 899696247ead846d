use Rattle.std.proofs.Common.{◌≡◌, ℕ, List, [], ◌∷◌, ◌++◌, refl, sym, ap, ◌∙◌, append_assoc, inl, inr}
use Rattle.std.proofs.lemmas.List.{append-nil}
use Rattle.ws_code.specs.Code.{Rules, IsChain, IsUnfinished, place_after, spelling_of, Stands}
use Rattle.ws_code.proofs.CodeLaws.{Begins, one_begins}
use Rattle.ws_code.proofs.Lists.{both_empty}

-- A front of the spelling of a chain, cut into units.

-- A prefix of the spelling of a chain is units and an unfinished one.
pub record CutAt {Place U : Type 0} (rules : Rules Place U) (place : Place) (bytes : List ℕ) : Type 0 where
  pub units : List U
  pub begun : List ℕ
  pub chain : IsChain rules place units
  pub more : IsUnfinished rules (place_after rules place units) begun
  pub spelled : spelling_of rules units ++ begun ≡ bytes

module _ {Place U : Type 0} (rules : Rules Place U) (begins : Begins rules) where
  cut_inside : (place : Place) (u : U) (x left : List ℕ) → Stands rules place u → rules.spelling u ≡ x ++ left
      → CutAt rules place x
  cut_inside place u x [] s e = record {
    units = u ∷ [];
    begun = [];
    chain = (s, tt);
    more = begins (rules.after u);
    spelled = append-nil _ ∙ append-nil (rules.spelling u) ∙ e ∙ append-nil x;
  }
  cut_inside place u x (next ∷ left) s e = record {
    units = [];
    begun = x;
    chain = tt;
    more = record { unit = u; next = next; rest = left; stands = s; spelled = e };
    spelled = refl;
  }

  pub cut_at : (place : Place) (us : List U) (x z : List ℕ) → IsChain rules place us → spelling_of rules us ≡ x ++ z
      → CutAt rules place x
  cut_at place [] x z c e =
      record { units = []; begun = []; chain = tt; more = begins place; spelled = sym (both_empty x z e).0 }
  cut_at place (u ∷ us) x z c e = elim (one_begins x (rules.spelling u) z (spelling_of rules us) (sym e)) [
    | inl p ↦ cut_inside _ u x _ c.0 p.1
    | inr p ↦ (let found = cut_at (rules.after u) us p.0 z c.1 p.2 in
        record {
          units = u ∷ found.units;
          begun = found.begun;
          chain = (c.0, found.chain);
          more = found.more;
          spelled = append_assoc (rules.spelling u) (spelling_of rules found.units) found.begun
              ∙ ap (λ l. rules.spelling u ++ l) found.spelled ∙ sym p.1;
        })
  ]
