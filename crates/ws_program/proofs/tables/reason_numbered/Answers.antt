use Rattle.std.specs.Prelude.{Bool, true, false, cond, Some, find, unwrap_or, ◌↔◌, ◌==◌}
use Rattle.std.proofs.Common.{◌≡◌, ℕ, List, [], ◌∷◌, refl, ap, subst}
use Rattle.std.proofs.lemmas.Bool.{eqb-true}
use Rattle.ws_code.specs.Reason.{number_of}
use Rattle.ws_code.specs.declared.reason.Reason.{Reason}
use Rattle.ws_code.specs.declared.reason.Reason.TheVariants.{BadCommand}
use Rattle.ws_program.specs.Tables.{all_reasons}
use Rattle.ws_program.proofs.tables.reason_numbered.Goals as goal

-- A reason by its number.

module _ {X : Type 0} (p : X → Bool) (x : X) where
  -- what is found passes
  find_passes : (xs : List X) → find p xs ≡ Some x → p x ≡ true
  find_passes [] e = absurd (cc)
  find_passes (y ∷ ys) e = on (p y) refl e (find_passes ys)
    where
      on : (b : Bool) → p y ≡ b → cond b (Some y) (find p ys) ≡ Some x → (find p ys ≡ Some x → p x ≡ true)
          → p x ≡ true
      on true is h rest = subst (λ z. p z ≡ true) (ap (λ o. unwrap_or o x) h) is
      on false is h rest = rest h

-- each reason is found by its number
found : (reason : Reason) → find (λ r. number_of r == number_of reason) all_reasons ≡ Some reason
found BadCommand = refl
found reason = refl

exactly : (number : ℕ) (reason : Reason)
    → (find (λ r. number_of r == number) all_reasons ≡ Some reason) ↔ (number_of reason ≡ number)
exactly number reason = (
  λ e. eqb-true (number_of reason) number (find_passes (λ r. number_of r == number) reason all_reasons e),
  λ e. subst (λ n. find (λ r. number_of r == n) all_reasons ≡ Some reason) e (found reason),
)

pub returns : goal.returns
returns c = λ reason. rw c.first_numbered.ensures (exactly c.args.number reason)
