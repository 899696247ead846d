-- What a line can say by its first word.

use Rattle.std.specs.Prelude.{codes, Option, None, Some, MatchBool, IfErr, IsErrAnd, Result}
use Rattle.std.specs.Str.{bytes_eq}
use Rattle.std.proofs.Common.{◌≡◌, ℕ, List, [], ◌∷◌, ◌++◌, Bool, true, false, refl, sym, ap, ◌∙◌, subst}
use Rattle.std.proofs.lemmas.Result.{err_from_is_err_and}
use Rattle.std.proofs.lemmas.Slice.Eq.{bytes_eq-Decides}
use Rattle.ws_printing.specs.declared.script.ScriptFault.{ScriptFault}
use Rattle.ws_printing.specs.declared.script.ScriptFault.TheVariants.{Memory}
use Rattle.ws_printing.specs.script.ScriptFaults.{IsLineFault, has_no_blank}
use Rattle.ws_printing.proofs.Scripts.{fault_on, only_memory}
use Rattle.ws_printing.proofs.ScriptWords.{blank_inside, split_unique}

-- what is said where a test fails, and where it doesn't
pick : (b : Bool) (A B : Type 0) → (b ≡ true → ⊥) → (B → ⊥) → MatchBool b A B → ⊥
pick true A B untrue other h = untrue refl
pick false A B untrue other h = other h

-- what a word says by a table, and with none of its words
abbrev pub at : Type 0 → List ℕ → List (List ℕ × Type 0) → Type 0
at other word [] = other
at other word ((name, says) ∷ rows) = MatchBool (bytes_eq word name) says (at other word rows)

-- of a word that is none of the table's, an argument for each of these
abbrev pub Unless : Type 0 → List ℕ → List (List ℕ × Type 0) → Type 0
Unless R word [] = R
Unless R word ((name, says) ∷ rows) = (word ≡ name → ⊥) → Unless R word rows

pub unless : {R : Type 0} (other : Type 0) (word : List ℕ) (rows : List (List ℕ × Type 0))
    → (((other → ⊥) → at other word rows → ⊥) → R) → Unless R word rows
unless other word [] k = k (λ none h. none h)
unless other word ((name, says) ∷ rows) k = λ isnt. unless other word rows (λ f. k (λ none.
    pick (bytes_eq word name) says (at other word rows) (λ e. isnt ((bytes_eq-Decides word name).0 e)) (f none)))

-- a first word with the words after it, where a blank is there
abbrev pub spelled : List ℕ → Option (List ℕ) → List ℕ
spelled name None = name
spelled name (Some words) = (name ++ codes " ") ++ words

-- a line says something by its first word and what stands after it
abbrev pub Says : (Option (List ℕ) → List ℕ → Type 0) → List ℕ → Type 0
Says IsSaid line = (name : List ℕ) × (behind : Option (List ℕ)) × (has_no_blank name ≡ true)
    × (line ≡ spelled name behind) × IsSaid behind name

module _ (IsSaid : Option (List ℕ) → List ℕ → Type 0) where
  pub of_command : (line command words : List ℕ) → line ≡ (command ++ codes " ") ++ words → has_no_blank command ≡ true
      → Says IsSaid line → IsSaid (Some words) command
  of_command line command words is free s = go s.1 s.3 s.4
    where
      go : (behind : Option (List ℕ)) → line ≡ spelled s.0 behind → IsSaid behind s.0 → IsSaid (Some words) command
      go None e h = absurd (blank_inside command words (ap has_no_blank (sym is ∙ e) ∙ s.2))
      go (Some rest) e h =
          let u = split_unique command s.0 words rest free s.2 (sym is ∙ e) in
          subst (IsSaid (Some words)) (sym u.0) (subst (λ z. IsSaid (Some z) s.0) (sym u.1) h)

  -- nothing is said by a first word with which nothing is
  pub unsaid : {Y : Type 0} (Q : Y → Type 0) (line command words name : List ℕ) → line ≡ (command ++ codes " ") ++ words
      → has_no_blank command ≡ true → command ≡ name → ((y : Y) → Q y → Says IsSaid line)
      → (IsSaid (Some words) name → ⊥) → (y : Y) → Q y → ⊥
  unsaid Q line command words name is free named says none y m =
      none (subst (IsSaid (Some words)) named (of_command line command words is free (says y m)))

-- a growth was refused, where it is told
pub refused : {X A T : Type 0} (P : X → Type 0) (told : Result T ScriptFault) (fault : ScriptFault)
    → IsErrAnd told (λ y. y ≡ fault) → fault ≡ Memory → A → IfErr told (IsLineFault P A)
refused P told fault err is good =
    let p = err_from_is_err_and told err in rw (p.1, p.2) (only_memory P fault is good)

-- a fault in a part of a line as one of the line, where it is told
pub told_on : {X Y A B T : Type 0} (P : X → Type 0) (Q : Y → Type 0) (told : Result T ScriptFault) (fault : ScriptFault)
    → IsErrAnd told (λ y. y ≡ fault) → (((x : X) → P x → ⊥) → (y : Y) → Q y → ⊥) → (A → B) → IsLineFault P A fault
    → IfErr told (IsLineFault Q B)
told_on P Q told fault err f good h =
    let p = err_from_is_err_and told err in rw (p.1, p.2) (fault_on P Q fault f good h)
