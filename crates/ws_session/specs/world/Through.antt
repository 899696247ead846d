-- An end after bytes that came: it goes on, or it has refused one of them

use Rattle.std.specs.Prelude.{◌≡◌, ℕ, List, ◌∷◌, ◌++◌, Option, Some, None}
use Rattle.ws_end.specs.declared.refusal.Refusal.{Refusal}
use Rattle.ws_end.specs.Acts.{all_came}
use Rattle.ws_end.specs.Behaviour.{Behaviour}

module _ {E Request EndEvent : Type 0} (behaviour : Behaviour E Request EndEvent) where
  -- the bytes led on up to one that it refused; those after it changed nothing
  pub record HasRefusedIn (old : E) (bytes written : List ℕ) (end_events : List EndEvent) (why : Refusal)
      (new : E) : Type 0 where
    pub before : List ℕ
    pub prefix : List ℕ
    pub byte : ℕ
    pub after : List ℕ
    pub split : bytes ≡ before ++ (prefix ++ byte ∷ after)
    pub last : E
    pub led : behaviour.traces old (all_came before) written end_events last
    pub refused : behaviour.refuses last prefix byte why new
    pub is_over : behaviour.over new

  -- an end after bytes: what it has written and told at them, and why it goes on no more, if it doesn't
  abbrev pub Through : E → List ℕ → List ℕ → List EndEvent → Option Refusal → E → Type 0
  Through old bytes written end_events None new = behaviour.traces old (all_came bytes) written end_events new
  Through old bytes written end_events (Some why) new = HasRefusedIn old bytes written end_events why new
