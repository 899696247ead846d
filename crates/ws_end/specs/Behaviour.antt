-- The behaviour of an end of a session

use Rattle.std.specs.Prelude.{◌≡◌, ◌≢◌, ◌-◌, ◌<◌, ◌≤◌, ◌++◌, ◌∷◌, ℕ, List, Err, IfOk, IfErr, OnErr, MatchResult, length}
use Rattle.std.specs.Prelude.{take}
use Rattle.ws_end.specs.declared.end_step.EndFed.{EndFed}
use Rattle.ws_end.specs.declared.refusal.Refusal.{Refusal}
use Rattle.ws_end.specs.declared.refusal.Refusal.TheVariants.{Failed}
use Rattle.ws_end.specs.Acts.{Act, all_came, as_list}

-- what an end does at what comes to it and is done at it
pub record Behaviour (E Request Event : Type 0) : Type 1 where
  -- The acts lead from the one state of the end to the other. In them it wrote these bytes, and told these. At one that
  -- is shut nothing comes of them: no byte is among them, and it stays as it is.
  pub traces : E → List (Act Request) → List ℕ → List Event → E → Type 0
  -- It takes these bytes, writes and tells nothing at them, and refuses the one after them. One that is shut refuses
  -- the first, since it is.
  pub refuses : E → List ℕ → ℕ → Refusal → E → Type 0
  -- it takes these bytes, and writes and tells nothing at them
  pub silent : E → List ℕ → Type 0
  -- it has ended, at a byte that it refused
  pub over : E → Type 0

-- What a piece gives an end: it takes bytes of it, up to and with the first at which it writes or tells something or that
-- it refuses, or some before it.
pub record TakesSome {E Request Event R : Type 0} (behaviour : Behaviour E Request Event) (written : E → R → List ℕ)
    (old : E) (piece : List ℕ) (new : E) (prefix : EndFed Event R) : Type 0 where
  -- how much of the piece is used
  pub within : prefix.used ≤ length piece
  pub some : MatchResult prefix.step (λ step. 0 < prefix.used) (λ why. why ≢ Failed → 0 < prefix.used)
  -- what it brings, and that nothing came before its last byte
  pub fed : IfOk prefix.step (λ step. behaviour.traces old (all_came (take prefix.used piece)) (written new step.reply)
      (as_list step.event) new)
  pub first : IfOk prefix.step (λ step. (n : ℕ) → n < prefix.used → behaviour.silent old (take n piece))
  -- which byte is refused: the last that is used; an end that is shut uses none, and refuses the first
  pub refused : IfErr prefix.step (λ refusal. (byte : ℕ) × (rest : List ℕ)
      × (piece ≡ take (prefix.used - 1) piece ++ byte ∷ rest)
      × behaviour.refuses old (take (prefix.used - 1) piece) byte refusal new)
  pub over : behaviour.over old → (prefix.step ≡ Err Failed) × (prefix.used ≡ 0) × (new ≡ old)
  pub after : OnErr prefix.step (behaviour.over new)
