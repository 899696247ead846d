use Rattle.ws_lasting.proofs.Common as C
use C.{◌≡◌, ℕ, ◌+◌, refl, ap, subst, Ok, Err, Result, Push, More, Whole, Bad, Token, Data, Eor, TelnetToken, Refusal}
use C.{At, Failed, Memory, OnDisplay, LastingOf, LastingStep, IsByteTaken, IsFollowed, IsWordHeard, FootingOn}
use C.{IsTokenStep}

module _ (on : OnDisplay) (old new : LastingOf on) (at : FootingOn on) (byte : ℕ) (word : Push Token)
    (counted : new.taken ≡ old.taken + 1) where
  -- what comes of a byte is what comes of its word
  pub taken_so : (result : Result (LastingStep on.Replied) Refusal)
      → IsTokenStep at.begun byte new.begun word → IsWordHeard on old.counts new at old.taken word result
      → IsByteTaken on old new at byte result
  taken_so (Ok step) t h =
      (h.0, (word, subst (λ x. IsTokenStep at.begun byte x word) h.2.is_begun t, h.1), h.2, h.3)
  taken_so (Err (At place reason)) t h = (h.0, (word, new.begun, t, h.1), counted)
  taken_so (Err Failed) t h = h
  taken_so (Err Memory) t h = h

-- what is followed takes no byte
pub followed : (on : OnDisplay) (old new : LastingOf on) (word : Push Token) (reply : on.Replied)
    (step : LastingStep on.Replied) → IsFollowed on old new word reply step → (new.begun ≡ old.begun) × (new.taken ≡ old.taken)
followed on old new More reply step f = rw f.0 (refl, refl)
followed on old new (Whole (Data b)) reply step f = rw f.0 (refl, refl)
followed on old new (Whole Eor) reply step f = rw f.1 (refl, refl)
followed on old new (Whole (TelnetToken t)) reply step f =
    (ap (λ (z : LastingOf on). z.begun) f.0.same, ap (λ (z : LastingOf on). z.taken) f.0.same)
followed on old new (Bad reason) reply step f = rw f.0 (refl, refl)
