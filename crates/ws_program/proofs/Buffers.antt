use Rattle.std.specs.Prelude.{Bool, true, false, Result, Ok, Err}
use Rattle.std.proofs.Common.{◌≡◌, ℕ, List, [], length, refl, sym, ap, ◌∙◌, subst, arith, inl, inr}
use Rattle.ws_code.specs.Device.{Writer, WentOut, FailedWithin}
use Rattle.ws_text.specs.Printed.{Printing, IsPrinted}
use Rattle.ws_printing.specs.Buffering.{Buffering, buffered_writer}
use Rattle.ws_printing.proofs.Buffers.{flushed_out, flush_fails, fails_behind}
use Rattle.ws_script.specs.declared.asked.fault.RunFault.{RunFault}
use Rattle.ws_script.specs.declared.asked.fault.RunFault.TheVariants.{Write}
use Rattle.ws_program.specs.Actions.{Action, IsCarriedOut}
use Rattle.ws_program.specs.Streams.{IsHandedOn, at_output, outcome_at}

-- What is printed into a buffer, and then goes out.

-- a sink may fail within each text, with this fault
abbrev pub CanBeCut : {A E : Type 0} → Printing A E → E → Type 0
CanBeCut {A} {E} printing failed = (text : List ℕ) (outcome : Result A E) → printing.Ends text outcome
    → printing.Cut text failed

-- a command that met a fault comes to it, with an output or without
pub failed_at : (has_output : Bool) (fault : RunFault) → outcome_at has_output (Err fault) ≡ Err fault
failed_at true fault = refl
failed_at false fault = refl

-- what is carried out with an output, or without one
carried_at : {S : Type 0} (writer : Writer S) (from to : S) (action : Action Bool RunFault) (has_output : Bool)
    (outcome : Result Bool RunFault) → IsCarriedOut writer from to action outcome
    → IsCarriedOut writer from to (at_output has_output action) (outcome_at has_output outcome)
carried_at writer from to action true outcome h = h
carried_at writer from to action false (Ok accepted) (inl h) = absurd h
carried_at writer from to action false (Ok accepted) (inr h) = inr (inl (h.0, (Ok accepted, h.1, refl), h.2))
carried_at writer from to action false (Err fault) (inl h) = inl h
carried_at writer from to action false (Err fault) (inr (inl h)) = inr (inl (h.0, (Err fault, h.1, refl), h.2))
carried_at writer from to action false (Err fault) (inr (inr h)) = inr (inr h)

module _ {S : Type 0} (writer : Writer S) (from mid : Buffering S) (empty : from.held ≡ []) (to : S) where
  -- nothing is held, since nothing was written
  none_held : mid ≡ from → mid.held ≡ []
  none_held same = ap (λ (b : Buffering S). b.held) same ∙ empty

  none_fails : mid.held ≡ [] → FailedWithin writer mid.sink to mid.held → ⊥
  none_fails none f = omega (arith, f.within, ap length none)

  pub unheld : FailedWithin writer mid.sink to mid.held → mid ≡ from → ⊥
  unheld failed same = none_fails (none_held same) failed

  module _ (out : WentOut writer mid.sink to mid.held) (idle : mid.held ≡ [] → to ≡ mid.sink) where
    pub unchanged : mid ≡ from → to ≡ from.sink
    unchanged same = idle (none_held same) ∙ ap (λ (b : Buffering S). b.sink) same

    fails_too : (text : List ℕ) → FailedWithin (buffered_writer writer) from mid text
        → FailedWithin writer from.sink to text
    fails_too text f =
        let g = fails_behind writer from empty mid text f in
        subst (λ (s : S). FailedWithin writer from.sink s text) (sym (idle g.1)) g.0

    -- the rest goes out
    pub printed_flushed : {A E : Type 0} (printing : Printing A E) (outcome : Result A E)
        → IsPrinted (buffered_writer writer) from mid printing outcome
        → IsPrinted writer from.sink to printing outcome
    printed_flushed printing (Ok made) h = (h.0, h.1, flushed_out writer from empty mid to h.0 h.2 out)
    printed_flushed printing (Err fault) (inl h) = inl (h.0, h.1, flushed_out writer from empty mid to h.0 h.2 out)
    printed_flushed printing (Err fault) (inr h) = inr (h.0, h.1, fails_too h.0 h.2)

    pub carried_flushed : {A E : Type 0} (action : Action A E) (outcome : Result A E)
        → IsCarriedOut (buffered_writer writer) from mid action outcome
        → IsCarriedOut writer from.sink to action outcome
    carried_flushed action (Ok made) (inl h) = absurd h
    carried_flushed action (Err fault) (inl h) = inl (unchanged h.0, h.1)
    carried_flushed action outcome (inr h) = inr (printed_flushed action.prints outcome h)

  -- the rest doesn't go out
  module _ {A E : Type 0} (failed : FailedWithin writer mid.sink to mid.held) (fault : E) where
    pub printed_unflushed : (printing : Printing A E) → CanBeCut printing fault → (outcome : Result A E)
        → IsPrinted (buffered_writer writer) from mid printing outcome
        → IsPrinted writer from.sink to printing (Err fault)
    printed_unflushed printing cut (Ok made) h =
        inr (h.0, cut h.0 (Ok made) h.1, flush_fails writer from empty mid to h.0 h.2 failed)
    printed_unflushed printing cut (Err met) (inl h) =
        inr (h.0, cut h.0 (Err met) h.1, flush_fails writer from empty mid to h.0 h.2 failed)
    printed_unflushed printing cut (Err met) (inr h) =
        absurd (none_fails (fails_behind writer from empty mid h.0 h.2).1 failed)

    pub carried_unflushed : (action : Action A E) → CanBeCut action.prints fault → (outcome : Result A E)
        → IsCarriedOut (buffered_writer writer) from mid action outcome
        → IsCarriedOut writer from.sink to action (Err fault)
    carried_unflushed action cut (Ok made) (inl h) = absurd h
    carried_unflushed action cut (Err met) (inl h) = absurd (unheld failed h.0)
    carried_unflushed action cut outcome (inr h) = inr (printed_unflushed action.prints cut outcome h)

  -- it is handed on at the end, with an output or without
  pub carried_last : (has_output : Bool) (outcome result : Result Bool RunFault)
      → IsHandedOn writer mid to has_output outcome result → (action : Action Bool RunFault)
      → CanBeCut action.prints Write → IsCarriedOut (buffered_writer writer) from mid action outcome
      → IsCarriedOut writer from.sink to (at_output has_output action) result
  carried_last has_output outcome result (inl e) action cut h =
      subst (IsCarriedOut writer from.sink to (at_output has_output action)) (sym e.2)
      (carried_at writer from.sink to action has_output outcome (carried_flushed e.0 e.1 action outcome h))
  carried_last has_output outcome result (inr e) action cut h =
      subst (IsCarriedOut writer from.sink to (at_output has_output action)) (failed_at has_output Write ∙ sym e.1)
      (carried_at writer from.sink to action has_output (Err Write) (carried_unflushed e.0 Write action cut outcome h))
