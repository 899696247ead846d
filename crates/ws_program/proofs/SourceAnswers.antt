use Rattle.std.specs.Prelude.{Bool, true, false, None, Result, Err, ◌⊎◌}
use Rattle.std.specs.declared.num.NonZeroU16.{NonZeroU16}
use Rattle.std.proofs.Common.{◌≡◌, ℕ, List, [], inl, inr, refl, ap, ◌∙◌}
use Rattle.ws_code.specs.Device.{Writer, Reader}
use Rattle.ws_code.specs.declared.fault.Fault.{Fault}
use Rattle.ws_code.specs.declared.fault.Fault.TheVariants as device
use Rattle.ws_script.specs.declared.asked.fault.RunFault.{RunFault}
use Rattle.ws_script.specs.declared.asked.fault.RunFault.TheVariants.{Read, Write}
use Rattle.ws_script.specs.declared.asked.sender.Sender.{Sender}
use Rattle.ws_printing.specs.Buffering.{Buffering, buffered_writer}
use Rattle.ws_text.specs.Printed.{Printing, IsPrinted}
use Rattle.ws_program.specs.Actions.{IsCarriedOut}
use Rattle.ws_program.specs.Answering.{sender_parts, of_bytes, run_outcome}
use Rattle.ws_printing.specs.Checking.{check_printing}
use Rattle.ws_program.specs.Streams.{IsHandedOn, at_output, openly, outcome_at}
use Rattle.ws_program.specs.declared.words.command_line.InputAsked.TheVariants.{Check}
use Rattle.ws_program.specs.declared.words.command_line.StreamForm.TheVariants.{Raw}
use Rattle.ws_program.proofs.Buffers.{CanBeCut, carried_last, failed_at, unheld, unchanged, printed_flushed}
use Rattle.ws_program.proofs.Buffers.{printed_unflushed}
use Rattle.ws_program.proofs.Printings.{bytes_cut, bytes_printed, check_cut, show_cut}
use Rattle.ws_printing.specs.Printouts.{printout}
use Rattle.ws_printing.specs.declared.look.Look.{Look}
use Rattle.ws_program.specs.ShownSources.{AreEnough, IsSourceShown, unread_printing}
use Rattle.ws_program.specs.StreamText.{Showing, show_printing, showing}

-- what a check came to that met a fault, and what the program comes to by one
abbrev pub met : Fault → Result Bool Fault
met fault = Err fault

abbrev pub ended : RunFault → Result Bool RunFault
ended fault = Err fault

module _ {S : Type 0} (writer : Writer S) (printing : List ℕ → Printing Bool Fault) (has_output : Bool)
    (bytes : List ℕ) where
  -- this is done with a raw input
  abbrev pub IsRawCarried : S → S → Result Bool RunFault → Type 0
  IsRawCarried from to result =
      IsCarriedOut writer from to (at_output has_output (of_bytes Raw printing bytes)) result

  -- and so what was printed of bytes into a buffer
  pub raw_last : (from mid : Buffering S) (empty : from.held ≡ []) (to : S) (outcome : Result Bool Fault)
      (result : Result Bool RunFault) → IsHandedOn writer mid to has_output (run_outcome outcome) result
      → ((any : List ℕ) → CanBeCut (printing any) device.Write)
      → IsPrinted (buffered_writer writer) from mid (printing bytes) outcome → IsRawCarried from.sink to result
  raw_last from mid empty to outcome result last cut printed =
      carried_last writer from mid empty to has_output (run_outcome outcome) result last (of_bytes Raw printing bytes)
      (bytes_cut Raw printing bytes cut)
      (bytes_printed (buffered_writer writer) from mid Raw printing bytes bytes bytes refl refl outcome printed)

module _ {S : Type 0} (writer : Writer S) (cut : NonZeroU16) (sender : Sender) where
  abbrev check_of : List ℕ → Printing Bool Fault
  check_of bytes = check_printing (sender_parts sender).rules bytes

  -- a check of bytes is one of a raw input
  raw_checked : (from to : S) (has_output : Bool) (bytes : List ℕ) (result : Result Bool RunFault)
      → IsRawCarried writer check_of has_output bytes from to result
      → IsCarriedOut writer from to (openly has_output (Check None Raw cut sender) bytes) result
  raw_checked from to true bytes result h = h
  raw_checked from to false bytes result h = h

  -- What a check of a source comes to behind a buffer. Its source gave bytes of which this is known, or failed.
  pub check_last : (from mid : Buffering S) (empty : from.held ≡ []) (to : S) (has_output : Bool) (HasFailed : Type 0)
      (HasGiven : List ℕ → Type 0) (outcome : Result Bool Fault) (result : Result Bool RunFault)
      → IsHandedOn writer mid to has_output (run_outcome outcome) result
      → ((outcome ≡ met device.Read) × (mid ≡ from) × HasFailed) ⊎ ((bytes : List ℕ) × HasGiven bytes
      × IsPrinted (buffered_writer writer) from mid (check_of bytes) outcome)
      → ((result ≡ ended Read) × (to ≡ from.sink) × HasFailed) ⊎ ((bytes : List ℕ) × HasGiven bytes
      × IsCarriedOut writer from.sink to (openly has_output (Check None Raw cut sender) bytes) result)
  check_last from mid empty to has_output HasFailed HasGiven outcome result (inl e) (inl h) = inl (
    e.2 ∙ ap (λ (z : Result Bool Fault). outcome_at has_output (run_outcome z)) h.0 ∙ failed_at has_output Read,
    unchanged writer from mid empty to e.0 e.1 h.1,
    h.2,
  )
  check_last from mid empty to has_output HasFailed HasGiven outcome result (inr e) (inl h) =
      absurd (unheld writer from mid empty to e.0 h.1)
  check_last from mid empty to has_output HasFailed HasGiven outcome result e (inr h) = inr (
    h.0,
    h.1,
    raw_checked from.sink to has_output h.0 result (raw_last writer check_of has_output h.0 from mid empty to outcome
        result e (check_cut (sender_parts sender).rules) h.2),
  )

-- What came of showing a source behind a buffer.

module _ {R Place U : Type 0} (reader : Reader R) (start end : R) (way : Showing Place U) where
  module _ {S : Type 0} (writer : Writer S) (from mid : Buffering S) (empty : from.held ≡ []) (to : S)
      (has_output : Bool) (outcome : Result Bool Fault) (result : Result Bool RunFault)
      (last : IsHandedOn writer mid to has_output (run_outcome outcome) result) where
    enough_last : (bytes : List ℕ) → AreEnough way bytes (printout (buffered_writer writer) from mid)
        → AreEnough way bytes (printout writer from.sink to)
    enough_last bytes (inl h) = inl h
    enough_last bytes (inr h) = inr (on last)
      where
        on : IsHandedOn writer mid to has_output (run_outcome outcome) result
            → (fault : Fault) × IsPrinted writer from.sink to (show_printing way bytes) (Err fault)
        on (inl e) = (h.0, printed_flushed writer from mid empty to e.0 e.1 (show_printing way bytes) (met h.0) h.1)
        on (inr e) = (
          device.Write,
          printed_unflushed writer from mid empty to e.0 device.Write (show_printing way bytes)
              (show_cut way.rules way.view bytes) (met h.0) h.1,
        )

    shown_last : (bytes : List ℕ) → IsPrinted (buffered_writer writer) from mid (show_printing way bytes) outcome
        → IsRawCarried writer (show_printing way) has_output bytes from.sink to result
    shown_last bytes h = raw_last writer (show_printing way) has_output bytes from mid empty to outcome result last
        (show_cut way.rules way.view) h

    pub show_last : IsSourceShown reader start end (printout (buffered_writer writer) from mid) way
        (λ printing bytes. IsPrinted (buffered_writer writer) from mid (printing bytes) outcome)
        → IsSourceShown reader start end (printout writer from.sink to) way
        (λ printing bytes. IsRawCarried writer printing has_output bytes from.sink to result)
    show_last (bytes, inl h) = (
      bytes,
      inl (
        h.0,
        raw_last writer (unread_printing way) has_output bytes from mid empty to outcome result last
            (λ any text met h. (refl, (met, h))) h.1,
      ),
    )
    show_last (bytes, inr (inl all, h)) = (bytes, inr (inl all, shown_last bytes h))
    show_last (bytes, inr (inr enough, h)) = (
      bytes,
      inr (inr (enough.0, enough.1, enough_last bytes enough.2), shown_last bytes h),
    )

-- what came of showing what a sender's source gives
abbrev pub IsSentShown : {R S : Type 0} → Reader R → R → R → Writer S → S → S → Look → Result Bool Fault → Sender
    → Type 0
IsSentShown reader start end writer from to look result sender =
    IsSourceShown reader start end (printout writer from to) (showing (sender_parts sender).rules ((sender_parts sender).view look))
    (λ printing bytes. IsPrinted writer from to (printing bytes) result)
