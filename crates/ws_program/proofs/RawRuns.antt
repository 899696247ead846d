use Rattle.std.specs.Prelude.{Bool, true, false, Option, None, Result, Ok, Err, ◌⊎◌}
use Rattle.std.specs.declared.num.NonZeroU16.{NonZeroU16}
use Rattle.std.proofs.Common.{◌≡◌, ℕ, List, inl, inr, refl, Bor}
use Rattle.ws_code.specs.Device.{Reader, Writer}
use Rattle.ws_script.specs.declared.asked.fault.RunFault.{RunFault}
use Rattle.ws_script.specs.declared.asked.fault.RunFault.TheVariants.{Read}
use Rattle.ws_script.specs.declared.asked.fault.ToldFault.{ToldFault}
use Rattle.ws_script.specs.declared.asked.fault.ToldFault.TheVariants as told
use Rattle.ws_script.specs.declared.asked.open_streams.OpenStreams.{OpenStreams}
use Rattle.ws_script.specs.declared.asked.sender.Sender.{Sender}
use Rattle.ws_printing.specs.Printouts.{printout}
use Rattle.ws_printing.specs.declared.look.Look.{Look}
use Rattle.ws_program.specs.Actions.{IsCarriedOut}
use Rattle.ws_program.specs.Answering.{sender_parts}
use Rattle.ws_program.specs.Runs.{HasRunInput, IsFaultOfInput, IsRawDone}
use Rattle.ws_program.specs.ShownSources.{IsSourceShown, unread_printing}
use Rattle.ws_program.specs.StreamText.{Showing, show_printing, showing}
use Rattle.ws_program.specs.Streams.{closed_outcome, openly}
use Rattle.ws_program.specs.FileFaults.{IsToldOf}
use Rattle.ws_program.specs.declared.words.command_line.InputAsked.{InputAsked}
use Rattle.ws_program.specs.declared.words.command_line.InputAsked.TheVariants.{Check, Show}
use Rattle.ws_program.specs.declared.words.command_line.StreamForm.TheVariants.{Raw}
use Rattle.ws_program.proofs.SourceAnswers.{IsRawCarried, ended}

-- What is done with raw bytes while they are read.

module _ {S : Type 0} (writer : Writer S) (from to : S) (streams : OpenStreams) where
  module _ (file : Option (Bor (List ℕ))) (sender : Sender) where
    -- a check of bytes isn't another one where they come from a file
    of_file : (cut : NonZeroU16) (has_output : Bool) (bytes : List ℕ) (result : Result Bool RunFault)
        → IsCarriedOut writer from to (openly has_output (Check None Raw cut sender) bytes) result
        → IsCarriedOut writer from to (openly has_output (Check file Raw cut sender) bytes) result
    of_file cut true bytes result h = h
    of_file cut false bytes result h = h

    pub raw_checked : (cut : NonZeroU16) (HasFailed : Type 0) (HasGiven : List ℕ → Type 0)
        (result : Result Bool RunFault) → ((result ≡ ended Read) × (to ≡ from) × HasFailed)
        ⊎ ((bytes : List ℕ) × HasGiven bytes
        × IsCarriedOut writer from to (openly streams.output (Check None Raw cut sender) bytes) result)
        → IsRawDone (printout writer from to) streams (Check file Raw cut sender) result
    raw_checked cut HasFailed HasGiven result (inl h) = rw h.0 (inl (inl (h.1, inl refl)))
    raw_checked cut HasFailed HasGiven result (inr h) = inr (h.0, of_file cut streams.output h.0 result h.2)

    -- a show of bytes
    module _ (look : Look) where
      abbrev way_of : Showing (sender_parts sender).Place (sender_parts sender).Sent
      way_of = showing (sender_parts sender).rules ((sender_parts sender).view look)

      shown_openly : (has_output : Bool) (bytes : List ℕ) (result : Result Bool RunFault)
          → IsRawCarried writer (show_printing way_of) has_output bytes from to result
          → IsCarriedOut writer from to (openly has_output (Show file Raw sender look) bytes) result
      shown_openly true bytes result h = h
      shown_openly false bytes result h = h

      -- which doesn't end well where its source failed
      not_well : (has_output : Bool) (bytes : List ℕ) (accepted : Bool)
          → IsRawCarried writer (unread_printing way_of) has_output bytes from to (Ok accepted) → ⊥
      not_well has_output bytes accepted (inl h) = h
      not_well true bytes accepted (inr h) = let e = h.1.2.1.1 in let f = h.1.2.2 in cc
      not_well false bytes accepted (inr h) = closed h.1.0 h.1.2
        where
          closed : (met : Result Bool RunFault) → Ok accepted ≡ closed_outcome met → ⊥
          closed (Ok made) e = cc
          closed (Err fault) e = cc

      pub raw_shown : {R : Type 0} (reader : Reader R) (start end : R) (result : Result Bool RunFault)
          → IsSourceShown reader start end (printout writer from to) way_of
          (λ printing bytes. IsRawCarried writer printing streams.output bytes from to result)
          → IsRawDone (printout writer from to) streams (Show file Raw sender look) result
      raw_shown reader start end (Ok accepted) (bytes, inl h) = absurd (not_well streams.output bytes accepted h.1)
      raw_shown reader start end (Err why) (bytes, inl h) = inl (inr (bytes, h.1))
      raw_shown reader start end result (bytes, inr h) = inr (bytes, shown_openly streams.output bytes result h.1)

  -- of raw bytes
  pub raw_done : (asked : InputAsked) (accepted : Bool)
      → IsRawDone (printout writer from to) streams asked (Ok accepted)
      → HasRunInput (printout writer from to) streams asked accepted
  raw_done asked accepted (inl h) = absurd h
  raw_done asked accepted (inr h) = h

  pub raw_told : (asked : InputAsked) (why : RunFault) (fault : ToldFault)
      → ((input : List ℕ) → IsToldOf asked input fault why)
      → IsRawDone (printout writer from to) streams asked (Err why) → fault ≡ told.Run why
      → IsFaultOfInput (printout writer from to) streams asked fault
  raw_told asked why fault plain (inl h) e = inl (why, h, e)
  raw_told asked why fault plain (inr h) e = inr (why, (h.0, h.1, plain h.0))
