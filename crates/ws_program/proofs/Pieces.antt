use Rattle.std.specs.Str.Lines.{lines}
use Rattle.std.specs.Prelude.{Bool, Result, Ok, Err}
use Rattle.std.proofs.Common.{◌≡◌, ℕ, ◌+◌, ◌<◌, ◌≤◌, List, [], ◌∷◌, ◌++◌, length, refl, sym, ap, ◌∙◌, subst, arith}
use Rattle.std.proofs.Common.{◌⊎◌, inl, inr, append_assoc, length-append}
use Rattle.std.proofs.lemmas.List.{append-nil}
use Rattle.ws_code.specs.Device.{Writer, WentOut, FailedWithin}
use Rattle.ws_code.specs.declared.fault.Fault.{Fault}
use Rattle.ws_code.specs.declared.fault.Fault.TheVariants as device
use Rattle.ws_script.specs.asked.RunFaults.{run_fault}
use Rattle.ws_script.specs.declared.asked.fault.RunFault.{RunFault}
use Rattle.ws_trace.specs.Dialogues.{IsDialogue, IsTooLong}
use Rattle.ws_trace.specs.Reading.{IsCountFault}
use Rattle.ws_trace.specs.DialogueText.{dialogue_text}
use Rattle.ws_trace.specs.TraceText.{is_unrefused}
use Rattle.ws_trace.specs.declared.dialogue.Dialogue.{Dialogue}
use Rattle.ws_trace.specs.declared.piece.Piece.{Piece}
use Rattle.ws_trace.specs.declared.trace_text.TraceForm.{TraceForm}
use Rattle.ws_program.specs.Actions.{IsCarriedOut}
use Rattle.ws_program.specs.Recorded.{AreSent, IsFirstOther, IsOtherLine, piece_of}
use Rattle.ws_program.specs.Traced.{AreRecorded, IsPieceOf, IsUntraced, dialogue_action, trace_action}
use Rattle.ws_program.specs.declared.words.command_line.RecordedEnd.{RecordedEnd}

-- The pieces of a recording, line by line.

-- what an end sent by the same lines
sent_of : (end : RecordedEnd) (ls : List (List ℕ)) (pieces : List Piece) → AreRecorded ls pieces
    → (bytes : List ℕ) × AreSent end ls bytes
sent_of end [] [] h = ([], refl)
sent_of end [] (piece ∷ pieces) h = absurd h
sent_of end (line ∷ ls) [] h = absurd h
sent_of end (line ∷ ls) (piece ∷ pieces) h =
    let more = sent_of end ls pieces h.1 in (
      piece_of end h.0.sender piece.bytes.items ++ more.0,
      (h.0.sender, piece.bytes.items, more.0, h.0.said, more.1, refl),
    )

recorded_more : (ls : List (List ℕ)) (pieces : List Piece) (line : List ℕ) (piece : Piece) → AreRecorded ls pieces
    → IsPieceOf line piece → AreRecorded (ls ++ line ∷ []) (pieces ++ piece ∷ [])
recorded_more [] [] line piece h l = (l, tt)
recorded_more [] (p ∷ pieces) line piece h l = absurd h
recorded_more (first ∷ ls) [] line piece h l = absurd h
recorded_more (first ∷ ls) (p ∷ pieces) line piece h l = (h.0, recorded_more ls pieces line piece h.1 l)

-- so many lines of a text are read, and these are their pieces
pub record PiecesSoFar (text rest : List ℕ) (number : ℕ) (pieces : List Piece) : Type 0 where
  pub before : List (List ℕ)
  pub split : lines text ≡ before ++ lines rest
  pub recorded : AreRecorded before pieces
  pub counted : number ≡ length before
  pub few : length before + length rest ≤ length text

module _ (text rest behind line : List ℕ) (number : ℕ) (pieces : List Piece) (s : PiecesSoFar text rest number pieces)
    (e : lines rest ≡ line ∷ lines behind) (shorter : length behind < length rest) where
  pub pieces_more : (piece : Piece) (next : List Piece) → IsPieceOf line piece → next ≡ pieces ++ piece ∷ []
      → PiecesSoFar text behind (number + 1) next
  pieces_more piece next l is = record {
    before = s.before ++ line ∷ [];
    split = s.split ∙ ap (λ z. s.before ++ z) e ∙ sym (append_assoc s.before (line ∷ []) (lines behind));
    recorded = subst (AreRecorded (s.before ++ line ∷ [])) (sym is)
        (recorded_more s.before pieces line piece s.recorded l);
    counted = omega (arith, s.counted, length-append s.before (line ∷ []));
    few = omega (arith, s.few, shorter, length-append s.before (line ∷ []));
  }

  pub first_other : IsOtherLine line → IsFirstOther text (number + 1)
  first_other other = record {
    before = s.before;
    line = line;
    after = lines behind;
    split = s.split ∙ ap (λ z. s.before ++ z) e;
    sent = λ end. sent_of end s.before pieces s.recorded;
    other = other;
    counted = ap (λ n. n + 1) s.counted;
  }

-- all are read
pub all_pieces : (text rest : List ℕ) (number : ℕ) (pieces : List Piece) → PiecesSoFar text rest number pieces
    → rest ≡ [] → AreRecorded (lines text) pieces
all_pieces text rest number pieces s e =
    subst (λ (z : List (List ℕ)). AreRecorded z pieces)
    (sym (s.split ∙ ap (λ z. s.before ++ lines z) e ∙ append-nil s.before)) s.recorded

-- What is printed of pieces.

module _ {S : Type 0} (writer : Writer S) (from to : S) where
  pub dialogue_put : (form : TraceForm) (pieces : List Piece) (accepted : Bool) → (d : Dialogue) × IsDialogue pieces d
      × (accepted ≡ is_unrefused d) × WentOut writer from to (dialogue_text form pieces d)
      → IsCarriedOut writer from to (dialogue_action form pieces) (Ok accepted)
  dialogue_put form pieces accepted h =
      inr (dialogue_text form pieces h.0, (h.0, h.1, refl, ap Ok h.2), h.3)

  pub dialogue_unput : (form : TraceForm) (pieces : List Piece) (fault : Fault)
      → ((fault ≡ device.Write) × ((d : Dialogue) × IsDialogue pieces d
      × FailedWithin writer from to (dialogue_text form pieces d)))
      ⊎ (IsCountFault (IsTooLong pieces) fault × (to ≡ from))
      → IsCarriedOut writer from to (dialogue_action form pieces) (Err (run_fault fault))
  dialogue_unput form pieces fault (inl h) = inr (inr (
    dialogue_text form pieces h.1.0,
    (ap run_fault h.0, (Ok (is_unrefused h.1.0), (h.1.0, h.1.1, refl, refl))),
    h.1.2,
  ))
  dialogue_unput form pieces fault (inr (inl memory, kept)) = inl (kept, inl (ap run_fault memory))
  dialogue_unput form pieces fault (inr (inr failed, kept)) = inl (kept, inr (ap run_fault failed.0, failed.1))

  -- those of a recording
  pub recording_put : (form : TraceForm) (input : List ℕ) (pieces given : List Piece) → AreRecorded (lines input) pieces
      → given ≡ pieces → (result : Result Bool RunFault)
      → IsCarriedOut writer from to (dialogue_action form given) result
      → IsCarriedOut writer from to (trace_action form input) result
  recording_put form input pieces given are same result h =
      on result (subst (λ (z : List Piece). IsCarriedOut writer from to (dialogue_action form z) result) same h)
    where
      on : (result : Result Bool RunFault) → IsCarriedOut writer from to (dialogue_action form pieces) result
          → IsCarriedOut writer from to (trace_action form input) result
      on (Ok accepted) (inl h) = absurd h
      on (Ok accepted) (inr h) = inr (h.0, (pieces, are, h.1), h.2)
      on (Err fault) (inl (kept, inl e)) = inl (kept, subst (IsUntraced input) (sym e) (inl refl))
      on (Err fault) (inl (kept, inr e)) = inl (kept, subst (IsUntraced input) (sym e.0) (inr (refl, (pieces, are, e.1))))
      on (Err fault) (inr (inl h)) = inr (inl (h.0, (pieces, are, h.1), h.2))
      on (Err fault) (inr (inr h)) = inr (inr (h.0, (h.1.0, (h.1.1.0, (pieces, are, h.1.1.1))), h.2))
