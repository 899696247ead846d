use Rattle.std.specs.Prelude.{Bool, true, false, Result, Ok, Err, if◌then◌else◌}
use Rattle.std.proofs.Common.{◌≡◌, ℕ, List, [], None, refl, subst, inl, inr}
use Rattle.ws_code.specs.Code.{Rules}
use Rattle.ws_code.specs.Device.{Writer}
use Rattle.ws_code.specs.declared.fault.Fault.{Fault}
use Rattle.ws_code.specs.declared.fault.Fault.TheVariants as device
use Rattle.ws_script.specs.declared.asked.fault.RunFault.{RunFault}
use Rattle.ws_script.specs.declared.asked.fault.RunFault.TheVariants.{Write}
use Rattle.ws_text.specs.Printed.{Printing, IsPrinted}
use Rattle.ws_program.specs.StreamText.{showing, View, show_printing}
use Rattle.ws_program.specs.AllTold.{AllEnding, IsCheckedEnd, IsObjectsEnd, IsShownEnd, ToldWay, all_printing}
use Rattle.ws_program.specs.AllTold.{file_head, refusals_told, told_in}
use Rattle.ws_program.specs.Actions.{IsCarriedOut}
use Rattle.ws_program.specs.Answering.{answer_action, of_bytes, run_outcome, sender_parts, sent_printing}
use Rattle.ws_printing.specs.Checking.{check_printing}
use Rattle.ws_printing.specs.ScreenLines.{on_037}
use Rattle.ws_printing.specs.declared.look.Look.{Look}
use Rattle.ws_printing.specs.declared.paint.Paint.TheVariants.{Plain}
use Rattle.ws_program.specs.StreamBytes.{AreBytesOf}
use Rattle.ws_program.specs.declared.words.command_line.InputAsked.{InputAsked}
use Rattle.ws_program.specs.declared.words.command_line.InputAsked.TheVariants.{Check, CheckAll, Play, Show, ShowAll}
use Rattle.ws_program.specs.declared.all_told.Way.TheVariants.{Lines, Objects}
use Rattle.ws_program.specs.declared.words.command_line.StreamForm.{StreamForm}
use Rattle.ws_program.specs.declared.words.show_words.ShowForm.TheVariants as shown
use Rattle.ws_script.specs.declared.asked.sender.Sender.{Sender}
use Rattle.ws_program.specs.Tellings.{told_printing}
use Rattle.ws_program.specs.declared.telling.Telling.{Telling}
use Rattle.ws_program.specs.declared.telling.Telling.TheVariants as telling
use Rattle.ws_program.proofs.Buffers.{CanBeCut}

-- What commands print, and what of it may be cut.

pub check_cut : {Place U : Type 0} (rules : Rules Place U) (bytes : List ℕ)
    → CanBeCut (check_printing rules bytes) device.Write
check_cut rules bytes text outcome h = (refl, (outcome, h))

pub show_cut : {Place U : Type 0} (rules : Rules Place U) (view : View U) (bytes : List ℕ)
    → CanBeCut (show_printing (showing rules view) bytes) device.Write
show_cut rules view bytes text (Ok accepted) h = (refl, inr (accepted, h))
show_cut rules view bytes text (Err device.Memory) h =
    (refl, inl (record { placed = h.0; shown = h.1; last = None; complete = tt; lines = h.3 }))
show_cut rules view bytes text (Err fault) h = absurd h

all_cut : {Place U : Type 0} (rules : Rules Place U) (way : ToldWay U) (Ends : AllEnding U) (bytes : List ℕ)
    → CanBeCut (all_printing rules way Ends bytes) device.Write
all_cut rules way Ends bytes text (Ok accepted) h = (refl, inr (accepted, h))
all_cut rules way Ends bytes text (Err fault) h = (refl, inl h.1)

told_cut : {Place U : Type 0} (rules : Rules Place U) (body : List U → List ℕ) (view : Look → View U) (told : Telling)
    (bytes : List ℕ) → CanBeCut (told_printing rules body view told bytes) device.Write
told_cut rules body view (telling.Check cut) bytes = check_cut rules bytes
told_cut rules body view (telling.CheckAll name) bytes =
    all_cut rules (refusals_told (file_head name)) (IsCheckedEnd (file_head name)) bytes
told_cut rules body view (telling.Show look) bytes = show_cut rules (view look) bytes
told_cut rules body view (telling.ShowAll (shown.Lines look)) bytes =
    all_cut rules (told_in Lines body (view look)) (IsShownEnd (view look).Ends) bytes
told_cut rules body view (telling.ShowAll shown.Objects) bytes =
    all_cut rules (told_in Objects body (view (on_037 Plain))) IsObjectsEnd bytes

pub bytes_cut : (form : StreamForm) (printing : List ℕ → Printing Bool Fault) (input : List ℕ)
    → ((bytes : List ℕ) → CanBeCut (printing bytes) device.Write) → CanBeCut (of_bytes form printing input).prints Write
bytes_cut form printing input cut text outcome h =
    (h.0, h.1, (device.Write, cut h.0 text h.2.0 h.2.1, refl))

sent_cut : (form : StreamForm) (sender : Sender) (told : Telling) (input : List ℕ)
    → CanBeCut (of_bytes form (sent_printing sender told) input).prints Write
sent_cut form sender told input = bytes_cut form (sent_printing sender told) input (told_cut
    (sender_parts sender).rules (sender_parts sender).lines (sender_parts sender).view told)

pub answer_cut : (asked : InputAsked) (input : List ℕ) → CanBeCut (answer_action asked input).prints Write
answer_cut (Check file form cut sender) input = sent_cut form sender (telling.Check cut) input
answer_cut (CheckAll file form sender named) input =
    sent_cut form sender (telling.CheckAll (if named then file else None)) input
answer_cut (Show file form sender look) input = sent_cut form sender (telling.Show look) input
answer_cut (ShowAll file form sender shown) input = sent_cut form sender (telling.ShowAll shown) input
answer_cut (Play file screen false paint) input = λ text outcome h. (refl, (outcome, h))
answer_cut asked input = λ text outcome h. (refl, (outcome, h))

module _ {S : Type 0} (writer : Writer S) (from to : S) where
  -- what is printed of the bytes that an input tells
  pub bytes_printed : (form : StreamForm) (printing : List ℕ → Printing Bool Fault) (input bytes given : List ℕ)
      → AreBytesOf form bytes input → given ≡ bytes → (met : Result Bool Fault)
      → IsPrinted writer from to (printing given) met
      → IsCarriedOut writer from to (of_bytes form printing input) (run_outcome met)
  bytes_printed form printing input bytes given are same met h =
      on met (subst (λ (z : List ℕ). IsPrinted writer from to (printing z) met) same h)
    where
      on : (met : Result Bool Fault) → IsPrinted writer from to (printing bytes) met
          → IsCarriedOut writer from to (of_bytes form printing input) (run_outcome met)
      on (Ok accepted) h = inr (h.0, (bytes, are, (Ok accepted, h.1, refl)), h.2)
      on (Err fault) (inl h) = inr (inl (h.0, (bytes, are, (Err fault, h.1, refl)), h.2))
      on (Err fault) (inr h) = inr (inr (h.0, (bytes, are, (fault, h.1, refl)), h.2))
