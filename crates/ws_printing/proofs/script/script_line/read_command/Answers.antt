use Rattle.ws_printing.proofs.Common.{codes, List, ℕ, [], ◌∷◌, ◌++◌, refl, ap, inl, inr, true, false, handed_on, IsMove}
use Rattle.ws_printing.proofs.Common.{MeansMoves, one, typed, inserted}
use Rattle.ws_printing.proofs.Scripts.{adds, adds_keys, no_command, fault_on}
use Rattle.ws_printing.proofs.script.script_line.read_command.Goals as goal

pub returns-in-type : goal.returns-in-type
returns-in-type c =
    let words = c.args.words.now in
    adds_keys _ _ false words _ c.type_text.result c.utf8.words
    (λ moves are. typed words (ap (λ z. (z ++ codes " ") ++ words) c.in-type.is) are)
    c.type_text.ensures.ok c.type_text.ensures.fault

pub returns-in-insert : goal.returns-in-insert
returns-in-insert c =
    let words = c.args.words.now in
    adds_keys _ _ true words _ c.type_text-in-insert.result c.utf8.words
    (λ moves are. inserted words (ap (λ z. (z ++ codes " ") ++ words) c.in-insert.is) are)
    c.type_text-in-insert.ensures.ok c.type_text-in-insert.ensures.fault

pub returns-in_err-step-in_default : goal.returns-in_err-step-in_default
returns-in_err-step-in_default c =
    let line : List ℕ = (c.args.command.now ++ codes " ") ++ c.args.words.now in
    rw (handed_on c.from_residual.result c.from_residual.ensures.1) (fault_on (IsMove line) (MeansMoves line) _
    (no_command c.args.command.now c.args.words.now c.requires.no_blank c.requires.no_comment c.in_default.not-type
    c.in_default.not-insert) inr c.in_err-step-in_default.ensures.fault)

pub returns-in_ok-step-in_default : goal.returns-in_ok-step-in_default
returns-in_ok-step-in_default c =
    let line : List ℕ = (c.args.command.now ++ codes " ") ++ c.args.words.now in
    let step = c.in_ok-step-in_default.step in
    let is : MeansMoves line (step ∷ []) = one step c.in_ok-step-in_default.ensures.ok refl in
    adds _ _ (MeansMoves line) c.add.result (step ∷ []) is (inl (step ∷ [], is)) c.add.ensures.ok c.add.ensures.fault
