use Rattle.ws_printing.proofs.Common.{[], ◌∷◌, refl, inl, Cancel, MeansMoves, settling, one, settle}
use Rattle.ws_printing.proofs.Scripts.{adds}
use Rattle.ws_printing.proofs.script.script_line.read_word.Goals as goal

pub returns-in-cancel : goal.returns-in-cancel
returns-in-cancel c =
    let is : MeansMoves c.args.word.now (Cancel ∷ []) = one Cancel c.in-cancel.is refl in
    adds _ _ (MeansMoves c.args.word.now) c.add.result (Cancel ∷ []) is (inl (Cancel ∷ [], is)) c.add.ensures.ok
    c.add.ensures.fault

pub returns-in-settle : goal.returns-in-settle
returns-in-settle c =
    let is : MeansMoves c.args.word.now settling = settle c.in-settle.is refl in
    adds _ _ (MeansMoves c.args.word.now) c.settle.result settling is (inl (settling, is)) c.settle.ensures.ok
    c.settle.ensures.fault
