use Rattle.std.specs.Prelude.{Ok}
use Rattle.std.proofs.Common.{List, ℕ, ◌∙◌, inl, inr, refl, true, ap}
use Rattle.std.proofs.lemmas.Result.{err_from_is_err_and}
use Rattle.ws_code.specs.Code.{Rules}
use Rattle.ws_text.specs.Items.{IsTextFault as IsItemsFault}
use Rattle.ws_text.specs.Wording.{Wording}
use Rattle.ws_text.specs.declared.items.TextFault.{TextFault as ItemsFault}
use Rattle.ws_text.specs.declared.items.TextFault.TheVariants as items
use Rattle.ws_script.specs.asked.RunFaults.{items_run_fault}
use Rattle.ws_program.specs.Making.{IsUnmade, made_stream}
use Rattle.ws_program.proofs.make.make_stream.Goals as goal

-- a text that spells no items
unread : {Place U : Type 0} (rules : Rules Place U) (w : Wording U) (text : List ℕ) (fault : ItemsFault)
    → IsItemsFault rules w text fault → IsUnmade rules w text (items_run_fault fault)
unread rules w text (items.Line number) h = h
unread rules w text items.Memory h = h

pub returns-in_err-items : goal.returns-in_err-items
returns-in_err-items g c =
    let p = err_from_is_err_and c.from_residual.result c.from_residual.ensures.1 in
    rw (p.1, p.2) (inl (
      refl,
      unread g.B.Code.rules g.B.Worded.wording c.args.text.now _ c.in_err-items.ensures.fault,
    ))

pub returns-in_err-made : goal.returns-in_err-made
returns-in_err-made g c =
    let p = err_from_is_err_and c.from_residual-in_err-made.result c.from_residual-in_err-made.ensures.1 in
    rw (p.1, p.2, c.in_err-made.ensures.fault) (inl (refl, (c.in_ok-items.items.items, c.in_ok-items.ensures.ok)))

pub returns-in_err-print : goal.returns-in_err-print
returns-in_err-print g c =
    let p = err_from_is_err_and c.from_residual-in_err-print.result c.from_residual-in_err-print.ensures.1 in
    let e = c.in_err-print.ensures.fault in
    let same = c.as_slice-2.ensures.value ∙ c.in_ok-made.ensures.ok
    ∙ ap (made_stream g.B.Code.rules c.args.raw) c.as_slice.ensures.value in
    rw (p.1, p.2, e.0) (inr (inr (
      _,
      (refl, (Ok true, (c.in_ok-items.items.items, c.in_ok-items.ensures.ok, same, refl))),
      e.1,
    )))

pub returns : goal.returns
returns g c =
    let same = c.as_slice-2.ensures.value ∙ c.in_ok-made.ensures.ok
    ∙ ap (made_stream g.B.Code.rules c.args.raw) c.as_slice.ensures.value in
    inr (_, (c.in_ok-items.items.items, c.in_ok-items.ensures.ok, same, refl), c.in_ok-print.ensures.ok)
