use Rattle.std.specs.List.{concat}
use Rattle.std.proofs.Common.{rules, tests, ◌++◌, ◌∙◌, ap, sym}
use Rattle.std.proofs.lemmas.Iterator.Consumers.{YieldsList-end}
use Rattle.std.proofs.lemmas.Iterator.Splits.{YieldsList-from_slice_split}
use Rattle.ws_program.specs.HexText.{is_blank_byte}
use Rattle.ws_program.proofs.HexDigits.{concat_parts, concat_now_more}
use Rattle.ws_program.proofs.hex_text.digits_of.Goals as goal

pub loop-part-preserved : goal.loop-part-preserved
loop-part-preserved c = c.in_ok-extend_from_slice.ensures.items
    ∙ ap (λ z. z ++ c.in-Some.part.now) c.loop-part.invariant ∙ sym (concat_now_more c.loop-part.yielded c.in-Some.part)

pub returns : goal.returns
returns c =
    let e = c.split-part-items.ensures in
    let same = c.into_iter-part-iterator.ensures.into_iter_gives in
    let end = YieldsList-end (YieldsList-from_slice_split _ is_blank_byte c.args.text.now (ap (λ s. s.rest.now) same
    ∙ e.rest) (ap (λ s. s.done) same ∙ e.done) (ap (λ s. s.pred) same ∙ e.closure)
    (λ x b q k. search (rules, tests, k.called, k.shows))) c.loop-part.yielded _ c.loop-part.yielded_by _ _
    c.in-None.is c.next.ensures.steps in
    c.loop-part.invariant ∙ ap concat end.0 ∙ concat_parts c.args.text.now
