use Rattle.ws_text.specs.WordLaws.{few_pairs, field_parts}
use Rattle.ws_text.proofs.UnitWords.{last_two, no_format, made_field, first_of, fits_none, fits_slice}
use Rattle.ws_text.proofs.LineWords.{texts, no_word}
use Rattle.ws_text.proofs.element_words.read_field.Goals as goal

pub returns-in_err-pairs : goal.returns-in_err-pairs
returns-in_err-pairs c =
    let cut = last_two no_word c.args.words.now c.in-len2-up.len_at_least in
    rw c.from_residual.ensures (λ f h.
    c.in_err-pairs.ensures _ (field_parts (texts c.args.words.now) _ _ _ f cut h).pairs (few_pairs f.format f.controls h.legal.few))

pub returns-in_err-attribute : goal.returns-in_err-attribute
returns-in_err-attribute c =
    let cut = last_two no_word c.args.words.now c.in-len2-up.len_at_least in
    rw c.from_residual-in_err-attribute.ensures (λ f h.
    c.in_err-attribute.ensures _ (field_parts (texts c.args.words.now) _ _ _ f cut h).attribute)

pub returns-in_err-length : goal.returns-in_err-length
returns-in_err-length c =
    let cut = last_two no_word c.args.words.now c.in-len2-up.len_at_least in
    rw c.from_residual-in_err-length.ensures (λ f h.
    c.in_err-length.ensures _ (field_parts (texts c.args.words.now) _ _ _ f cut h).length h.legal.short)

pub returns-in_err-new-in-len1-up : goal.returns-in_err-new-in-len1-up
returns-in_err-new-in-len1-up c =
    let cut = last_two no_word c.args.words.now c.in-len2-up.len_at_least in
    rw c.from_residual-in_err-new-in-len1-up.ensures
    (no_format (texts c.args.words.now) _ _ _ c.in_ok-pairs.pairs.items _ _ cut c.in_ok-pairs.ensures
    (first_of c.in_ok-pairs.pairs.items c.as_slice.result.now c.as_slice.ensures.value c.in-len1-up.len_at_least)
    c.in_err-new-in-len1-up.ensures)

pub returns-in-empty : goal.returns-in-empty
returns-in-empty c =
    let cut = last_two no_word c.args.words.now c.in-len2-up.len_at_least in
    made_field (texts c.args.words.now) _ _ _ c.in_ok-pairs.pairs.items _ c.output.result cut c.in_ok-pairs.ensures
    (fits_none c.in_ok-pairs.pairs.items c.as_slice.result.now c.as_slice.ensures.value c.in-empty.len_below)
    c.in_ok-attribute.ensures.0 c.in_ok-length.ensures c.output.ensures

pub returns-in_ok-new-in-len1-up : goal.returns-in_ok-new-in-len1-up
returns-in_ok-new-in-len1-up c =
    let cut = last_two no_word c.args.words.now c.in-len2-up.len_at_least in
    made_field (texts c.args.words.now) _ _ _ c.in_ok-pairs.pairs.items _ c.input.result cut c.in_ok-pairs.ensures
    (fits_slice c.in_ok-pairs.pairs.items c.as_slice.result.now c.in_ok-new-in-len1-up.field-0
    c.as_slice.ensures.value c.in-len1-up.len_at_least c.in_ok-new-in-len1-up.ensures.1) c.in_ok-attribute.ensures.0
    c.in_ok-length.ensures c.input.ensures
