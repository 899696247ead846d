use Rattle.ws_text.proofs.Common.{◌∙◌, ap, sym, List, ℕ, ◌++◌, codes, get_or, take_all, encode_upper, words_text}
use Rattle.ws_record.specs.Grammar.{two_bytes}
use Rattle.ws_text.proofs.Prints.{prints_none, prints_both, prints_same}
use Rattle.ws_text.proofs.Texts.{flat_map_more, two_bytes_of}
use Rattle.ws_text.proofs.output.put_words.Goals as goal

pub loop-word-init : goal.loop-word-init
loop-word-init g c = prints_none g.S.Sink.writer c.args.sink.now c.args.output

pub loop-word-preserved : goal.loop-word-preserved
loop-word-preserved g c =
    let words = c.args.words.now in
    let i = c.loop-word.word-index in
    let word_text : ℕ → List ℕ = λ w. encode_upper (two_bytes w) ++ codes " " in
    let digits = prints_same (ap encode_upper (c.to_be_bytes.ensures ∙ two_bytes_of (get_or words i 0)
    (c.type_inv.words i).fits)) c.put_hex-output.ensures in
    prints_same (sym (flat_map_more word_text words i 0 c.loop-word-test.true)) (prints_both c.loop-word.invariant
    (prints_both digits c.put_text-output.ensures))

pub returns : goal.returns
returns g c = prints_same (ap words_text (take_all c.loop-word.word-index c.args.words.now c.loop-word-test.false))
    c.loop-word.invariant
