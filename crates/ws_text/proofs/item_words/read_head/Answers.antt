use Rattle.ws_text.proofs.Common.{refl, long, short}
use Rattle.ws_text.proofs.LineWords.{no_long_head, texts, no_word, two_words, four_words, with_head, unequal_not}
use Rattle.ws_text.proofs.item_words.read_head.Goals as goal

pub returns-in_err-flags-in-len4 : goal.returns-in_err-flags-in-len4
returns-in_err-flags-in-len4 c =
    rw c.from_residual-in_err-flags-in-len4.ensures
    (no_long_head (texts c.args.words.now) _ _ _ _ (four_words no_word _ c.in-len4.len_at_least c.in-len4.len_below)
    (λ n o pair is. c.in_err-flags-in-len4.ensures n pair))

pub returns-in_err-read_opcode-in-len4 : goal.returns-in_err-read_opcode-in-len4
returns-in_err-read_opcode-in-len4 c =
    rw c.from_residual-in_err-read_opcode-in-len4.ensures
    (no_long_head (texts c.args.words.now) _ _ _ _ (four_words no_word _ c.in-len4.len_at_least c.in-len4.len_below)
    (λ n o pair is. c.in_err-read_opcode-in-len4.ensures o is))

pub returns-in_ok-read_opcode-in-len2 : goal.returns-in_ok-read_opcode-in-len2
returns-in_ok-read_opcode-in-len2 c =
    short _ _ (two_words no_word _ c.in-len2.len_at_least c.in-len2.len_below) refl c.in_ok-read_opcode-in-len2.ensures

pub returns-in_ok-read_opcode-in-len4 : goal.returns-in_ok-read_opcode-in-len4
returns-in_ok-read_opcode-in-len4 c =
    long _ _ _ (with_head _ _ _ _ (four_words no_word _ c.in-len4.len_at_least c.in-len4.len_below)
    (unequal_not _ _ c.ne.result c.ne.ensures c.if-ne.false)) c.in_ok-flags-in-len4.ensures
    c.in_ok-read_opcode-in-len4.ensures
