use Rattle.ws_text.proofs.Common.{arith, take, length-take, length-map}
use Rattle.ws_text.specs.WordLaws.{pairs_length}
use Rattle.ws_text.proofs.UnitWords.{pair_at, pairs_step}
use Rattle.ws_text.proofs.LineWords.{texts}
use Rattle.ws_text.proofs.element_words.read_pairs.Goals as goal

pub returns-in_err-read_pair : goal.returns-in_err-read_pair
returns-in_err-read_pair c = rw c.from_residual.ensures (λ n h few.
    let at = pair_at _ c.args.words.now n c.loop-word.word-index h c.loop-word-test.true in
    c.in_err-read_pair.ensures at.0 at.1)

pub returns-then-words-gt9 : goal.returns-then-words-gt9
returns-then-words-gt9 c = λ n h few.
    let same = pairs_length (texts c.args.words.now) n h in
    omega (arith, c.if-words-gt9.true, same, few, length-map c.args.words.now (λ w. w.now))

pub push-requires : goal.push-requires
push-requires c =
    let so_far = pairs_length (texts (take c.loop-word.word-index c.args.words.now)) c.loop-word.pairs.items
    c.loop-word.invariant in (
      omega arith,
      omega (
        arith,
        so_far,
        c.if-words-gt9.false,
        c.loop-word-test.true,
        length-map (take c.loop-word.word-index c.args.words.now) (λ w. w.now),
        length-take c.loop-word.word-index c.args.words.now,
      ),
    )

pub loop-word-preserved : goal.loop-word-preserved
loop-word-preserved c = pairs_step _ c.args.words.now c.loop-word.word-index c.loop-word.pairs.items
    c.push.new.self.items c.in_ok-read_pair.field-0 c.loop-word-test.true c.loop-word.invariant
    c.in_ok-read_pair.ensures c.push.ensures.items
