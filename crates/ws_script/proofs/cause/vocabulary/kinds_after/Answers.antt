use Rattle.std.proofs.Common.{true, false, sym, ◌∙◌}
use Rattle.std.proofs.lemmas.List.{at_drop_all}
use Rattle.ws_text.specs.Names.{look_up}
use Rattle.ws_script.proofs.WordTables.{table, from_place}
use Rattle.ws_script.proofs.cause.vocabulary.kinds_after.Goals as goal

pub loop-known-preserved : goal.loop-known-preserved
loop-known-preserved c = sym (from_place c.args.word.now c.words_of-known-items.result.now c.loop-known.known-index _
    false c.loop-known-test.true (sym c.if-eq.false ∙ c.eq.ensures)) ∙ c.loop-known.invariant

pub returns-then-eq : goal.returns-then-eq
returns-then-eq c = sym (from_place c.args.word.now c.words_of-known-items.result.now c.loop-known.known-index _
    true c.loop-known-test.true (sym c.if-eq.true ∙ c.eq.ensures)) ∙ c.loop-known.invariant

pub returns : goal.returns
returns c = sym (at_drop_all (λ words. look_up c.args.word.now (table words)) c.words_of-known-items.result.now
    c.loop-known.known-index c.loop-known-test.false) ∙ c.loop-known.invariant
