use Rattle.std.proofs.Common.{◌≡◌, drop}
use Rattle.ws_text.specs.Names.{look_up}
use Rattle.ws_script.specs.cause.Vocabularies.{vocabulary_words}
use Rattle.ws_script.proofs.WordTables.{table}
use Rattle.ws_script.proofs.cause.vocabulary.kinds_after.Given as goal

-- the word is none of those so far
abbrev pub invariant-loop-known : goal.invariant-loop-known
invariant-loop-known l = look_up l.word (table (drop l.known-index l.known-items))
    ≡ look_up l.word (vocabulary_words l.fn.vocabulary)
