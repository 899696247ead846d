use Rattle.ws_printing.proofs.Common.{take, Prints, characters_text}
use Rattle.ws_printing.proofs.characters.CharactersText.put_to.Given as goal

-- those so far
abbrev pub invariant-loop-one : goal.invariant-loop-one
invariant-loop-one g l = Prints g.S.Sink.writer l.fn.sink l.sink l.fn.output l.output
    (characters_text g.T.ShowsCharacter.shows (take l.one-index l.one-items))
