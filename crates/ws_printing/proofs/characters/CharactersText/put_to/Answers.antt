use Rattle.ws_printing.proofs.Common.{encode_utf8, ◌++◌, ◌∙◌, ap, sym, take, take_all, prints_both, prints_same}
use Rattle.ws_printing.proofs.Common.{flat_map_more, characters_text}
use Rattle.ws_printing.proofs.characters.CharactersText.put_to.Goals as goal

pub loop-one-preserved : goal.loop-one-preserved
loop-one-preserved g c =
    let shows = g.T.ShowsCharacter.shows in
    let all = c.args.self.now.0.now in
    let i = c.loop-one.one-index in
    prints_same (ap (λ k. characters_text shows (take i all) ++ encode_utf8 k)
    (c.character.ensures ∙ ap shows c.one-item.is)
    ∙ sym (flat_map_more (λ x. encode_utf8 (shows x)) all i c.one-item.result c.loop-one-test.true))
    (prints_both c.loop-one.invariant c.put_to-output.ensures)

pub returns : goal.returns
returns g c = prints_same (ap (characters_text g.T.ShowsCharacter.shows) (take_all _ _ c.loop-one-test.false))
    c.loop-one.invariant
