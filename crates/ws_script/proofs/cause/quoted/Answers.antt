use Rattle.std.proofs.Common.{◌∙◌, ◌++◌, ap, sym, codes, flat_map, map-id}
use Rattle.std.proofs.lemmas.Iterator.{YieldsList-from_chars, YieldsList-from_take}
use Rattle.std.proofs.lemmas.Iterator.Consumers.{YieldsList-end}
use Rattle.ws_script.specs.cause.CauseTexts.{shown_character}
use Rattle.ws_script.proofs.cause.quoted.Goals as goal

pub returns : goal.returns
returns c =
    let end = YieldsList-end (YieldsList-from_take 60 (YieldsList-from_chars c.args.word.now c.utf8.word cc) cc)
    c.loop-character.yielded _ c.loop-character.yielded_by _ _ c.in-None.is c.next.ensures.steps in
    c.in_ok-push_str.ensures.bytes ∙ ap (λ shown. shown ++ codes "`") (c.loop-character.invariant
    ∙ ap (λ all. codes " `" ++ flat_map shown_character all) (sym (map-id c.loop-character.yielded) ∙ end.0))
