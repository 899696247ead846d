use Rattle.ws_printing.proofs.Common.{YieldsList-from_chars, encode_utf8_all, YieldsList-end, scalars-chars}
use Rattle.ws_printing.proofs.Common.{encodes-chars, all_scalars, typed_key, map-id, Press, refl, map, sym, ◌∙◌, ap}
use Rattle.ws_printing.proofs.script.script_line.type_text.Goals as goal

pub returns-clause-ok : goal.returns-clause-ok
returns-clause-ok c =
    let end = YieldsList-end (YieldsList-from_chars c.args.text.now c.utf8.text cc) c.loop-character.yielded _
    c.loop-character.yielded_by _ _ c.in-None.is c.next.ensures.steps in
    let all = sym (map-id c.loop-character.yielded) ∙ end.0 in (
      map (λ x. Press (typed_key c.args.inserts x)) c.loop-character.yielded,
      record {
        characters = c.loop-character.yielded;
        are = ap all_scalars all ∙ scalars-chars c.args.text.now c.utf8.text;
        spelled = ap encode_utf8_all all ∙ encodes-chars c.args.text.now c.utf8.text;
        typed = refl;
      },
      c.loop-character.invariant,
    )
