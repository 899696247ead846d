use Rattle.ws_printing.proofs.Common.{all_scalars, encode_utf8_all, sym, ap, ◌∙◌, map-id, YieldsList-from_chars}
use Rattle.ws_printing.proofs.Common.{YieldsList-end, scalars-chars, encodes-chars}
use Rattle.ws_printing.proofs.script.key_line.typed_keys.Goals as goal

pub returns-clause-keys : goal.returns-clause-keys
returns-clause-keys g c =
    let end = YieldsList-end (YieldsList-from_chars c.args.text.now c.utf8.text cc) c.loop-character.yielded _
    c.loop-character.yielded_by _ _ c.in-None.is c.next.ensures.steps in
    let all = sym (map-id c.loop-character.yielded) ∙ end.0 in
    record {
      characters = c.loop-character.yielded;
      are = ap all_scalars all ∙ scalars-chars c.args.text.now c.utf8.text;
      spelled = ap encode_utf8_all all ∙ encodes-chars c.args.text.now c.utf8.text;
      typed = c.of.ensures ∙ c.loop-character.invariant;
    }
