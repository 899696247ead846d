use Rattle.std.specs.Prelude.{map}
use Rattle.std.specs.Str.{chars}
use Rattle.std.proofs.Common.{refl}
use Rattle.std.proofs.lemmas.Result.{IfErr-weaker}
use Rattle.std.proofs.lemmas.Str.{scalars-chars, encodes-chars}
use Rattle.ws_printing.specs.script.Script.{typed_key}
use Rattle.ws_script.proofs.lines.stroke_words.read_keys.Goals as goal

pub returns-clause-fault : goal.returns-clause-fault
returns-clause-fault g c =
    let text = c.args.text.now in
    IfErr-weaker c.typed_keys.result _ _
    (λ fault e. (
      e,
      map (λ character. g.Q.NamedKey.words.profile (typed_key c.args.inserts character)) (chars text),
      record {
        characters = chars text;
        are = scalars-chars text c.utf8.text;
        spelled = encodes-chars text c.utf8.text;
        typed = refl;
      },
    ))
    c.typed_keys.ensures.fault
