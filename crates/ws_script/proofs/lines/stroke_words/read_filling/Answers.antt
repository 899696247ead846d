use Rattle.std.proofs.Common.{refl}
use Rattle.ws_script.proofs.FirstWords.{refused}
use Rattle.ws_script.proofs.StrokeWords.{field_number}
use Rattle.ws_script.proofs.lines.stroke_words.read_filling.Goals as goal

pub returns-in_default-read_field_number-clause-fault : goal.returns-in_default-read_field_number-clause-fault
returns-in_default-read_field_number-clause-fault g c = (
  refl,
  λ f m. c.in_default-read_field_number.ensures f.number (field_number g.Q.NamedKey.words c.args.words.now _ _
      c.in-Some.ensures.0 c.in-Some.ensures.1 f m),
)

pub returns-in_err-keys-clause-fault : goal.returns-in_err-keys-clause-fault
returns-in_err-keys-clause-fault g c =
    let refusal = c.in_err-keys.ensures.fault in
    refused _ c.from_residual.result _ c.from_residual.ensures.1 refusal.0 (
      record { number = c.in-Some-read_field_number.number; keys = refusal.1 },
      (
        c.in-Some.word.now,
        c.in-Some.text.now,
        c.in-Some.ensures.0,
        c.in-Some-read_field_number.ensures,
        refusal.2,
      ),
    )
