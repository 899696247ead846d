use Rattle.ws_record.proofs.Common.{[]}
use Rattle.ws_record.proofs.Encodings.{spelling_accepted}
use Rattle.ws_record.proofs.Reading.{one_spelling}
use Rattle.ws_record.proofs.laws.encoding_spells_its_items.Goals as goal

pub returns-clause-accepted : goal.returns-clause-accepted
returns-clause-accepted g c = spelling_accepted g.B.Code.rules g.met.B.Code.bytes

pub returns-clause-only : goal.returns-clause-only
returns-clause-only g c = λ items others encoded range spells.
    let rules = g.B.Code.rules in
    one_spelling _ g.met.B.Code.prefix_free g.met.B.Code.begins _ _ _ spells
    ([], spelling_accepted rules g.met.B.Code.bytes _ encoded range)
