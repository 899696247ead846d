use Rattle.std.proofs.Common.{◌∷◌, ◌∙◌, sym, ap}
use Rattle.ws_code.proofs.DeviceLaws.{rest_from}
use Rattle.ws_extended_station.proofs.Units.{reads_data}
use Rattle.ws_extended_station.proofs.unit_reader.UnitReader+Commands.read_element.Goals as goal

pub returns-in-Some-clause-some : goal.returns-in-Some-clause-some
returns-in-Some-clause-some c = λ unit some.
    let is = c.in-Some.ensures in
    reads_data _ c.place.result c.in-Some.byte c.args.bytes.now _ unit c.place.ensures is.stands is.behind
    (is.first ∙ ap (λ l. c.in-Some.byte ∷ l) (sym (rest_from c.args.bytes.now 1))) some
