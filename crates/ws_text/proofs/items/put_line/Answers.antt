use Rattle.ws_text.specs.TextLines.{IsLine}
use Rattle.ws_text.proofs.PartialRecords.{units_put, no_units_found}
use Rattle.ws_text.proofs.items.put_line.Goals as goal

pub returns-in-Units : goal.returns-in-Units
returns-in-Units g c =
    units_put g.B.Code.rules g.B.Worded.wording (IsLine g.B.Worded.wording c.args.line.now) c.in-Some.found
    c.in-Units.units c.args.begun.now c.put_units.new.begun c.put_units.result c.in-Units.is c.in-Some.ensures
    c.put_units.ensures

pub returns-in_default : goal.returns-in_default
returns-in_default g c = λ r units is says can.
    no_units_found g.B.Worded.wording c.in-Some.found units c.in_default.not-Units ((c.in-Some.ensures _).0 says)
