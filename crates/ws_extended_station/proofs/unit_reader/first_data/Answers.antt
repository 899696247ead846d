use Rattle.std.proofs.Common.{◌∙◌, sym}
use Rattle.ws_extended_station.proofs.Units.{starts_with}
use Rattle.ws_extended_station.proofs.unit_reader.first_data.Goals as goal

pub returns-in-Anything-clause-first : goal.returns-in-Anything-clause-first
returns-in-Anything-clause-first c = starts_with _ _ c.args.bytes.now (sym c.is_empty.ensures ∙ c.if-is_empty.false)
    c.new.ensures
