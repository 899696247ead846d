use Rattle.std.proofs.Common.{sym}
use Rattle.std.proofs.lemmas.List.Folds.{flat_map-map}
use Rattle.ws_text.proofs.Prints.{prints_same}
use Rattle.ws_program.specs.Tables.{key_line}
use Rattle.ws_program.proofs.tables.put_keys.Goals as goal

pub returns : goal.returns
returns g c = prints_same (sym (flat_map-map key_line (λ name. name.now) c.args.names.now)) c.put_to.ensures
