use Rattle.std.specs.Prelude.{is_some}
use Rattle.std.proofs.Common.{sym, ap, ◌∙◌}
use Rattle.ws_keys.proofs.FittingLaws as Laws
use Rattle.ws_keys.proofs.fitting.fits_read.Goals as goal

pub returns-in-Mdt : goal.returns-in-Mdt
returns-in-Mdt c =
    let fields = c.args.screen.now.fields in
    let parts = c.args.parts.now in
    c.fits_modified.ensures ∙ Laws.fits_modified fields parts
    ∙ ap is_some (sym (Laws.modified_data c.args.kind fields parts c.in-Mdt.is))
