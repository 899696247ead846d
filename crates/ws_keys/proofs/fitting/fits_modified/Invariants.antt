use Rattle.std.proofs.Common.{◌≡◌, drop}
use Rattle.ws_keys.specs.Fitting.{at_first, fits_from}
use Rattle.ws_keys.proofs.fitting.fits_modified.Given as goal

abbrev pub invariant-loop-part : goal.invariant-loop-part
invariant-loop-part l =
    fits_from l.screen.fields at_first l.parts ≡ fits_from l.screen.fields l.expected (drop l.part-index l.parts)
