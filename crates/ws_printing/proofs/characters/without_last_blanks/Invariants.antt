use Rattle.ws_printing.proofs.Common.{◌≡◌, length, without_last_blanks}
use Rattle.ws_printing.proofs.characters.without_last_blanks.Given as goal

-- after these only blanks are shown
abbrev pub invariant-loop-last : goal.invariant-loop-last
invariant-loop-last g l =
    without_last_blanks g.T.ShowsCharacter.shows l.rest ≡ without_last_blanks g.T.ShowsCharacter.shows l.all

abbrev pub decreases-loop-last : goal.decreases-loop-last
decreases-loop-last g l = length l.rest
