use Rattle.std.proofs.Common.{subst}
use Rattle.ws_screen.specs.Bodies.{after_elements, after_end}
use Rattle.ws_screen.specs.Given.{Gives}
use Rattle.ws_screen.specs.ScreenParts.{ScreenParts}
use Rattle.ws_screen.proofs.ScreenLaws.{one_screen}
use Rattle.ws_extended.specs.Rolling.{cells_after_roll, roll_shown}
use Rattle.ws_extended.proofs.Blocks.{roll_gives}
use Rattle.ws_extended.proofs.laws.roll_moves_rows.Goals as goal

pub returns : goal.returns
returns c = λ h s g legal closed n roll is.
    subst (λ (t : ScreenParts). Gives (after_end (after_elements h (roll_shown roll t.cells)))
    (record s { cells = cells_after_roll roll s.cells })) (one_screen h s g legal.size)
    (roll_gives h s g legal closed roll is)
