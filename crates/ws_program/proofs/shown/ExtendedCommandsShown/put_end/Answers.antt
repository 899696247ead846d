use Rattle.std.proofs.Common.{◌++◌, List, ℕ, ap, subst}
use Rattle.ws_screen.specs.ScreenParts.{ScreenParts}
use Rattle.ws_text.proofs.Prints.{prints_both, prints_same}
use Rattle.ws_extended_station.specs.ExtendedDisplays.{standing_row}
use Rattle.ws_printing.specs.ErrorRow.{error_line}
use Rattle.ws_printing.specs.ScreenLines.{IsScreenText}
use Rattle.ws_printing.proofs.LiveDisplays.{display_text}
use Rattle.ws_program.proofs.shown.ExtendedCommandsShown.put_end.Goals as goal

pub returns : goal.returns
returns g c =
    let e = c.put_screen-output.ensures in
    let display = c.args.display.now in
    let behind : List ℕ = error_line (standing_row display) in (
      e.0 ++ behind,
      (λ items makes. (
        display,
        makes.0,
        display_text c.args.look display.screen behind e.0
            (subst (λ (s : ScreenParts). IsScreenText c.args.look s e.0) c.screen.ensures e.1),
      )),
      prints_both e.2 (prints_same (ap error_line c.standing_row.ensures) c.put_error_row.ensures),
    )
