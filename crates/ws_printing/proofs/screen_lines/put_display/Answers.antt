use Rattle.std.proofs.Common.{refl, ap}
use Rattle.ws_text.proofs.Prints.{prints_both, prints_same}
use Rattle.ws_printing.specs.ScreenLines.{screen_text}
use Rattle.ws_printing.proofs.screen_lines.put_display.Goals as goal

pub returns : goal.returns
returns g c = (
  _,
  refl,
  prints_both (prints_same (ap (screen_text c.args.look) c.screen.ensures.screen) c.put_to-output.ensures)
      c.put_behind.ensures,
)
