-- What a line that works on the connection itself does at an end.

use Rattle.std.specs.Prelude.{◌≡◌, ◌⊎◌, Result, Ok, Err}
use Rattle.ws_code.specs.Device.{Writer}
use Rattle.ws_code.specs.declared.fault.Fault.{Fault}
use Rattle.ws_code.specs.declared.fault.Fault.TheVariants.{Write}
use Rattle.ws_end.specs.attached.Attachments.{AttachedParts, HasWrittenBeside, HasFailedBeside}
use Rattle.ws_live.specs.declared.live.Closing.{Closing}
use Rattle.ws_live.specs.declared.live.Closing.TheVariants.{Done, Closed}
use Rattle.ws_script.specs.declared.lines.wire_line.WireLine.{WireLine}
use Rattle.ws_script.specs.declared.lines.wire_line.WireLine.TheVariants.{Raw, Pause, Close}

module _ {E S K : Type 0} (writer : Writer K) where
  -- what such a line does at an end, and how it closes: its bytes went out, or only a front of them did; time goes by;
  -- or the connection is to be closed
  abbrev pub WireRuns : WireLine → AttachedParts E S K → Result Closing Fault → AttachedParts E S K → Type 0
  WireRuns (Raw bytes) from outcome to = (HasWrittenBeside writer from to bytes × (outcome ≡ Ok Done))
      ⊎ (HasFailedBeside writer from to bytes × (outcome ≡ Err Write))
  WireRuns (Pause time) from outcome to = (to ≡ from) × (outcome ≡ Ok Done)
  WireRuns Close from outcome to = (to ≡ from) × (outcome ≡ Ok Closed)
