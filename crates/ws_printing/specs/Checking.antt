-- How a check counts the items that come, and what it prints.

use Rattle.std.specs.Prelude.{◌≡◌, ℕ, ◌+◌, ◌-◌, ◌^◌, ◌≤◌, min, List, length, Bool, Ok}
use Rattle.ws_code.specs.Code.{Rules}
use Rattle.ws_code.specs.declared.fault.Fault.{Fault}
use Rattle.ws_code.specs.declared.fault.Fault.TheVariants.{Write}
use Rattle.ws_record.specs.declared.record.Item.{Item}
use Rattle.ws_record.specs.declared.news.News.{News}
use Rattle.ws_record.specs.declared.news.News.TheVariants.{Close, Telnet}
use Rattle.ws_record.specs.Live.{Watching, Leads}
use Rattle.ws_record.specs.OpenRecord.{RecordSoFar}
use Rattle.ws_printing.specs.declared.check.Tally.{Tally}
use Rattle.ws_printing.specs.declared.verdict.Verdict.{Verdict}
use Rattle.ws_printing.specs.CheckLine.{IsVerdict, is_accepted, line_of, record_count, command_count}
use Rattle.ws_text.specs.Printed.{Printing, in_whole}

-- the tally after the news of a front: a record or a Telnet command more; a count stays at the highest number that it
-- can hold
abbrev pub tally_after : Tally → News → Tally
tally_after tally (Close head) = record tally { records = min (tally.records + 1) (2 ^ 64 - 1) }
tally_after tally (Telnet word) = record tally { commands = min (tally.commands + 1) (2 ^ 64 - 1) }
tally_after tally news = tally

-- the bytes lead to the decoder, and the tally is of their items
pub record Counts {Place U : Type 0} (rules : Rules Place U) (live : Watching Place) (tally : Tally)
    (bytes : List ℕ) : Type 0 where
  pub items : List (Item U)
  pub so_far : RecordSoFar U
  pub leads : Leads rules live bytes items so_far
  pub records : tally.records ≡ record_count items
  pub commands : tally.commands ≡ command_count items
  pub few : tally.records + tally.commands ≤ length bytes

-- what a check prints: the line of what holds of the bytes. It ends well where they are accepted, and with no other
-- fault than `Write`.
abbrev pub check_printing : {Place U : Type 0} → Rules Place U → List ℕ → Printing Bool Fault
check_printing rules bytes = in_whole Write (λ text outcome. (verdict : Verdict) × IsVerdict rules bytes verdict
    × (text ≡ line_of verdict (length bytes)) × (outcome ≡ Ok (is_accepted verdict)))
