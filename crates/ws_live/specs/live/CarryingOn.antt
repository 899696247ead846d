-- A line that is carried out again and again, for as long as it closes with something that was told.

use Rattle.std.specs.Prelude.{◌≡◌, ℕ, List, ◌++◌, ◌⊎◌, Bool, true, false, replicate, Ok, Err, MatchResult}
use Rattle.ws_code.specs.Device.{most_reads}
use Rattle.ws_code.specs.declared.fault.Fault.{Fault}
use Rattle.ws_code.specs.declared.fault.Fault.TheVariants as fault
use Rattle.ws_text.specs.Printed.{Printing}
use Rattle.ws_live.specs.live.LiveText.{Account, HaveRun, IsCutIn, LineResult, LinesDo, account, line_result}
use Rattle.ws_live.specs.declared.live.AfterUnwell.TheVariants.{GoOn}
use Rattle.ws_live.specs.declared.live.Closing.{Closing}
use Rattle.ws_live.specs.declared.live.Closing.TheVariants.{Done, Stopped}

-- the wait closed with something that was told
abbrev pub is_told : Closing → Bool
is_told Done = true
is_told closing = false

-- what a line that is carried on comes to: all is well unless the end refused a byte
abbrev pub goes_well : Closing → Bool
goes_well Stopped = false
goes_well closing = true

-- what the line does
module _ {L P : Type 0} (runs : LinesDo L P) (line : L) where
  -- the line was carried out so many times, went well and printed this, and then came to this
  pub record CarriesOn (from : P) (came : LineResult) (to : P) : Type 0 where
    pub count : ℕ
    pub printed : List ℕ
    pub mid : P
    pub ran : HaveRun GoOn runs from (replicate count line) (account true printed) mid
    pub last : List ℕ
    pub ends : runs line mid (line_result came.outcome last) to
    pub all : came.text ≡ printed ++ last

  -- the account of a line that is carried out up to the first time that nothing is told
  abbrev pub IsCarriedText : P → Account → P → Type 0
  IsCarriedText from came to = (closing : Closing) × CarriesOn from (line_result (Ok closing) came.text) to
      × (is_told closing ≡ false) × (came.all_well ≡ goes_well closing)

  -- the line was carried out as often as one wait reads, and went well each time
  pub record CarriesOnFor (from to : P) (text : List ℕ) : Type 0 where
    pub ran : HaveRun GoOn runs from (replicate most_reads line) (account true text) to

  -- what is printed by a line that is carried on, up to the first time that nothing is told, a fault comes, or too much
  -- is told; a sink may fail within the text of so many times
  abbrev pub carrying_on : P → P → Printing Bool Fault
  carrying_on from to = record {
    Ends = λ text outcome. MatchResult outcome
        (λ all_well. IsCarriedText from (account all_well text) to)
        (λ why. CarriesOn from (line_result (Err why) text) to
        ⊎ ((why ≡ fault.Read) × CarriesOnFor from to text));
    Cut = IsCutIn (λ came. CarriesOn from came to);
  }
