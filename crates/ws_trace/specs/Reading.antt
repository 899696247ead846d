-- How a stream is read of which records may be refused. Each record stands for itself: after a refused byte all up to
-- the next EOR (RFC 885) is passed over, but for Telnet commands, and after that records are read again.

use Rattle.std.specs.Prelude.{◌≡◌, ℕ, ◌+◌, List, [], ◌∷◌, ◌++◌, ◌⊎◌, Bool, true, false, Option, None, Some, length}
use Rattle.std.specs.Prelude.{if◌then◌else◌}
use Rattle.ws_code.specs.Code.{Rules, IsSpelled, IsUnfinished, IsPrefix}
use Rattle.ws_code.specs.declared.fault.Fault.{Fault}
use Rattle.ws_code.specs.declared.fault.Fault.TheVariants.{Memory, Failed}
use Rattle.ws_code.specs.declared.reason.Reason.{Reason}
use Rattle.ws_code.specs.declared.reason.Reason.TheVariants.{TooShort, EndedInside}
use Rattle.ws_telnet.specs.Token.{token_rules}
use Rattle.ws_telnet.specs.declared.token.Token.{Token}
use Rattle.ws_telnet.specs.declared.token.Token.TheVariants.{Data, Eor, Telnet as TelnetToken}
use Rattle.ws_record.specs.Grammar.{Holds, IsInGrammar}
use Rattle.ws_record.specs.Refusal.{Layer, IsOpen, IsRefused}
use Rattle.ws_record.specs.declared.record.Item.{Item}
use Rattle.ws_record.specs.declared.record.Item.TheVariants.{Telnet as TelnetItem}
use Rattle.ws_trace.specs.declared.told.Told.{Told}
use Rattle.ws_trace.specs.declared.told.Told.TheVariants.{Whole, Refused}

-- Where a stream stands: after these bytes, which hold these items, since records are read; or after a refused byte,
-- inside a token of which these bytes have come.
pub data StreamStanding (U : Type 0) : Type 0 where
  Reads : List ℕ → List (Item U) → StreamStanding U
  Passes : List ℕ → StreamStanding U

-- why no more bytes are taken: a growth was refused, or this holds, by which they can't be counted
abbrev pub IsCountFault : Type 0 → Fault → Type 0
IsCountFault Full fault = (fault ≡ Memory) ⊎ ((fault ≡ Failed) × Full)

-- the refused byte is that of an EOR, so that the record is over
abbrev pub ends_record : Reason → Bool
ends_record TooShort = true
ends_record EndedInside = true
ends_record reason = false

-- where a stream stands after a refused byte
abbrev pub after_refusal : {U : Type 0} → Reason → StreamStanding U
after_refusal reason = if ends_record reason then Reads [] [] else Passes []

-- what is told of a token that is passed over
abbrev pub told_of_passed : {U : Type 0} → Token → Option (Told U)
told_of_passed (Data b) = None
told_of_passed Eor = None
told_of_passed (TelnetToken telnet) = Some (Whole (TelnetItem telnet))

-- where a stream stands after it
abbrev pub after_passed : {U : Type 0} → Token → StreamStanding U
after_passed (Data b) = Passes []
after_passed Eor = Reads [] []
after_passed (TelnetToken telnet) = Passes []

module _ {Place U : Type 0} (rules : Rules Place U) where
  -- the bytes hold the items, and none of them is refused
  abbrev pub HoldsUnrefused : List ℕ → List (Item U) → Type 0
  HoldsUnrefused bytes items = ((so_far begun : List ℕ) × Holds rules bytes items so_far begun)
      × ((layer : Layer) → IsOpen rules layer bytes)

  -- what a byte ends that is read: nothing, an item, or it is refused
  abbrev pub IsReadNext : List ℕ → List (Item U) → Option (Told U) → StreamStanding U → Type 0
  IsReadNext bytes items None next = (next ≡ Reads bytes items) × HoldsUnrefused bytes items
  IsReadNext bytes items (Some (Whole item)) next = (next ≡ Reads bytes (items ++ item ∷ []))
      × HoldsUnrefused bytes (items ++ item ∷ [])
  IsReadNext bytes items (Some (Refused reason)) next = (next ≡ after_refusal reason)
      × ((place : ℕ) × (place + 1 ≡ length bytes) × IsRefused rules bytes place reason)

  -- what a byte ends that is passed over: nothing, a token, or no token goes on with it
  abbrev pub IsPassedNext : List ℕ → ℕ → Option (Told U) → StreamStanding U → Type 0
  IsPassedNext begun byte told next =
      ((told ≡ None) × (next ≡ Passes (begun ++ byte ∷ [])) × IsUnfinished token_rules tt (begun ++ byte ∷ []))
      ⊎ ((token : Token) × (told ≡ told_of_passed token) × (next ≡ after_passed token)
      × IsSpelled token_rules tt (begun ++ byte ∷ []) token)
      ⊎ ((told ≡ Some (Refused (token_rules.reason tt begun byte))) × (next ≡ Passes [])
      × (IsPrefix token_rules tt (begun ++ byte ∷ []) → ⊥))

  -- what the next byte of a stream ends, and where it stands then
  abbrev pub IsNextByte : StreamStanding U → ℕ → Option (Told U) → StreamStanding U → Type 0
  IsNextByte (Reads bytes items) byte told next = IsReadNext (bytes ++ byte ∷ []) items told next
  IsNextByte (Passes begun) byte told next = IsPassedNext begun byte told next

  -- the stream may end where it stands: no record is left open, and none is passed over
  abbrev pub MayEndAt : StreamStanding U → Type 0
  MayEndAt (Reads bytes items) = IsInGrammar rules bytes items
  MayEndAt (Passes begun) = ⊥
