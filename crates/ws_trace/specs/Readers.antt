-- What a reader keeps, and where it stands.

use Rattle.std.specs.Prelude.{◌≡◌, ℕ, ◌+◌, ◌-◌, ◌<◌, ◌≤◌, ◌^◌, List, [], Bool, true, false, Option, length}
use Rattle.ws_code.specs.Code.{Rules}
use Rattle.ws_telnet.specs.declared.token.Token.{Token}
use Rattle.ws_telnet.specs.declared.token.Token.TheVariants.{Eor}
use Rattle.ws_record.specs.Receiver.{Receiving, HasReceived}
use Rattle.ws_trace.specs.Reading.{StreamStanding, IsNextByte}
use Rattle.ws_trace.specs.Reading.StreamStanding.{Reads, Passes}
use Rattle.ws_trace.specs.declared.told.Told.{Told}

-- What a reader keeps: a receiver, the bytes of a token that is passed over, and whether it passes over.
pub record ReaderParts (Place U : Type 0) : Type 0 where
  pub receiver : Receiving Place U
  pub begun : List ℕ
  pub is_passing : Bool

-- a reader stands there
abbrev pub StandsThere : {Place U : Type 0} → Rules Place U → ReaderParts Place U → StreamStanding U → Type 0
StandsThere rules reader (Reads bytes items) = (reader.is_passing ≡ false) × (length bytes + 1 < 2 ^ 64)
    × HasReceived rules reader.receiver bytes items
StandsThere rules reader (Passes begun) = (reader.is_passing ≡ true) × (reader.begun ≡ begun)
    × HasReceived rules reader.receiver [] []

-- the bytes since records are read
abbrev pub bytes_read : {U : Type 0} → StreamStanding U → List ℕ
bytes_read (Reads bytes items) = bytes
bytes_read (Passes begun) = []

-- where a reader stands, as many bytes have come since records are read as can be counted
abbrev pub IsFull : {Place U : Type 0} → Rules Place U → ReaderParts Place U → Type 0
IsFull {Place} {U} rules reader = (at : StreamStanding U) → StandsThere rules reader at
    → 2 ^ 64 - 2 ≤ length (bytes_read at)

-- a token is an EOR
abbrev pub is_eor : Token → Bool
is_eor Eor = true
is_eor token = false

-- where a reader stood, a byte ends this; and it stands there then
abbrev pub IsNextOf : {Place U : Type 0} → Rules Place U → ReaderParts Place U → ReaderParts Place U → ℕ
    → Option (Told U) → Type 0
IsNextOf {Place} {U} rules old new byte told = (at : StreamStanding U) → StandsThere rules old at
    → (next : StreamStanding U) × IsNextByte rules at byte told next × StandsThere rules new next
