-- What the option tables of both ends share

use Rattle.std.specs.Prelude.{◌≡◌, ℕ, List, [], ◌∷◌, ◌==◌, if◌then◌else◌, Option, Some, None}
use Rattle.std.specs.List.{flat_map}
use Rattle.ws_telnet.specs.Token.{telnet_spelling}
use Rattle.ws_telnet.specs.declared.codes.TheConstants.{BINARY, TERMINAL_TYPE, END_OF_RECORD}
use Rattle.ws_telnet.specs.declared.token.Verb.{Verb}
use Rattle.ws_telnet.specs.declared.token.Verb.TheVariants.{Will, Wont, Do, Dont}
use Rattle.ws_telnet.specs.declared.token.Telnet.{Telnet}
use Rattle.ws_telnet.specs.declared.token.Telnet.TheVariants.{Option as Negotiate, Sub as Subnegotiate}
use Rattle.ws_nego.specs.declared.options.Direction.{Direction}
use Rattle.ws_nego.specs.declared.options.Direction.TheVariants.{StationBinary, StationTerminalType, StationEndOfRecord}
use Rattle.ws_nego.specs.declared.options.Direction.TheVariants.{HostBinary, HostEndOfRecord}
use Rattle.ws_nego.specs.declared.options.OptionTable.{OptionTable}

-- a table's entry of a direction
abbrev pub entry : {T : Type 0} → OptionTable T → Direction → T
entry table StationBinary = table.station_binary
entry table StationTerminalType = table.station_terminal_type
entry table StationEndOfRecord = table.station_end_of_record
entry table HostBinary = table.host_binary
entry table HostEndOfRecord = table.host_end_of_record

-- the table with this entry of the direction, and each other as it was
abbrev pub with_entry : {T : Type 0} → OptionTable T → Direction → T → OptionTable T
with_entry table StationBinary value = record table { station_binary = value }
with_entry table StationTerminalType value = record table { station_terminal_type = value }
with_entry table StationEndOfRecord value = record table { station_end_of_record = value }
with_entry table HostBinary value = record table { host_binary = value }
with_entry table HostEndOfRecord value = record table { host_end_of_record = value }

-- the table whose entries are all this one
abbrev pub uniform_table : {T : Type 0} → T → OptionTable T
uniform_table value = record {
  station_binary = value;
  station_terminal_type = value;
  station_end_of_record = value;
  host_binary = value;
  host_end_of_record = value;
}

-- the direction in which the station performs an option, where there is one
abbrev pub station_direction : ℕ → Option Direction
station_direction option =
    if option == BINARY then Some StationBinary
    else (if option == TERMINAL_TYPE then Some StationTerminalType
    else (if option == END_OF_RECORD then Some StationEndOfRecord
    else None))

-- the direction in which the host end performs an option, where there is one
abbrev pub host_direction : ℕ → Option Direction
host_direction option =
    if option == BINARY then Some HostBinary
    else (if option == END_OF_RECORD then Some HostEndOfRecord
    else None)

-- of which direction a verb speaks to the station: DO and DONT of what the station performs, WILL and WONT of what the
-- host end performs (RFC 854, "TELNET COMMAND STRUCTURE")
abbrev pub direction_at_station : Verb → ℕ → Option Direction
direction_at_station Do option = station_direction option
direction_at_station Dont option = station_direction option
direction_at_station Will option = host_direction option
direction_at_station Wont option = host_direction option

-- of which direction a verb speaks to the host end: DO and DONT of what the host end performs, WILL and WONT of what
-- the station performs (RFC 854, "TELNET COMMAND STRUCTURE")
abbrev pub direction_at_host : Verb → ℕ → Option Direction
direction_at_host Do option = host_direction option
direction_at_host Dont option = host_direction option
direction_at_host Will option = station_direction option
direction_at_host Wont option = station_direction option

-- how an option whose direction isn't in the table is answered: DO by WONT, WILL by DONT, the others not (RFC 854,
-- "GENERAL CONSIDERATIONS")
abbrev pub refusing_verb : Verb → Option Verb
refusing_verb Do = Some Wont
refusing_verb Will = Some Dont
refusing_verb Dont = None
refusing_verb Wont = None

-- the token that answers a verb of an option, where there is an answer
abbrev pub option_tokens : Option Verb → ℕ → List Telnet
option_tokens None option = []
option_tokens (Some verb) option = Negotiate verb option ∷ []

-- the subnegotiation of TERMINAL-TYPE that begins with this code, IS or SEND (RFC 1091, section 2)
abbrev pub terminal_type_token : ℕ → List ℕ → Telnet
terminal_type_token code name = Subnegotiate (record { option = TERMINAL_TYPE; data_ = code ∷ name })

-- the bytes of a list of tokens
abbrev pub telnet_bytes : List Telnet → List ℕ
telnet_bytes tokens = flat_map telnet_spelling tokens

-- what an end does at a token: its options afterwards, and the tokens of its reply
pub record Answer (State : Type 0) : Type 0 where
  pub after : State
  pub reply : List Telnet

-- what an end does at a token without effect: nothing
abbrev pub no_effect : {State : Type 0} → State → Answer State
no_effect state = record { after = state; reply = [] }

-- there is an answer, with these options afterwards and these bytes for its reply
abbrev pub AnswersWith : {State : Type 0} → Option (Answer State) → State → List ℕ → Type 0
AnswersWith None after bytes = ⊥
AnswersWith (Some answer) after bytes = (after ≡ answer.after) × (bytes ≡ telnet_bytes answer.reply)
