-- The station's options (RFC 854, 856, 885, 1091; RFC 4777, section 2)

use Rattle.std.specs.Prelude.{ℕ, [], ◌∷◌, Bool, true, false, ◌==◌, ◌&&◌, if◌then◌else◌, Option, Some, None}
use Rattle.std.specs.Str.{bytes_eq}
use Rattle.ws_telnet.specs.declared.codes.TheConstants.{TERMINAL_TYPE}
use Rattle.ws_telnet.specs.declared.token.Verb.{Verb}
use Rattle.ws_telnet.specs.declared.token.Verb.TheVariants.{Will, Wont, Do, Dont}
use Rattle.ws_telnet.specs.declared.token.Sub.{Sub}
use Rattle.ws_telnet.specs.declared.token.Telnet.{Telnet}
use Rattle.ws_telnet.specs.declared.token.Telnet.TheVariants.{Command, Option as Negotiate, Sub as Subnegotiate}
use Rattle.ws_nego.specs.declared.terminal.TerminalType.{TerminalType}
use Rattle.ws_nego.specs.declared.options.TheConstants.{IS, SEND}
use Rattle.ws_nego.specs.declared.options.Direction.{Direction}
use Rattle.ws_nego.specs.declared.options.OptionTable.{OptionTable}
use Rattle.ws_nego.specs.Terminal.{terminal_type_name}
use Rattle.ws_nego.specs.Options.{entry, with_entry, uniform_table, direction_at_station, refusing_verb}
use Rattle.ws_nego.specs.Options.{option_tokens, terminal_type_token, Answer, no_effect}

-- what a contract sees of a station's options: its terminal, and which directions are on
pub record StationState : Type 0 where
  pub terminal : TerminalType
  pub on : OptionTable Bool

-- a station's options at the start: its terminal, and no direction on
abbrev pub new_station : TerminalType → StationState
new_station terminal = record { terminal = terminal; on = uniform_table false }

-- The station's table: whether the direction is on afterwards, and the answer. What is asked and stands already isn't
-- acknowledged (RFC 854, "GENERAL CONSIDERATIONS").
abbrev pub station_row : Verb → Bool → Bool × Option Verb
station_row Do false = (true, Some Will)
station_row Do true = (true, None)
station_row Will false = (true, Some Do)
station_row Will true = (true, None)
station_row Dont false = (false, None)
station_row Dont true = (false, Some Wont)
station_row Wont false = (false, None)
station_row Wont true = (false, Some Dont)

-- SEND, which asks for the terminal's name (RFC 1091, section 2)
abbrev pub name_request : Telnet
name_request = terminal_type_token SEND []

-- IS with the name of the terminal (RFC 1091, section 2)
abbrev pub name_answer : TerminalType → Telnet
name_answer terminal = terminal_type_token IS (terminal_type_name terminal)

-- the subnegotiation is SEND, which asks for the terminal's name (RFC 1091, section 2)
abbrev pub is_name_request : Sub → Bool
is_name_request sub = (sub.option == TERMINAL_TYPE) && bytes_eq sub.data_ (SEND ∷ [])

-- what the station does at a verb of an option, in a direction of its table or in none
abbrev pub station_option_answer : StationState → Verb → ℕ → Option Direction → Answer StationState
station_option_answer station verb option None =
    record { after = station; reply = option_tokens (refusing_verb verb) option }
station_option_answer station verb option (Some direction) =
    let row = station_row verb (entry station.on direction) in
    record {
      after = record { terminal = station.terminal; on = with_entry station.on direction row.0 };
      reply = option_tokens row.1 option;
    }

-- what the station does at a token: its options afterwards, and its reply
abbrev pub station_answer : StationState → Telnet → Answer StationState
station_answer station (Command code) = no_effect station
station_answer station (Negotiate verb option) =
    station_option_answer station verb option (direction_at_station verb option)
station_answer station (Subnegotiate sub) = record {
  after = station;
  reply =
      if is_name_request sub && station.on.station_terminal_type
      then name_answer station.terminal ∷ []
      else [];
}

-- records are allowed at the station: END-OF-RECORD and BINARY are on in both directions
abbrev pub station_allows_records : StationState → Bool
station_allows_records station =
    station.on.station_binary && station.on.station_end_of_record
    && station.on.host_binary && station.on.host_end_of_record
