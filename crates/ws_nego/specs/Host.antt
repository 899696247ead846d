-- The host end's options (RFC 854, 856, 885, 1091; RFC 4777, section 2)

use Rattle.std.specs.Prelude.{ℕ, List, [], ◌∷◌, ◌++◌, Bool, true, false, ◌==◌, ◌&&◌, if◌then◌else◌, Option, Some, None}
use Rattle.std.specs.Prelude.{is_none, is_some}
use Rattle.ws_telnet.specs.declared.codes.TheConstants.{BINARY, TERMINAL_TYPE, END_OF_RECORD}
use Rattle.ws_telnet.specs.declared.token.Verb.{Verb}
use Rattle.ws_telnet.specs.declared.token.Verb.TheVariants.{Will, Wont, Do, Dont}
use Rattle.ws_telnet.specs.declared.token.Sub.{Sub}
use Rattle.ws_telnet.specs.declared.token.Telnet.{Telnet}
use Rattle.ws_telnet.specs.declared.token.Telnet.TheVariants.{Command, Option as Negotiate, Sub as Subnegotiate}
use Rattle.ws_nego.specs.declared.terminal.TerminalType.{TerminalType}
use Rattle.ws_nego.specs.declared.options.TheConstants.{IS}
use Rattle.ws_nego.specs.declared.options.Direction.{Direction}
use Rattle.ws_nego.specs.declared.options.Direction.TheVariants.{StationTerminalType}
use Rattle.ws_nego.specs.declared.options.OptionTable.{OptionTable}
use Rattle.ws_nego.specs.declared.host.Mode.{Mode}
use Rattle.ws_nego.specs.declared.host.Mode.TheVariants.{Off, Asked, On}
use Rattle.ws_nego.specs.declared.host.TerminalName.{TerminalName}
use Rattle.ws_nego.specs.declared.host.TerminalName.TheVariants.{Unknown, Requested, Accepted}
use Rattle.ws_nego.specs.Terminal.{terminal_named}
use Rattle.ws_nego.specs.Options.{entry, with_entry, uniform_table}
use Rattle.ws_nego.specs.Options.{direction_at_host, refusing_verb, option_tokens, Answer, no_effect}
use Rattle.ws_nego.specs.Station.{name_request}

-- what a contract sees of a host end's options: each direction's mode, and what is known of the terminal's name
pub record HostState : Type 0 where
  pub modes : OptionTable Mode
  pub name : TerminalName

-- a host end's options before it has opened the session: all off, and no name asked for
abbrev pub new_host : HostState
new_host = record { modes = uniform_table Off; name = Unknown }

-- the first token of a session, by which the host end asks for the terminal type: DO TERMINAL-TYPE
abbrev pub opening : Telnet
opening = Negotiate Do TERMINAL_TYPE

-- the host end's options once it has written the opening
abbrev pub after_open : HostState → HostState
after_open host = record { modes = with_entry host.modes StationTerminalType Asked; name = host.name }

-- The host end's table: the direction's mode afterwards, and the answer. What was asked for and is
-- granted or refused isn't answered again (RFC 854, "GENERAL CONSIDERATIONS").
abbrev pub host_row : Verb → Mode → Mode × Option Verb
host_row Will Off = (On, Some Do)
host_row Will Asked = (On, None)
host_row Will On = (On, None)
host_row Wont Off = (Off, None)
host_row Wont Asked = (Off, None)
host_row Wont On = (Off, Some Dont)
host_row Do Off = (On, Some Will)
host_row Do Asked = (On, None)
host_row Do On = (On, None)
host_row Dont Off = (Off, None)
host_row Dont Asked = (Off, None)
host_row Dont On = (Off, Some Wont)

-- the mode is that of a direction that is on
abbrev pub is_on : Mode → Bool
is_on On = true
is_on Off = false
is_on Asked = false

-- the mode is that of a direction that was asked for, with no answer yet
abbrev pub is_asked : Mode → Bool
is_asked Asked = true
is_asked Off = false
is_asked On = false

-- no name was asked for yet
abbrev pub is_unknown : TerminalName → Bool
is_unknown Unknown = true
is_unknown Requested = false
is_unknown (Accepted terminal) = false

-- the terminal whose name was accepted, if one was
abbrev pub accepted_terminal : TerminalName → Option TerminalType
accepted_terminal Unknown = None
accepted_terminal Requested = None
accepted_terminal (Accepted terminal) = Some terminal

-- the verb is WONT TERMINAL-TYPE, and no name was accepted
abbrev pub is_name_withheld : HostState → Verb → Direction → Bool
is_name_withheld host Wont StationTerminalType = is_none (accepted_terminal host.name)
is_name_withheld host verb direction = false

-- the verb is WILL TERMINAL-TYPE, which turns the asked option on, and no name was asked for yet
abbrev pub is_name_offered : HostState → Verb → Direction → Bool
is_name_offered host Will StationTerminalType =
    is_asked host.modes.station_terminal_type && is_unknown host.name
is_name_offered host verb direction = false

-- the host end's options once the terminal type is on and its name is asked for
abbrev pub after_name_request : HostState → HostState
after_name_request host = record { modes = with_entry host.modes StationTerminalType On; name = Requested }

-- what the host end does at a verb in a direction, by its table
abbrev pub host_table_answer : HostState → Verb → ℕ → Direction → Answer HostState
host_table_answer host verb option direction =
    let row = host_row verb (entry host.modes direction) in
    record {
      after = record { modes = with_entry host.modes direction row.0; name = host.name };
      reply = option_tokens row.1 option;
    }

-- what the host end does at a verb of an option, in a direction of its table or in none
abbrev pub host_option_answer : HostState → Verb → ℕ → Option Direction → Option (Answer HostState)
host_option_answer host verb option None =
    Some (record { after = host; reply = option_tokens (refusing_verb verb) option })
host_option_answer host verb option (Some direction) =
    if is_name_withheld host verb direction then None
    else (if is_name_offered host verb direction
    then Some (record { after = after_name_request host; reply = name_request ∷ [] })
    else Some (host_table_answer host verb option direction))

-- the token that asks for a direction, where it isn't on
abbrev pub request : Mode → Verb → ℕ → List Telnet
request On verb option = []
request Off verb option = Negotiate verb option ∷ []
request Asked verb option = Negotiate verb option ∷ []

-- the mode of a direction once it was asked for: one that is on stays on
abbrev pub mode_once_requested : Mode → Mode
mode_once_requested On = On
mode_once_requested Off = Asked
mode_once_requested Asked = Asked

-- the tokens that ask for all that isn't on once a name is accepted: END-OF-RECORD, then BINARY, each from the station
-- first (RFC 1205, section 2)
abbrev pub requests : OptionTable Mode → List Telnet
requests modes =
    request modes.station_end_of_record Do END_OF_RECORD
    ++ request modes.host_end_of_record Will END_OF_RECORD
    ++ request modes.station_binary Do BINARY
    ++ request modes.host_binary Will BINARY

-- the modes once the directions that records need were asked for (RFC 1205, section 2)
abbrev pub modes_once_requested : OptionTable Mode → OptionTable Mode
modes_once_requested modes = record {
  station_binary = mode_once_requested modes.station_binary;
  station_terminal_type = modes.station_terminal_type;
  station_end_of_record = mode_once_requested modes.station_end_of_record;
  host_binary = mode_once_requested modes.host_binary;
  host_end_of_record = mode_once_requested modes.host_end_of_record;
}

-- the name in the content of a subnegotiation that is IS (RFC 1091, section 2)
abbrev pub name_after_is : List ℕ → Option (List ℕ)
name_after_is [] = None
name_after_is (code ∷ name) = if code == IS then Some name else None

-- the name that a subnegotiation brings, if it is IS of TERMINAL-TYPE (RFC 1091, section 2)
abbrev pub name_in : Sub → Option (List ℕ)
name_in sub = if sub.option == TERMINAL_TYPE then name_after_is sub.data_ else None

-- what the host end does at a name that it judges, by the terminal type that has it: it accepts the terminal, or
-- refuses where there is none
abbrev pub host_judgement : HostState → Option TerminalType → Option (Answer HostState)
host_judgement host None = None
host_judgement host (Some terminal) = Some (record {
  after = record { modes = modes_once_requested host.modes; name = Accepted terminal };
  reply = requests host.modes;
})

-- what the host end does at a name: the first one after SEND is judged, and no other
abbrev pub host_name_answer : HostState → TerminalName → List ℕ → Option (Answer HostState)
host_name_answer host Requested name = host_judgement host (terminal_named name)
host_name_answer host Unknown name = Some (no_effect host)
host_name_answer host (Accepted terminal) name = Some (no_effect host)

-- what the host end does at a subnegotiation, by the name that it brings, if it brings one
abbrev pub host_sub_answer : HostState → Option (List ℕ) → Option (Answer HostState)
host_sub_answer host None = Some (no_effect host)
host_sub_answer host (Some name) = host_name_answer host host.name name

-- what the host end does at a token: its options afterwards, and its reply; nothing where it refuses the token for
-- `UnsupportedTerminal`
abbrev pub host_answer : HostState → Telnet → Option (Answer HostState)
host_answer host (Command code) = Some (no_effect host)
host_answer host (Negotiate verb option) =
    host_option_answer host verb option (direction_at_host verb option)
host_answer host (Subnegotiate sub) = host_sub_answer host (name_in sub)

-- records are allowed at the host end: a terminal was accepted, and END-OF-RECORD and BINARY are on in both directions
abbrev pub host_allows_records : HostState → Bool
host_allows_records host =
    is_some (accepted_terminal host.name)
    && is_on host.modes.station_binary && is_on host.modes.station_end_of_record
    && is_on host.modes.host_binary && is_on host.modes.host_end_of_record
