-- What a station that may have an identity answers to a Telnet command

use Rattle.std.specs.Prelude.{List, Option, Some, None}
use Rattle.std.specs.Option.{option_map_or}
use Rattle.ws_telnet.specs.declared.token.Telnet.{Telnet}
use Rattle.ws_nego.specs.Options.{Answer}
use Rattle.ws_nego.specs.Station.{StationState, station_answer}
use Rattle.ws_identity.specs.Environ.{EnvironState, environ_answer}

-- the answer of NEW-ENVIRON, where there is an identity and the command is of it
abbrev pub identity_told : Option EnvironState → Telnet → Option (Answer EnvironState)
identity_told None token = None
identity_told (Some environ) token = environ_answer environ token

-- NEW-ENVIRON after a command
abbrev pub environ_after : Option EnvironState → Telnet → Option EnvironState
environ_after environ token = option_map_or (λ answer. Some answer.after) (identity_told environ token) environ

-- the reply: that of NEW-ENVIRON, else the profile's
abbrev pub reply_to : StationState → Option EnvironState → Telnet → List Telnet
reply_to options environ token =
    option_map_or (λ answer. answer.reply) (identity_told environ token) (station_answer options token).reply
