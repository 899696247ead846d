-- The options of a display station that has an identity: those of the profile, and NEW-ENVIRON beside them

use Rattle.std.specs.Prelude.{◌≡◌, Option, Some, None}
use Rattle.ws_telnet.specs.declared.token.Telnet.{Telnet}
use Rattle.ws_nego.specs.declared.terminal.TerminalType.{TerminalType}
use Rattle.ws_nego.specs.Options.{Answer}
use Rattle.ws_nego.specs.Station.{StationState, new_station, station_answer}
use Rattle.ws_identity.specs.declared.identity.Identity.{Identity}
use Rattle.ws_identity.specs.Environ.{EnvironState, new_environ, environ_answer}

-- what a contract sees of a station's options where it has an identity
pub record IdentityState : Type 0 where
  pub station : StationState
  pub environ : EnvironState

-- the options of a new session, with an identity
abbrev pub new_identity : TerminalType → Identity → IdentityState
new_identity terminal identity = record { station = new_station terminal; environ = new_environ identity }

-- the answer of NEW-ENVIRON where the token is of it, else that of the profile's options
abbrev pub either_answer : IdentityState → Answer StationState → Option (Answer EnvironState) → Answer IdentityState
either_answer options profile None =
    record { after = record options { station = profile.after }; reply = profile.reply }
either_answer options profile (Some answer) =
    record { after = record options { environ = answer.after }; reply = answer.reply }

-- what a station with an identity does at a token
abbrev pub identity_answer : IdentityState → Telnet → Answer IdentityState
identity_answer options token =
    either_answer options (station_answer options.station token) (environ_answer options.environ token)

-- a token is answered as by the profile, with the same options afterwards, and leaves
-- NEW-ENVIRON as it is
pub record IsAsProfile (options : IdentityState) (token : Telnet) : Type 0 where
  pub station : (identity_answer options token).after.station ≡ (station_answer options.station token).after
  pub environ : (identity_answer options token).after.environ ≡ options.environ
  pub reply : (identity_answer options token).reply ≡ (station_answer options.station token).reply
