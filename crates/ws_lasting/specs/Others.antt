-- What a station with an identity makes of all but NEW-ENVIRON

use Rattle.std.specs.Prelude.{◌≡◌, ◌↔◌, ℕ, List, Bool, false, None}
use Rattle.ws_code.specs.declared.code.Push.{Push}
use Rattle.ws_code.specs.declared.code.Push.TheVariants.{Unit as Whole}
use Rattle.ws_telnet.specs.declared.token.Token.{Token}
use Rattle.ws_telnet.specs.declared.token.Token.TheVariants.{Telnet as TelnetToken}
use Rattle.ws_identity.specs.Environ.{is_of_environ}
use Rattle.ws_end.specs.station.Displays.{OnDisplay}
use Rattle.ws_lasting.specs.Lasting.{FootingOn, IsAtWord}
use Rattle.ws_lasting.specs.declared.record_event.RecordEvent.{RecordEvent}

-- a token of NEW-ENVIRON ends
abbrev pub is_environ_word : Push Token → Bool
is_environ_word (Whole (TelnetToken token)) = is_of_environ token
is_environ_word other = false

module _ (on : OnDisplay) where
  -- the station that stands there without an identity
  abbrev pub anonymous : FootingOn on → FootingOn on
  anonymous at = record at { environ = None }

  -- where no token of NEW-ENVIRON ends the option stays as it is, and all else is as without an identity
  abbrev pub OthersAsBefore : Type 0
  OthersAsBefore = (at next : FootingOn on) (word : Push Token) (written : List ℕ) (told : List RecordEvent)
      → is_environ_word word ≡ false → IsAtWord on at word next written told
      ↔ ((next.environ ≡ at.environ) × IsAtWord on (anonymous at) word (anonymous next) written told)
