-- The option NEW-ENVIRON at a display station that has an identity (RFC 1572; its variables: RFC 4777)

use Rattle.std.specs.Prelude.{ℕ, List, [], ◌∷◌, ◌++◌, Bool, true, false, ◌==◌, ◌&&◌, not, if◌then◌else◌, Option, Some, None}
use Rattle.std.specs.Prelude.{is_some, unwrap_or, codes}
use Rattle.ws_code.specs.CodePage.{page_keyboard, page_digits, page_character_set}
use Rattle.ws_code.specs.Device.{one_more}
use Rattle.ws_telnet.specs.declared.token.Verb.{Verb}
use Rattle.ws_telnet.specs.declared.token.Verb.TheVariants.{Will, Wont, Do, Dont}
use Rattle.ws_telnet.specs.declared.token.Telnet.{Telnet}
use Rattle.ws_telnet.specs.declared.token.Telnet.TheVariants.{Command, Option as Negotiate, Sub as Subnegotiate}
use Rattle.ws_nego.specs.Options.{Answer, no_effect, option_tokens}
use Rattle.ws_identity.specs.declared.codes.TheConstants.{NEW_ENVIRON, IS, SEND, VALUE, USERVAR}
use Rattle.ws_identity.specs.declared.identity.Identity.{Identity}

-- a variable and its value (RFC 1572, section 2); none of ours has a byte that is escaped there
abbrev pub variable : List ℕ → List ℕ → List ℕ
variable name value = USERVAR ∷ name ++ VALUE ∷ value

-- the name of the device, where there is one
abbrev pub device_variable : Option (List ℕ) → List ℕ
device_variable None = []
device_variable (Some name) = variable (codes "DEVNAME") name

-- keyboard type, code page and character set
abbrev pub page_variables : Identity → List ℕ
page_variables identity =
    variable (codes "KBDTYPE") (unwrap_or identity.keyboard (page_keyboard identity.page.country))
    ++ variable (codes "CODEPAGE") (page_digits identity.page)
    ++ variable (codes "CHARSET") (page_character_set identity.page)

-- IS with the device's name or without it (RFC 1572, section 2)
abbrev pub told : Identity → Bool → List ℕ
told identity named =
    IS ∷ (if named then device_variable identity.device else []) ++ page_variables identity

-- the subnegotiation that tells it
abbrev pub told_token : Identity → Bool → Telnet
told_token identity named = Subnegotiate (record { option = NEW_ENVIRON; data_ = told identity named })

-- what a contract sees of the option: who the station is, whether the option is on, whether the device's name was told,
-- and how often the host has asked again since
pub record EnvironState : Type 0 where
  pub identity : Identity
  pub on : Bool
  pub name_told : Bool
  pub names_refused : ℕ

-- the option of a new session: off, and nothing told
abbrev pub new_environ : Identity → EnvironState
new_environ identity = record { identity = identity; on = false; name_told = false; names_refused = 0 }

-- Whether the option is on after a verb, and the answer. The station performs it when it is asked to, and lets no host
-- perform it. What stands already isn't acknowledged (RFC 854, "GENERAL CONSIDERATIONS").
abbrev pub environ_row : Verb → Bool → Bool × Option Verb
environ_row Do false = (true, Some Will)
environ_row Do true = (true, None)
environ_row Dont true = (false, Some Wont)
environ_row Dont false = (false, None)
environ_row Will on = (on, Some Dont)
environ_row Wont on = (on, None)

-- SEND, whatever is asked for (RFC 1572, section 2)
abbrev pub asks : List ℕ → Bool
asks [] = false
asks (code ∷ rest) = code == SEND

-- what has been told once a host has asked: the device's name, where there is one; where it was told before, the host
-- has refused it (RFC 4777)
abbrev pub after_asked : EnvironState → EnvironState
after_asked environ =
    if is_some environ.identity.device
    then (if environ.name_told then record environ { names_refused = one_more environ.names_refused }
    else record environ { name_told = true })
    else environ

-- what the station does at a subnegotiation of the option
abbrev pub environ_sub_answer : EnvironState → List ℕ → Answer EnvironState
environ_sub_answer environ content =
    if environ.on && asks content
    then record {
      after = after_asked environ;
      reply = told_token environ.identity (not environ.name_told) ∷ [];
    }
    else no_effect environ

-- what the station does at a verb of the option
abbrev pub environ_verb_answer : EnvironState → Verb → Answer EnvironState
environ_verb_answer environ verb =
    let row = environ_row verb environ.on in
    record { after = record environ { on = row.0 }; reply = option_tokens row.1 NEW_ENVIRON }

-- the token speaks of this option
abbrev pub is_of_environ : Telnet → Bool
is_of_environ (Command code) = false
is_of_environ (Negotiate verb option) = option == NEW_ENVIRON
is_of_environ (Subnegotiate sub) = sub.option == NEW_ENVIRON

-- what the station does at a token of the option, which is none at another
abbrev pub environ_answer : EnvironState → Telnet → Option (Answer EnvironState)
environ_answer environ (Command code) = None
environ_answer environ (Negotiate verb option) =
    if option == NEW_ENVIRON then Some (environ_verb_answer environ verb) else None
environ_answer environ (Subnegotiate sub) =
    if sub.option == NEW_ENVIRON then Some (environ_sub_answer environ sub.data_) else None
