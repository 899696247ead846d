-- How a host that takes any terminal name negotiates (RFC 854, 856, 885, 1091; RFC 4777, section 2)

use Rattle.std.specs.Prelude.{◌≡◌, ℕ, List, [], Option, Some, None}
use Rattle.ws_telnet.specs.declared.token.Sub.{Sub}
use Rattle.ws_telnet.specs.declared.token.Telnet.{Telnet}
use Rattle.ws_telnet.specs.declared.token.Telnet.TheVariants.{Command, Option as Negotiate, Sub as Subnegotiate}
use Rattle.ws_nego.specs.declared.terminal.TerminalType.TheVariants.{Ibm3179Model2}
use Rattle.ws_nego.specs.declared.options.TheConstants.{IS}
use Rattle.ws_nego.specs.declared.host.TerminalName.{TerminalName}
use Rattle.ws_nego.specs.declared.host.TerminalName.TheVariants.{Requested}
use Rattle.ws_nego.specs.Host.{HostState, new_host, after_open, host_answer, name_in}
use Rattle.ws_nego.specs.Options.{Answer, terminal_type_token}
use Rattle.ws_nego.specs.Terminal.{terminal_type_name}

-- the options of a host end, and the terminal's name as the station has told it: none before, so that it is empty
pub record Negotiated : Type 0 where
  pub host : HostState
  pub name : List ℕ

-- the options of such a host that hasn't opened the session, and no name
abbrev pub new_negotiated : Negotiated
new_negotiated = record { host = new_host; name = [] }

-- the options of such a host that has asked for the terminal type
abbrev pub once_opened : Negotiated → Negotiated
once_opened n = record { host = after_open n.host; name = n.name }

-- what tells a name that the host end knows; own choice: any of its names would do
abbrev pub known_name : Telnet
known_name = terminal_type_token IS (terminal_type_name Ibm3179Model2)

-- a subnegotiation, in which any name is that one
abbrev pub known_sub : Sub → Option (List ℕ) → Telnet
known_sub sub None = Subnegotiate sub
known_sub sub (Some name) = known_name

-- a token in which any name is a known one
abbrev pub known_token : Telnet → Telnet
known_token (Command code) = Command code
known_token (Negotiate verb option) = Negotiate verb option
known_token (Subnegotiate sub) = known_sub sub (name_in sub)

-- the name after a subnegotiation: the first that is told after SEND, and no other (RFC 1091, section 2)
abbrev pub name_behind : TerminalName → List ℕ → Option (List ℕ) → List ℕ
name_behind Requested old (Some name) = name
name_behind state old told = old

-- the name after a token
abbrev pub name_after : Negotiated → Telnet → List ℕ
name_after n (Command code) = n.name
name_after n (Negotiate verb option) = n.name
name_after n (Subnegotiate sub) = name_behind n.host.name n.name (name_in sub)

-- an answer of the host end, with this name
abbrev pub answer_with : List ℕ → Option (Answer HostState) → Option (Answer Negotiated)
answer_with name None = None
answer_with name (Some answer) = Some (record {
  after = record { host = answer.after; name = name };
  reply = answer.reply;
})

-- what such a host answers to a token: as a host end does, to which any name is a known one
abbrev pub any_answer : Negotiated → Telnet → Option (Answer Negotiated)
any_answer n token = answer_with (name_after n token) (host_answer n.host (known_token token))

-- such a host answers as a host end does: with the same reply, and the same modes
abbrev pub AnswersAlike : Option (Answer Negotiated) → Answer HostState → Type 0
AnswersAlike None answer = ⊥
AnswersAlike (Some any) answer = (any.reply ≡ answer.reply) × (any.after.host.modes ≡ answer.after.modes)
