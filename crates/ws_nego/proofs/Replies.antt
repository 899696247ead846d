-- What an end answers to a token that can be written can be written.
use Rattle.std.specs.List.{AllByRecursion}
use Rattle.std.proofs.Common.{ℕ, ◌<◌, List, [], ◌∷◌, ◌++◌, Option, Some, None, Bool, true, false, arith, rules}
use Rattle.std.proofs.Common.{if◌then◌else◌}
use Rattle.ws_code.proofs.Lists.{AllByRecursion-append}
use Rattle.ws_telnet.specs.Token.{IsTelnet}
use Rattle.ws_telnet.specs.declared.codes.TheConstants.{END_OF_RECORD, BINARY}
use Rattle.ws_telnet.specs.declared.token.Telnet.{Telnet}
use Rattle.ws_telnet.specs.declared.token.Telnet.TheVariants.{Command, Option as Negotiate, Sub as Subnegotiate}
use Rattle.ws_telnet.specs.declared.token.Verb.{Verb}
use Rattle.ws_telnet.specs.declared.token.Verb.TheVariants.{Will, Do}
use Rattle.ws_nego.specs.Host.{HostState, host_answer, host_option_answer, host_table_answer, host_sub_answer}
use Rattle.ws_nego.specs.Host.{host_name_answer, host_judgement, after_name_request, is_name_offered, request, requests}
use Rattle.ws_nego.specs.Options.{Answer, option_tokens}
use Rattle.ws_nego.specs.Station.{StationState, station_answer, station_option_answer, name_answer, name_request}
use Rattle.ws_nego.specs.declared.host.Mode.{Mode}
use Rattle.ws_nego.specs.declared.host.Mode.TheVariants.{On}
use Rattle.ws_nego.specs.declared.host.TerminalName.{TerminalName}
use Rattle.ws_nego.specs.declared.host.TerminalName.TheVariants.{Requested}
use Rattle.ws_nego.specs.declared.options.Direction.{Direction}
use Rattle.ws_nego.specs.declared.options.OptionTable.{OptionTable}
use Rattle.ws_nego.specs.declared.terminal.TerminalType.{TerminalType}
use Rattle.ws_nego.specs.declared.terminal.TerminalType.TheVariants.{Ibm5251Model11}

option_in_range : (verb : Option Verb) (option : ℕ) → option < 256 → AllByRecursion IsTelnet (option_tokens verb option)
option_in_range None option h = tt
option_in_range (Some verb) option h = (h, tt)

name_in_range : (t : TerminalType) → IsTelnet (name_answer t)
name_in_range Ibm5251Model11 = search rules
name_in_range t = search rules

pub reply_in_range : (s : StationState) (token : Telnet) → IsTelnet token → AllByRecursion IsTelnet
    (station_answer s token).reply
reply_in_range s (Command code) h = tt
reply_in_range s (Negotiate verb option) h = by_direction _ where
  by_direction : (d : Option Direction) → AllByRecursion IsTelnet (station_option_answer s verb option d).reply
  by_direction None = option_in_range _ _ h
  by_direction (Some direction) = option_in_range _ _ h
reply_in_range s (Subnegotiate sub) h = by_test _ where
  by_test : (b : Bool) → AllByRecursion IsTelnet (if b then name_answer s.terminal ∷ [] else [])
  by_test true = (name_in_range _, tt)
  by_test false = tt

-- the tokens of a reply are in range
abbrev pub Ranges : Option (Answer HostState) → Type 0
Ranges None = Unit {0}
Ranges (Some answer) = AllByRecursion IsTelnet answer.reply

request_in_range : (mode : Mode) (verb : Verb) (option : ℕ) → option < 256 → AllByRecursion IsTelnet
    (request mode verb option)
request_in_range On verb option h = tt
request_in_range mode verb option h = (h, tt)

requests_in_range : (modes : OptionTable Mode) → AllByRecursion IsTelnet (requests modes)
requests_in_range modes =
    let a = request modes.station_end_of_record Do END_OF_RECORD in
    let b = request modes.host_end_of_record Will END_OF_RECORD in
    let c = request modes.station_binary Do BINARY in
    let d = request modes.host_binary Will BINARY in
    AllByRecursion-append _ _ d (AllByRecursion-append _ _ c (AllByRecursion-append _ a b
    (request_in_range _ Do _ (omega arith)) (request_in_range _ Will _ (omega arith)))
    (request_in_range _ Do _ (omega arith))) (request_in_range _ Will _ (omega arith))

asks_in_range : IsTelnet name_request
asks_in_range = search rules

pub host_reply_in_range : (h : HostState) (token : Telnet) → IsTelnet token → Ranges (host_answer h token)
host_reply_in_range h (Command code) r = tt
host_reply_in_range h (Negotiate verb option) r = by_direction _ where
  by_offer : (d : Direction) (b : Bool)
      → Ranges (if b then Some (record { after = after_name_request h; reply = name_request ∷ [] }) else Some
      (host_table_answer h verb option d))
  by_offer d true = (asks_in_range, tt)
  by_offer d false = option_in_range _ _ r

  by_test : (d : Direction) (b : Bool) → Ranges (if b then None else
      (if is_name_offered h verb d then Some (record { after = after_name_request h; reply = name_request ∷ [] })
      else Some (host_table_answer h verb option d)))
  by_test d true = tt
  by_test d false = by_offer d _

  by_direction : (o : Option Direction) → Ranges (host_option_answer h verb option o)
  by_direction None = option_in_range _ _ r
  by_direction (Some d) = by_test d _
host_reply_in_range h (Subnegotiate sub) r = by_name _ where
  by_terminal : (o : Option TerminalType) → Ranges (host_judgement h o)
  by_terminal None = tt
  by_terminal (Some terminal) = requests_in_range h.modes

  by_known : (n : TerminalName) (name : List ℕ) → Ranges (host_name_answer h n name)
  by_known Requested name = by_terminal _
  by_known n name = tt

  by_name : (o : Option (List ℕ)) → Ranges (host_sub_answer h o)
  by_name None = tt
  by_name (Some name) = by_known _ name
