-- Tokens and their spellings (RFC 854; EOR: RFC 885)

use Rattle.std.specs.Prelude.{ℕ, ◌<◌, ◌≤◌, ◌==◌, List, [], ◌∷◌, ◌++◌, if◌then◌else◌, length, Bool, true, false, not}
use Rattle.std.specs.Prelude.{◌&&◌}
use Rattle.std.specs.List.{flat_map}
use Rattle.ws_code.specs.Code.{Rules, AreBytes}
use Rattle.ws_code.specs.declared.reason.Reason.{Reason}
use Rattle.ws_code.specs.declared.reason.Reason.TheVariants.{BadCommand, StraySe, BadSub, SubTooLong}
use Rattle.ws_telnet.specs.declared.codes.TheConstants.{IAC, SB, SE, EOR}
use Rattle.ws_telnet.specs.declared.token.CommandCode.{CommandCode}
use Rattle.ws_telnet.specs.declared.token.CommandCode.TheVariants.{Nop, DataMark, Break, InterruptProcess, AbortOutput}
use Rattle.ws_telnet.specs.declared.token.CommandCode.TheVariants.{AreYouThere, EraseCharacter, EraseLine, GoAhead}
use Rattle.ws_telnet.specs.declared.token.Verb.{Verb}
use Rattle.ws_telnet.specs.declared.token.Verb.TheVariants.{Will, Wont, Do, Dont}
use Rattle.ws_telnet.specs.declared.token.Telnet.{Telnet}
use Rattle.ws_telnet.specs.declared.token.Telnet.TheVariants.{Command, Option as Negotiate, Sub as Subnegotiate}
use Rattle.ws_telnet.specs.declared.token.Token.{Token}
use Rattle.ws_telnet.specs.declared.token.Token.TheVariants.{Data, Eor, Telnet as TelnetToken}

-- the byte after IAC that is the command (RFC 854)
abbrev pub command_byte : CommandCode → ℕ
command_byte Nop = 0xf1
command_byte DataMark = 0xf2
command_byte Break = 0xf3
command_byte InterruptProcess = 0xf4
command_byte AbortOutput = 0xf5
command_byte AreYouThere = 0xf6
command_byte EraseCharacter = 0xf7
command_byte EraseLine = 0xf8
command_byte GoAhead = 0xf9

-- the byte after IAC that is the verb (RFC 854, RFC 855)
abbrev pub verb_byte : Verb → ℕ
verb_byte Will = 0xfb
verb_byte Wont = 0xfc
verb_byte Do = 0xfd
verb_byte Dont = 0xfe

-- a data byte as it is written, with FF doubled (RFC 854)
abbrev pub doubled : ℕ → List ℕ
doubled b = if b == IAC then IAC ∷ IAC ∷ [] else b ∷ []

-- the bytes of a Telnet command: IAC, what it is, and a subnegotiation up to its IAC SE
abbrev pub telnet_spelling : Telnet → List ℕ
telnet_spelling (Command code) = IAC ∷ command_byte code ∷ []
telnet_spelling (Negotiate verb option) = IAC ∷ verb_byte verb ∷ option ∷ []
telnet_spelling (Subnegotiate sub) = IAC ∷ SB ∷ sub.option ∷ flat_map doubled sub.data_ ++ IAC ∷ SE ∷ []

-- the bytes of a token: a data byte has FF doubled, the end of a record is IAC EOR (RFC 885)
abbrev pub token_spelling : Token → List ℕ
token_spelling (Data b) = doubled b
token_spelling Eor = IAC ∷ EOR ∷ []
token_spelling (TelnetToken t) = telnet_spelling t

-- what may be a Telnet command: an option's number is a byte, and a subnegotiation has at most 64 bytes
abbrev pub IsTelnet : Telnet → Type 0
IsTelnet (Command code) = Unit {0}
IsTelnet (Negotiate verb option) = option < 256
IsTelnet (Subnegotiate sub) = (sub.option < 256) × (length sub.data_ ≤ 64) × AreBytes sub.data_

-- what may be a token: a data byte is a byte, and a Telnet command one that can be sent
abbrev pub IsToken : Token → Type 0
IsToken (Data b) = b < 256
IsToken Eor = Unit {0}
IsToken (TelnetToken t) = IsTelnet t

-- the content of a subnegotiation ends with the first FF of a pair
abbrev pub ends_in_iac : List ℕ → Bool
ends_in_iac [] = false
ends_in_iac (b ∷ []) = b == IAC
ends_in_iac (b ∷ c ∷ content) = if b == IAC then ends_in_iac content else ends_in_iac (c ∷ content)

-- the reason of a byte that can't follow the bytes of a token so far
abbrev pub token_reason : List ℕ → ℕ → Reason
token_reason (iac ∷ sb ∷ option ∷ content) b = if ends_in_iac content && not (b == IAC) then BadSub else SubTooLong
token_reason begun b = if b == SE then StraySe else BadCommand

-- the grammar of tokens: each may follow each
abbrev pub token_rules : Rules (Unit {0}) Token
token_rules = record {
  first = tt;
  after = λ _. tt;
  is_unit = IsToken;
  may_follow = λ _ _. true;
  may_end = λ _. true;
  spelling = token_spelling;
  reason = λ _ begun b. token_reason begun b;
}
