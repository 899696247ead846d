-- What a byte makes of a token that has begun (RFC 854; EOR: RFC 885).

use Rattle.std.specs.Prelude.{ℕ, ◌≡◌, List, [], ◌∷◌, ◌++◌}
use Rattle.ws_code.specs.Code.{IsSpelled, IsPrefix, IsUnfinished}
use Rattle.ws_telnet.specs.Machine.{unfinished_token, sub_of}
use Rattle.ws_telnet.specs.Token.{token_rules, token_reason}
use Rattle.ws_telnet.specs.declared.codes.TheConstants.{IAC}
use Rattle.ws_telnet.specs.declared.token.Sub.{Sub}
use Rattle.ws_telnet.specs.declared.token.Telnet.{Telnet as ATelnet}
use Rattle.ws_telnet.specs.declared.token.Telnet.TheVariants as telnet
use Rattle.ws_telnet.specs.declared.token.Token.{Token}
use Rattle.ws_telnet.specs.declared.token.Token.TheVariants as token
use Rattle.ws_telnet.specs.declared.tokens.Tokens.{Tokens}
use Rattle.ws_telnet.specs.declared.word.TelnetWord.{TelnetWord}
use Rattle.ws_telnet.specs.declared.word.TelnetWord.TheVariants as said
use Rattle.ws_telnet.specs.declared.word.Word.{Word}
use Rattle.ws_telnet.specs.declared.word.Word.TheVariants.{More, Data, Eor, Telnet, Bad}

-- the command that the word says, with this subnegotiation where it is one
abbrev pub telnet_of : TelnetWord → Sub → ATelnet
telnet_of (said.Command code) sub = telnet.Command code
telnet_of (said.Option verb option) sub = telnet.Option verb option
telnet_of said.Sub sub = telnet.Sub sub

-- the bytes are the spelling of the token, and the machine stands between tokens
abbrev pub IsWholeToken : List ℕ → Tokens → Token → Type 0
IsWholeToken bytes machine token = IsSpelled token_rules tt bytes token × (unfinished_token machine ≡ [])

-- After the bytes of a begun token the byte makes this word, and leaves this machine: with it the token is still
-- unfinished, or is whole, or it is refused. After a whole token and a refused byte the machine stands between tokens.
abbrev pub IsWord : List ℕ → ℕ → Tokens → Word → Type 0
IsWord begun b machine More =
    (unfinished_token machine ≡ begun ++ b ∷ []) × IsUnfinished token_rules tt (unfinished_token machine)
IsWord begun b machine Data = IsWholeToken (begun ++ b ∷ []) machine (token.Data IAC)
IsWord begun b machine Eor = IsWholeToken (begun ++ b ∷ []) machine token.Eor
IsWord begun b machine (Telnet word) =
    IsWholeToken (begun ++ b ∷ []) machine (token.Telnet (telnet_of word (sub_of machine)))
IsWord begun b machine (Bad reason) =
    (IsPrefix token_rules tt (begun ++ b ∷ []) → ⊥) × (reason ≡ token_reason begun b) × (unfinished_token machine ≡ [])
