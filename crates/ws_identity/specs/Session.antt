-- A session's questions: the first that is answered is told the device's name, and each later one is counted

use Rattle.std.specs.Prelude.{ℕ, ◌≡◌, ◌+◌, ◌-◌, ◌^◌, min, nat_lt, List, [], ◌∷◌, Bool, false, ◌==◌, ◌&&◌, if◌then◌else◌}
use Rattle.std.specs.Prelude.{is_some}
use Rattle.std.specs.Option.{option_map_or}
use Rattle.ws_telnet.specs.declared.token.Telnet.{Telnet}
use Rattle.ws_telnet.specs.declared.token.Telnet.TheVariants.{Command, Option as Negotiate, Sub as Subnegotiate}
use Rattle.ws_identity.specs.declared.codes.TheConstants.{NEW_ENVIRON}
use Rattle.ws_identity.specs.declared.identity.Identity.{Identity}
use Rattle.ws_identity.specs.Environ.{EnvironState, new_environ, environ_answer, asks}

-- the token is a question that is answered: SEND while the option is on
abbrev pub is_answered_question : EnvironState → Telnet → Bool
is_answered_question environ (Command code) = false
is_answered_question environ (Negotiate verb option) = false
is_answered_question environ (Subnegotiate sub) = (sub.option == NEW_ENVIRON) && (environ.on && asks sub.data_)

-- the option after a token
abbrev pub after_token : EnvironState → Telnet → EnvironState
after_token environ token = option_map_or (λ answer. answer.after) (environ_answer environ token) environ

-- the option after tokens, one after another
abbrev pub after_tokens : EnvironState → List Telnet → EnvironState
after_tokens environ [] = environ
after_tokens environ (token ∷ tokens) = after_tokens (after_token environ token) tokens

-- how many of them are questions that are answered
abbrev pub answered : EnvironState → List Telnet → ℕ
answered environ [] = 0
answered environ (token ∷ tokens) =
    (if is_answered_question environ token then 1 else 0) + answered (after_token environ token) tokens

-- after the tokens of a session the device's name, where there is one, has been told if some question was answered, and
-- all but the first of these count as refusals of it
pub record IsToldOnce (identity : Identity) (tokens : List Telnet) : Type 0 where
  pub told : (after_tokens (new_environ identity) tokens).name_told
      ≡ (is_some identity.device && nat_lt 0 (answered (new_environ identity) tokens))
  pub refused : (after_tokens (new_environ identity) tokens).names_refused
      ≡ (if is_some identity.device then min (answered (new_environ identity) tokens - 1) (2 ^ 64 - 1) else 0)
