-- Streams of tokens (RFC 854: a command may stand between any two; RFC 885: EOR ends a record)

use Rattle.std.specs.Prelude.{◌≡◌, ◌≢◌, ℕ, List, [], ◌∷◌, ◌++◌, ◌⊎◌}
use Rattle.std.specs.List.{flat_map, AllByRecursion}
use Rattle.ws_code.specs.Code.{IsWhole, IsCut, spelling_of}
use Rattle.ws_telnet.specs.Token.{token_rules}
use Rattle.ws_telnet.specs.declared.token.Telnet.{Telnet}
use Rattle.ws_telnet.specs.declared.token.Token.{Token}
use Rattle.ws_telnet.specs.declared.token.Token.TheVariants.{Data, Eor, Telnet as TelnetToken}

-- the data bytes that a token carries
abbrev pub data_of : Token → List ℕ
data_of (Data b) = b ∷ []
data_of Eor = []
data_of (TelnetToken t) = []

-- the Telnet command that a token is, if it is one
abbrev pub command_of : Token → List Telnet
command_of (Data b) = []
command_of Eor = []
command_of (TelnetToken t) = t ∷ []

-- the data bytes that tokens carry, an FF no longer doubled
abbrev pub carried : List Token → List ℕ
carried tokens = flat_map data_of tokens

-- none of the tokens ends a record
abbrev pub HasNoEor : List Token → Type 0
HasNoEor tokens = AllByRecursion (λ t. t ≢ Eor) tokens

-- parts of a stream of tokens, each with an EOR after it, and the rest
abbrev pub joined : List (List Token) → List Token → List Token
joined parts rest = flat_map (λ part. part ++ Eor ∷ []) parts ++ rest

-- The bytes are tokens, cut into records by their EORs (RFC 885). The data bytes of each record have this property, and
-- none stand after the last EOR.
pub record IsStream (P : List ℕ → Type 0) (bytes : List ℕ) : Type 0 where
  pub parts : List (List Token)
  pub rest : List Token
  pub no_eor : AllByRecursion HasNoEor parts × HasNoEor rest
  pub each : AllByRecursion (λ part. P (carried part)) parts
  pub closed : carried rest ≡ []
  pub tokens : IsWhole token_rules (joined parts rest)
  pub spelled : bytes ≡ spelling_of token_rules (joined parts rest)

-- the bytes are whole tokens, the last of them after these data bytes since the EOR before
pub record EndsWithToken (bytes record_so_far : List ℕ) (last : Token) : Type 0 where
  pub parts : List (List Token)
  pub rest : List Token
  pub no_eor : AllByRecursion HasNoEor parts × HasNoEor rest
  pub is_open : record_so_far ≡ carried rest
  pub tokens : IsWhole token_rules (joined parts rest ++ last ∷ [])
  pub spelled : bytes ≡ spelling_of token_rules (joined parts rest ++ last ∷ [])

-- The bytes end with a whole EOR command, and these are the data bytes before it, back to the EOR before that.
abbrev pub EndsRecord : List ℕ → List ℕ → Type 0
EndsRecord bytes ended = EndsWithToken bytes ended Eor

-- The bytes end elsewhere, perhaps inside a command, and these are the data bytes since the last whole EOR.
pub record LeavesOpen (bytes record_so_far : List ℕ) : Type 0 where
  pub parts : List (List Token)
  pub rest : List Token
  pub begun : List ℕ
  pub no_eor : AllByRecursion HasNoEor parts × HasNoEor rest
  pub cut : IsCut token_rules bytes (joined parts rest) begun
  pub is_open : record_so_far ≡ carried rest
  pub elsewhere : (ended : List ℕ) → EndsRecord bytes ended → ⊥

-- Where an EOR ends the bytes, the record which it ends meets the one demand; elsewhere the record so far meets the
-- other.
abbrev pub LastRecordMeets : (List ℕ → Type 0) → (List ℕ → Type 0) → List ℕ → Type 0
LastRecordMeets AtEnd SoFar bytes =
    ((ended : List ℕ) × EndsRecord bytes ended × AtEnd ended)
    ⊎ ((record_so_far : List ℕ) × LeavesOpen bytes record_so_far × SoFar record_so_far)
