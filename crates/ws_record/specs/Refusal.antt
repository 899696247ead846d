-- Refusals: the first byte at which bytes can't be continued, in some layer

use Rattle.std.specs.Prelude.{◌≡◌, ℕ, List, [], ◌∷◌, ◌++◌, length, drop, nat_lt, if◌then◌else◌}
use Rattle.ws_code.specs.Code.{Rules, IsCut, place_after}
use Rattle.ws_code.specs.declared.reason.Reason.{Reason}
use Rattle.ws_code.specs.declared.reason.Reason.TheVariants.{LengthBelowHeader, BadType, BadReserved, BadVariableLength}
use Rattle.ws_code.specs.declared.reason.Reason.TheVariants.{UnknownOpcode, TooLong, TooShort, EndedInside}
use Rattle.ws_telnet.specs.Streams.{IsStream, EndsWithToken}
use Rattle.ws_telnet.specs.Token.{token_rules}
use Rattle.ws_telnet.specs.declared.token.Token.{Token}
use Rattle.ws_telnet.specs.declared.token.Token.TheVariants.{Data}
use Rattle.ws_record.specs.declared.record.Item.{Item}
use Rattle.ws_record.specs.Grammar.{IsFramed, IsBodyBytes, IsInGrammar}

-- The layers of a stream: tokens, headers, bodies. Each knows less of a record than the next: to the lowest all bytes
-- are a record.
pub data Layer : Type 0 where
  Tokens : Layer
  Header : Layer
  Body : Layer

-- the reason of a token after the bytes of the record so far, at which the header or the length isn't right
abbrev pub header_reason : List ℕ → Token → Reason
header_reason bytes (Data b) =
    if nat_lt (length bytes) 2 then LengthBelowHeader
    else if nat_lt (length bytes) 4 then BadType
    else if nat_lt (length bytes) 6 then BadReserved
    else if nat_lt (length bytes) 7 then BadVariableLength
    else if nat_lt (length bytes) 10 then UnknownOpcode
    else TooLong
header_reason bytes end = TooShort

module _ {Place U : Type 0} where
  -- the bytes of a whole record are right to the layer
  abbrev pub IsRight : Rules Place U → Layer → List ℕ → Type 0
  IsRight rules Tokens bytes = Unit {0}
  IsRight rules Header bytes = IsFramed bytes
  IsRight rules Body bytes = IsBodyBytes rules (drop 10 bytes)

  -- the bytes are a prefix of some stream whose records are right to the layer
  pub record IsOpen (rules : Rules Place U) (layer : Layer) (bytes : List ℕ) : Type 0 where
    pub more : List ℕ
    pub stream : IsStream (IsRight rules layer) (bytes ++ more)

  -- the layer is the first to which the bytes aren't open
  abbrev pub IsFirstClosed : Rules Place U → Layer → List ℕ → Type 0
  IsFirstClosed rules Tokens bytes = ¬ IsOpen rules Tokens bytes
  IsFirstClosed rules Header bytes = IsOpen rules Tokens bytes × ¬ IsOpen rules Header bytes
  IsFirstClosed rules Body bytes = IsOpen rules Header bytes × ¬ IsOpen rules Body bytes

  -- the reason of a byte after these of a body, by the table of the body; of an EOR it is that the record ends inside
  -- a unit
  abbrev pub IsBodyReason : Rules Place U → List ℕ → Token → Reason → Type 0
  IsBodyReason rules bytes (Data b) reason = (units : List U) × (begun : List ℕ) × IsCut rules bytes units begun
      × (reason ≡ rules.reason (place_after rules rules.first units) begun b)
  IsBodyReason rules bytes end reason = reason ≡ EndedInside

  -- why a layer refuses a byte: the token, the header, the body and the end of a record each have their reasons
  abbrev pub IsReason : Rules Place U → Layer → List ℕ → ℕ → Reason → Type 0
  IsReason rules Tokens before b reason = (tokens : List Token) × (begun : List ℕ)
      × IsCut token_rules before tokens begun × (reason ≡ token_rules.reason tt begun b)
  IsReason rules Header before b reason = (record_so_far : List ℕ) × (last : Token)
      × EndsWithToken (before ++ b ∷ []) record_so_far last × (reason ≡ header_reason record_so_far last)
  IsReason rules Body before b reason = (record_so_far : List ℕ) × (last : Token)
      × EndsWithToken (before ++ b ∷ []) record_so_far last × IsBodyReason rules (drop 10 record_so_far) last reason

  -- The bytes are refused at the place: those before it are open to each layer, and those through it aren't.
  pub record IsRefused (rules : Rules Place U) (bytes : List ℕ) (place : ℕ) (reason : Reason) : Type 0 where
    pub before : List ℕ
    pub byte : ℕ
    pub after : List ℕ
    pub split : bytes ≡ before ++ byte ∷ after
    pub at_place : place ≡ length before
    pub layer : Layer
    pub opened : (l : Layer) → IsOpen rules l before
    pub closed : IsFirstClosed rules layer (before ++ byte ∷ [])
    pub why : IsReason rules layer before byte reason

  -- no place is refused, and yet the bytes aren't in the grammar
  pub record IsTruncated (rules : Rules Place U) (bytes : List ℕ) : Type 0 where
    pub opened : (l : Layer) → IsOpen rules l bytes
    pub unfinished : (items : List (Item U)) → IsInGrammar rules bytes items → ⊥
