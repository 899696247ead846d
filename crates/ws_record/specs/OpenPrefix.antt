-- Refusals, prefix by prefix: what each layer asks of the bytes that have come so far, of which it looks at the last
-- record alone
-- (RFC 854: commands among data, FF doubled; RFC 885: EOR ends a record; RFC 1205, section 3: a record's header)

use Rattle.std.specs.Prelude.{◌≡◌, ℕ, ◌+◌, ◌<◌, List, [], ◌∷◌, ◌++◌, length, drop, take}
use Rattle.ws_code.specs.Code.{Rules, IsWhole, spelling_of}
use Rattle.ws_code.specs.declared.reason.Reason.{Reason}
use Rattle.ws_telnet.specs.Streams.{LastRecordMeets}
use Rattle.ws_telnet.specs.Token.{token_rules}
use Rattle.ws_record.specs.declared.record.Item.{Item}
use Rattle.ws_record.specs.Grammar.{IsFramed, IsBodyBytes, IsInGrammar}
use Rattle.ws_record.specs.Refusal.{Layer, IsReason}
use Rattle.ws_record.specs.Refusal.Layer.{Tokens, Header, Body}
use Rattle.ws_record.specs.OpenRecord.{CanBeFramed}

-- the bytes begin the spelling of some whole list of units
pub record BeginsList {Place U : Type 0} (rules : Rules Place U) (bytes : List ℕ) : Type 0 where
  pub units : List U
  pub more : List ℕ
  pub whole : IsWhole rules units
  pub spelled : spelling_of rules units ≡ bytes ++ more

module _ {Place U : Type 0} where
  -- The prefix is open to the layer. After an EOR the record is whole and of its declared length, and its body is
  -- whole;
  -- elsewhere the record so far can become a record with a right header, and what stands after its header begins some
  -- body.
  abbrev pub IsOpenPrefix : Rules Place U → Layer → List ℕ → Type 0
  IsOpenPrefix rules Tokens prefix = BeginsList token_rules prefix
  IsOpenPrefix rules Header prefix = LastRecordMeets IsFramed CanBeFramed prefix
  IsOpenPrefix rules Body prefix = LastRecordMeets (λ ended. IsBodyBytes rules (drop 10 ended))
      (λ record_so_far. BeginsList rules (drop 10 record_so_far)) prefix

  -- the first layer to which the prefix isn't open
  abbrev pub IsFirstClosedTo : Rules Place U → Layer → List ℕ → Type 0
  IsFirstClosedTo rules Tokens prefix = ¬ IsOpenPrefix rules Tokens prefix
  IsFirstClosedTo rules Header prefix = IsOpenPrefix rules Tokens prefix × ¬ IsOpenPrefix rules Header prefix
  IsFirstClosedTo rules Body prefix = IsOpenPrefix rules Tokens prefix × IsOpenPrefix rules Header prefix
      × ¬ IsOpenPrefix rules Body prefix

  -- at each place below this one, the prefix through that place's byte is open to each layer
  abbrev pub AreOpenBelow : Rules Place U → List ℕ → ℕ → Type 0
  AreOpenBelow rules bytes place = (lower : ℕ) → lower < place → (layer : Layer)
      → IsOpenPrefix rules layer (take (lower + 1) bytes)

  -- The bytes are refused at the place: it is the least whose prefix isn't open to some layer.
  pub record IsRefusedByPrefix (rules : Rules Place U) (bytes : List ℕ) (place : ℕ) (reason : Reason) : Type 0 where
    pub before : List ℕ
    pub byte : ℕ
    pub after : List ℕ
    pub split : bytes ≡ before ++ byte ∷ after
    pub at_place : place ≡ length before
    pub layer : Layer
    pub least : AreOpenBelow rules bytes place
    pub closed : IsFirstClosedTo rules layer (before ++ byte ∷ [])
    pub why : IsReason rules layer before byte reason

  -- no place's prefix is closed to a layer, and yet the bytes aren't in the grammar
  pub record IsTruncatedByPrefix (rules : Rules Place U) (bytes : List ℕ) : Type 0 where
    pub each : AreOpenBelow rules bytes (length bytes)
    pub unfinished : (items : List (Item U)) → IsInGrammar rules bytes items → ⊥
