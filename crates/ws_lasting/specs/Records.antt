-- Records that stand each for itself: why one is refused, by its own bytes (RFC 1205, section 3)

use Rattle.std.specs.Prelude.{◌≡◌, ℕ, List, [], ◌∷◌, ◌++◌, ◌⊎◌, drop, length}
use Rattle.ws_code.specs.Code.{Rules}
use Rattle.ws_code.specs.declared.reason.Reason.{Reason}
use Rattle.ws_code.specs.declared.reason.Reason.TheVariants.{EndedInside}
use Rattle.ws_telnet.specs.declared.token.Token.{Token}
use Rattle.ws_telnet.specs.declared.token.Token.TheVariants.{Data, Eor, Telnet as TelnetToken}
use Rattle.ws_record.specs.Grammar.{IsFramed, IsBodyBytes}
use Rattle.ws_record.specs.OpenPrefix.{BeginsList}
use Rattle.ws_record.specs.OpenRecord.{CanBeFramed}
use Rattle.ws_record.specs.Refusal.{header_reason, IsBodyReason}
use Rattle.ws_lasting.specs.declared.record_event.RefusedRecord.{RefusedRecord}

module _ {Place U : Type 0} (rules : Rules Place U) where
  -- after these bytes, with which a record may begin, none has this token next: the reason
  abbrev pub IsUnfit : List ℕ → Token → Reason → Type 0
  IsUnfit so_far (Data b) reason =
      ((CanBeFramed (so_far ++ b ∷ []) → ⊥) × (reason ≡ header_reason so_far (Data b)))
      ⊎ (CanBeFramed (so_far ++ b ∷ []) × (BeginsList rules (drop 10 (so_far ++ b ∷ [])) → ⊥)
      × IsBodyReason rules (drop 10 so_far) (Data b) reason)
  IsUnfit so_far Eor reason = ((IsFramed so_far → ⊥) × (reason ≡ header_reason so_far Eor))
      ⊎ (IsFramed so_far × (IsBodyBytes rules (drop 10 so_far) → ⊥) × (reason ≡ EndedInside))
  IsUnfit so_far (TelnetToken t) reason = ⊥

  -- of a record that has these bytes one is the first that is refused, at this place and for this reason
  pub record IsSpoilt (bytes : List ℕ) (why : RefusedRecord) : Type 0 where
    pub front : List ℕ
    pub byte : ℕ
    pub rest : List ℕ
    pub split : bytes ≡ front ++ byte ∷ rest
    pub at_place : why.place ≡ length front
    pub framed : CanBeFramed front
    pub begins : BeginsList rules (drop 10 front)
    pub unfit : IsUnfit front (Data byte) why.reason
