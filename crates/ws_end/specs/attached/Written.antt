-- What an end wrote into a sink

use Rattle.std.specs.Prelude.{◌≡◌, ◌⊎◌, ℕ, List, [], ◌∷◌, ◌++◌}
use Rattle.ws_code.specs.declared.fault.Fault.{Fault}
use Rattle.ws_code.specs.declared.fault.Fault.TheVariants.{Write}
use Rattle.ws_code.specs.Device.{Writer, WentOut, FailedWithin}
use Rattle.ws_end.specs.declared.refusal.Refusal.{Refusal}
use Rattle.ws_end.specs.Acts.{Act, all_came}
use Rattle.ws_end.specs.attached.Attachments.{fault_of}
use Rattle.ws_end.specs.Behaviour.{Behaviour}

module _ {E K Request Event : Type 0} (behaviour : Behaviour E Request Event) (writer : Writer K) (old new : E)
    (from to : K) where
  -- at an end and a sink: the acts led on, and what the end wrote in them went out
  pub record HasWritten (acts : List (Act Request)) (events : List Event) : Type 0 where
    pub written : List ℕ
    pub led : behaviour.traces old acts written events new
    pub wrote : WentOut writer from to written

  -- at an end and a sink: the acts led on, and only a proper prefix of what the end wrote in them went out
  pub record HasWrittenPrefix (acts : List (Act Request)) : Type 0 where
    pub written : List ℕ
    pub events : List Event
    pub led : behaviour.traces old acts written events new
    pub failed : FailedWithin writer from to written

-- the end took these bytes and refused the one after them, and nothing was written
pub record RefusesBehind {E K Request Event : Type 0} (behaviour : Behaviour E Request Event) (old new : E)
    (from to : K) (prefix : List ℕ) (byte : ℕ) (why : Fault) : Type 0 where
  pub refusal : Refusal
  pub refused : behaviour.refuses old prefix byte refusal new
  pub is : why ≡ fault_of refusal
  pub unwritten : to ≡ from

-- bytes don't come through: a write failed after the last of them, or the end refused the last
abbrev pub IsUnheard : {E K Request Event : Type 0} (behaviour : Behaviour E Request Event) (writer : Writer K)
    (old new : E) (from to : K) (bytes : List ℕ) → Fault → Type 0
IsUnheard behaviour writer old new from to bytes why = (prefix : List ℕ) × (byte : ℕ)
    × (bytes ≡ prefix ++ byte ∷ [])
    × (((why ≡ Write) × HasWrittenPrefix behaviour writer old new from to (all_came bytes))
    ⊎ RefusesBehind behaviour old new from to prefix byte why)
