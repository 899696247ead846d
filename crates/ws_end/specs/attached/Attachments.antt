-- An end that reads from a source and writes into a sink.

use Rattle.std.specs.Prelude.{◌≡◌, ℕ, ◌<◌, List, [], ◌∷◌, ◌++◌, ◌⊎◌, Bool, true, false, Option, Some, None, IfNone}
use Rattle.std.specs.Prelude.{Result, Ok, Err, IfOk, IfErr, OnOk, length, take}
use Rattle.ws_code.specs.declared.fault.Fault.{Fault}
use Rattle.ws_code.specs.declared.fault.Fault.TheVariants as fault
use Rattle.ws_code.specs.Device.{Writer, Reader, WentOut, FailedWithin, Gave, GaveAll, ReadFault, Devices}
use Rattle.ws_end.specs.declared.refusal.Refusal.{Refusal}
use Rattle.ws_end.specs.declared.refusal.Refusal.TheVariants.{At, Failed, Memory}
use Rattle.ws_end.specs.Acts.{Act, all_came, as_list}
use Rattle.ws_end.specs.Behaviour.{Behaviour}

-- the end, its devices, the bytes that were read and that it hasn't taken yet, and whether it takes no more: a write
-- has failed, or the end has refused a byte
pub record AttachedParts (E S K : Type 0) : Type 0 where
  pub end : E
  pub source : S
  pub sink : K
  pub waiting : List ℕ
  pub broken : Bool

-- a refusal as a fault
abbrev pub fault_of : Refusal → Fault
fault_of (At place reason) = fault.Refused place reason
fault_of Failed = fault.Failed
fault_of Memory = fault.Memory

-- the fault ends what is attached: after a failed read it goes on, after any other fault not
abbrev pub breaks : Fault → Bool
breaks fault.Read = false
breaks why = true

module _ {E S K : Type 0} (writer : Writer K) where
  -- these bytes went out beside what the end writes, and nothing else has changed
  abbrev pub HasWrittenBeside : AttachedParts E S K → AttachedParts E S K → List ℕ → Type 0
  HasWrittenBeside from to bytes = WentOut writer from.sink to.sink bytes
      × (to ≡ record from { sink = to.sink })

  -- only a proper prefix of them went out, and from then on it takes no more; nothing else has changed
  abbrev pub HasFailedBeside : AttachedParts E S K → AttachedParts E S K → List ℕ → Type 0
  HasFailedBeside from to bytes = FailedWithin writer from.sink to.sink bytes
      × (to ≡ record from { sink = to.sink; broken = true })

-- what holds of what an end told: where it told something, or a write failed, and nothing is known of what it told
abbrev pub IfEvents : {Event : Type 0} → Result (Option Event) Fault → (List Event → Type 0) → Type 0
IfEvents (Ok (Some event)) Holds = Holds (event ∷ [])
IfEvents {Event} (Err fault.Write) Holds = (events : List Event) × Holds events
IfEvents result Holds = Unit {0}

module _ {E Request Event : Type 0} (behaviour : Behaviour E Request Event) where
  -- The bytes came, and this was told at the last of them: at the first of them nothing was told, and at the others
  -- nothing was written or told before the last.
  pub record TellsAtLast (old new : E) (bytes : List ℕ) (events : List Event) : Type 0 where
    pub heard : List ℕ
    pub others : List ℕ
    pub split : bytes ≡ heard ++ others
    pub before : E
    pub written : List ℕ
    pub led : behaviour.traces old (all_came heard) written [] before
    pub later : List ℕ
    pub led_on : behaviour.traces before (all_came others) later events new
    pub first : (n : ℕ) → n < length others → behaviour.silent before (take n others)

  module _ {S K : Type 0} where
    -- of the bytes that waited it took these, and told this at the last of them
    pub record TakesFirst (from to : AttachedParts E S K) (events : List Event) : Type 0 where
      pub bytes : List ℕ
      pub tells : TellsAtLast from.end to.end bytes events
      pub kept : from.waiting ≡ bytes ++ to.waiting
      pub unread : to.source ≡ from.source

    -- of the bytes that waited and those that the source gave it took these, and told this at the last of them
    pub record HearsFirst (reader : Reader S) (from to : AttachedParts E S K)
        (events : List Event) : Type 0 where
      pub bytes : List ℕ
      pub given : List ℕ
      pub reads : ℕ
      pub tells : TellsAtLast from.end to.end bytes events
      pub kept : from.waiting ++ given ≡ bytes ++ to.waiting
      pub gave : Gave reader from.source to.source reads given

module _ {E S K Request Event : Type 0} (behaviour : Behaviour E Request Event) (devices : Devices S K)
  where
    -- at an end on a source and a sink: the acts led on, and what the end wrote in them went out
    pub record HaveLed (from to : AttachedParts E S K) (acts : List (Act Request)) (events : List Event) : Type 0 where
      pub written : List ℕ
      pub led : behaviour.traces from.end acts written events to.end
      pub wrote : WentOut devices.writer from.sink to.sink written

    -- at an end on a source and a sink: the acts led on, and only a proper prefix of what the end wrote in them went
    -- out
    pub record HaveLedUnwritten (from to : AttachedParts E S K) (acts : List (Act Request)) : Type 0 where
      pub written : List ℕ
      pub events : List Event
      pub led : behaviour.traces from.end acts written events to.end
      pub failed : FailedWithin devices.writer from.sink to.sink written

    -- why a send doesn't come through: for want of memory, with nothing changed, or since a write has failed
    abbrev pub IsSendFailure : AttachedParts E S K → AttachedParts E S K → List (Act Request) → Fault → Type 0
    IsSendFailure from to acts fault.Memory = to ≡ from
    IsSendFailure from to acts fault.Write = HaveLedUnwritten from to acts × (to.broken ≡ true)
    IsSendFailure from to acts why = ⊥

    -- bytes came, and the end refused the one after them; at the last of them it wrote and told nothing
    pub record HasRefusedByte (from to : AttachedParts E S K) (bytes : List ℕ) (byte : ℕ) (why : Fault) : Type 0 where
      pub heard : List ℕ
      pub prefix : List ℕ
      pub split : bytes ≡ heard ++ prefix
      pub written : List ℕ
      pub before : E
      pub led : behaviour.traces from.end (all_came heard) written [] before
      pub refusal : Refusal
      pub refused : behaviour.refuses before prefix byte refusal to.end
      pub is : why ≡ fault_of refusal
      pub wrote : WentOut devices.writer from.sink to.sink written

    -- a byte stopped the end: a write failed at it, or the end refused the byte
    abbrev pub IsByteFault : AttachedParts E S K → AttachedParts E S K → List ℕ → ℕ → Fault → Type 0
    IsByteFault from to bytes byte fault.Write = HaveLedUnwritten from to (all_came (bytes ++ byte ∷ []))
    IsByteFault from to bytes byte why = HasRefusedByte from to bytes byte why

    -- of the bytes that waited the end took these, and told this
    abbrev pub HasTakenSome : AttachedParts E S K → AttachedParts E S K → Option Event → Type 0
    HasTakenSome from to heard = (bytes : List ℕ) × HaveLed from to (all_came bytes) (as_list heard)
        × (from.waiting ≡ bytes ++ to.waiting)

    -- The end took bytes that waited, up to the first at which something was told.
    abbrev pub HasTakenWaiting : AttachedParts E S K → AttachedParts E S K → Option Event → Type 0
    HasTakenWaiting from to heard = (bytes : List ℕ) × HaveLed from to (all_came bytes) (as_list heard)
        × (from.waiting ≡ bytes ++ to.waiting) × (to.source ≡ from.source) × IfNone heard (to.waiting ≡ [])

    -- a byte among those that waited led to this fault, and no further one was read
    abbrev pub IsWaitingFault : AttachedParts E S K → AttachedParts E S K → Fault → Type 0
    IsWaitingFault from to why = (bytes : List ℕ) × (byte : ℕ) × IsByteFault from to bytes byte why
        × (from.waiting ≡ bytes ++ byte ∷ to.waiting) × (to.source ≡ from.source)

    -- What an end heard: it took the bytes that waited and those that the source gave, in their order, up to the first at
    -- which something was told. Those after wait.
    abbrev pub HasHeard : AttachedParts E S K → AttachedParts E S K → Option Event → Type 0
    HasHeard from to (Some event) = (bytes : List ℕ) × (given : List ℕ) × (reads : ℕ)
        × HaveLed from to (all_came bytes) (event ∷ []) × (from.waiting ++ given ≡ bytes ++ to.waiting)
        × Gave devices.reader from.source to.source reads given
    HasHeard from to None = (bytes : List ℕ) × (given : List ℕ)
        × HaveLed from to (all_came bytes) [] × (from.waiting ++ given ≡ bytes) × (to.waiting ≡ [])
        × GaveAll devices.reader from.source to.source given

    -- a read failed, or there were too many: all bytes were taken, and nothing was told
    abbrev pub HasReadFault : AttachedParts E S K → AttachedParts E S K → Type 0
    HasReadFault from to = (bytes : List ℕ) × (given : List ℕ) × HaveLed from to (all_came bytes) []
        × (from.waiting ++ given ≡ bytes) × (to.waiting ≡ []) × ReadFault devices.reader from.source to.source given

    -- why an end stopped hearing: a read failed, or a byte led to a fault
    abbrev pub IsHearFault : AttachedParts E S K → AttachedParts E S K → Fault → Type 0
    IsHearFault from to why = ((why ≡ fault.Read) × HasReadFault from to)
        ⊎ ((bytes : List ℕ) × (byte : ℕ) × (given : List ℕ) × (reads : ℕ) × IsByteFault from to bytes byte why
        × (from.waiting ++ given ≡ bytes ++ byte ∷ to.waiting) × Gave devices.reader from.source to.source reads given)

module _ {E S K Request Event : Type 0} (behaviour : Behaviour E Request Event) (devices : Devices S K) where
  -- What a call that hears comes to.
  pub record HearsNext (from to : AttachedParts E S K) (result : Result (Option Event) Fault) : Type 0 where
    -- what came, and that nothing was told before the last byte that was taken
    pub heard : IfOk result (HasHeard behaviour devices from to)
    pub first : IfEvents result (HearsFirst behaviour devices.reader from to)
    -- a broken end goes nowhere
    pub broken : from.broken ≡ true → (result ≡ Err fault.Failed) × (to ≡ from)
    -- what stopped it, and whether that breaks it
    pub fault : from.broken ≡ false → IfErr result (IsHearFault behaviour devices from to)
    pub works : OnOk result (to.broken ≡ false)
    pub breaks : IfErr result (λ why. to.broken ≡ breaks why)
