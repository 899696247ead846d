-- What a push of bytes comes to: they are taken one after another, and what they bring is put into a buffer

use Rattle.std.specs.Prelude.{◌≡◌, ◌≢◌, ℕ, ◌+◌, ◌-◌, ◌<◌, ◌≤◌, Bool, true, false, List, [], ◌∷◌, ◌++◌, Option, None, IsSome}
use Rattle.std.specs.Prelude.{Err, length, take, drop}
use Rattle.ws_code.specs.Reason.{number_of as reason_number}
use Rattle.ws_end.specs.Acts.{as_list}
use Rattle.ws_end.specs.declared.end_step.EndFed.{EndFed}
use Rattle.ws_end.specs.driver.Driven.{AtDriver, Come, Driven, DriverFeeds, Driving, IsReached, TakesNoMore}
use Rattle.ws_end.specs.declared.refusal.Refusal.{Refusal}
use Rattle.ws_end.specs.declared.refusal.Refusal.TheVariants.{At, Failed as HasFailed, Memory}
use Rattle.ws_c.specs.declared.held_end.HeldEnd.{HeldEnd}
use Rattle.ws_c.specs.declared.status.Status.{Status}
use Rattle.ws_c.specs.declared.status.Status.TheVariants.{Done, Refused, Failed, NoMemory, NoRoom}
use Rattle.ws_c.specs.declared.told.PushedTold.{PushedTold}
use Rattle.ws_c.specs.declared.told.TheConstants.{REPLY_ROOM}
use Rattle.ws_c.specs.Calls.{Crossed, holds_front}
use Rattle.ws_c.specs.HeldEnds.{waiting}

-- what a push tells where nothing was done
abbrev pub nothing_pushed : PushedTold
nothing_pushed = record { taken = 0; replied = 0; place = 0; reason = 0 }

-- what a push tells where so many bytes were taken, so many written, and none was refused
abbrev pub pushed_told : ℕ → ℕ → PushedTold
pushed_told taken replied = record { taken = taken; replied = replied; place = 0; reason = 0 }

-- what a push tells of a refusal: its status, and its place and reason beside the counts
abbrev pub IsPushRefused : Refusal → Status → PushedTold → Type 0
IsPushRefused (At place reason) status told = (status ≡ Refused)
    × (told ≡ record (pushed_told told.taken told.replied) { place = place; reason = reason_number reason })
IsPushRefused HasFailed status told = (status ≡ Failed) × (told ≡ pushed_told told.taken told.replied)
IsPushRefused Memory status told = (status ≡ NoMemory) × (told ≡ pushed_told told.taken told.replied)

-- a front of bytes: so many of these, from the first on
pub record Front : Type 0 where
  pub bytes : List ℕ
  pub count : ℕ

-- the first so many of these bytes
abbrev pub first_bytes : List ℕ → ℕ → Front
first_bytes bytes count = record { bytes = bytes; count = count }

-- the bytes after a front
abbrev pub left_behind : Front → List ℕ
left_behind front = drop front.count front.bytes

module _ {R K Place U Deed Event Reply : Type 0} (d : Driving R K Place U Deed Event Reply) where
  -- A front of bytes is taken to come from the one end to the other: none of their items is refused, this is written,
  -- what is told is such, and the end counts them. One that takes no more takes none.
  pub record FrontTaken (IsTold : List Event → Type 0) (old : Driven R K Place) (front : Front) (written : List ℕ)
      (new : Driven R K Place) : Type 0 where
    pub taken : AtDriver d old (λ bytes items side. (told : List Event) × IsTold told
        × Come d (IsReached d new) bytes items side (take front.count front.bytes) written told)
    pub counted : new.live.taken ≡ old.live.taken + front.count
    pub works : 0 < front.count → TakesNoMore old → ⊥
    pub none : front.count ≡ 0 → (new ≡ old) × (written ≡ [])

  -- What a front of bytes brings is at most so long, and what is told at it is such.
  abbrev pub BringsAtMost : (List Event → Type 0) → Driven R K Place → Front → ℕ → Type 0
  BringsAtMost IsTold old front most = AtDriver d old (λ bytes items side. (written : List ℕ) × (told : List Event)
      × IsTold told × Come d (λ bytes' items' side'. Unit {0}) bytes items side (take front.count front.bytes) written
      told × (length written ≤ most))

-- a push tells that so many bytes were taken, how many were written, and no refusal
abbrev pub TellsCounts : ℕ → PushedTold → Type 0
TellsCounts taken told = told ≡ pushed_told taken told.replied

module _ {S : Type 0} (Takes : S → ℕ → List ℕ → S → Type 0) where
  -- the bytes are taken one after another from the one state to the other, and bring these
  abbrev pub TakesAll : S → List ℕ → List ℕ → S → Type 0
  TakesAll old [] brought new = (new ≡ old) × (brought ≡ [])
  TakesAll old (byte ∷ bytes) brought new = (next : S) × (reply : List ℕ) × (rest : List ℕ)
      × Takes old byte reply next × TakesAll next bytes rest new × (brought ≡ reply ++ rest)

-- so many bytes are taken, the last of which is refused
abbrev pub refused_step : {Event Reply : Type 0} → ℕ → Refusal → EndFed Event Reply
refused_step used refusal = record { used = used; step = Err refusal }

-- an end that stops where it tells something has told this alone
abbrev pub HasToldAlone : {Event : Type 0} → Bool → Option Event → List Event → Type 0
HasToldAlone stops event told = stops ≡ true → told ≡ as_list event

module _ {R K Place U Deed Event Reply : Type 0} (d : Driving R K Place U Deed Event Reply) where
  -- Where a push of bytes ends that has fed this front of them, and of which nothing waits: with the last, at what is
  -- told, before one without room for what it may bring, or at a refused one.
  pub record IsPushEnd (fed : Front) (event : Option Event) (call : Crossed PushedTold)
      (old new : HeldEnd (Driven R K Place) Reply) : Type 0 where
    pub all : length fed.bytes ≤ fed.count → (call.status ≡ Done) × TellsCounts fed.count call.told × (new ≡ old)
    pub tells : IsSome event → (call.status ≡ Done) × TellsCounts fed.count call.told × (new ≡ old)
    pub crowded : fed.count < length fed.bytes → event ≡ None → length call.buffer - call.told.replied < REPLY_ROOM
        → (call.status ≡ NoRoom) × TellsCounts fed.count call.told × (new ≡ old)
    pub refused : fed.count < length fed.bytes → event ≡ None → REPLY_ROOM ≤ length call.buffer - call.told.replied
        → (refusal : Refusal) × (used : ℕ)
        × DriverFeeds d old.end (left_behind fed) new.end (refused_step used refusal)
        × (call.told.taken ≡ fed.count + (used - 1)) × IsPushRefused refusal call.status call.told

  -- A push of bytes into an end, which tells this event, if one: what waited and what the end writes goes out in order,
  -- and the rest of it waits. No byte is taken before all that waited, and all that the bytes before it brought, has gone
  -- out. Where something waits at the end the buffer is full, and the call says so; of a reply of which a part waits at
  -- least 17 bytes have gone out. An end that stops where it tells something takes no byte after that, and tells nothing
  -- before.
  pub record IsPush (stops : Bool) (event : Option Event) (bytes : List ℕ) (call : Crossed PushedTold)
      (old new : HeldEnd (Driven R K Place) Reply) : Type 0 where
    pub counted : call.told.taken ≤ length bytes
    pub fed : ℕ
    pub written : List ℕ
    pub out : List ℕ
    pub before : HeldEnd (Driven R K Place) Reply
    pub takes : FrontTaken d (HasToldAlone stops event) old.end (first_bytes bytes fed) written before.end
    pub plain : stops ≡ false → event ≡ None
    pub some : IsSome event → 0 < fed
    pub whole : waiting d old ++ written ≡ out ++ waiting d before
    pub first : length out < length (waiting d old) → fed ≡ 0
    pub in_time : (n : ℕ) → n < fed → BringsAtMost d (HasToldAlone stops None) old.end (first_bytes bytes n)
        (length out - length (waiting d old))
    pub roomy : 0 < fed → waiting d before ≢ [] → REPLY_ROOM ≤ before.sent
    pub replied : call.told.replied ≡ length out
    pub fits : call.told.replied ≤ length call.buffer
    pub put : call.after ≡ holds_front out call.buffer
    pub waits : waiting d before ≢ []
        → (call.status ≡ NoRoom) × (call.told ≡ pushed_told fed (length call.buffer)) × (new ≡ before)
    pub ends : waiting d before ≡ [] → (waiting d new ≡ []) × IsPushEnd (first_bytes bytes fed) event call before new
