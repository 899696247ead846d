-- An end of a session as C holds it, by what it does at pieces: what it writes goes out in parts where a buffer has no room
-- for all

use Rattle.std.specs.Prelude.{◌≡◌, ◌≢◌, ℕ, ◌+◌, ◌-◌, ◌<◌, ◌≤◌, List, [], ◌∷◌, ◌++◌, Option, Some, None, length, take, drop}
use Rattle.ws_end.specs.Acts.{all_came}
use Rattle.ws_end.specs.Behaviour.{Behaviour}
use Rattle.ws_end.specs.declared.refusal.Refusal.{Refusal}
use Rattle.ws_c.specs.Calls.{Crossed, holds_front}
use Rattle.ws_c.specs.HeldEnds.{Filling, HandsOutOf}
use Rattle.ws_c.specs.Pushes.{Front, IsPushRefused, TellsCounts, first_bytes, left_behind, pushed_told}
use Rattle.ws_c.specs.declared.held_end.HeldEnd.{HeldEnd}
use Rattle.ws_c.specs.declared.status.Status.TheVariants.{Done, NoRoom}
use Rattle.ws_c.specs.declared.told.PushedTold.{PushedTold}
use Rattle.ws_c.specs.declared.told.TheConstants.{REPLY_ROOM}

module _ {E R : Type 0} (written : E → R → List ℕ) where
  -- what of a reply hasn't gone out yet, of which so much has
  abbrev pub unsent : E → ℕ → Option R → List ℕ
  unsent end sent None = []
  unsent end sent (Some reply) = drop sent (written end reply)

  -- what of an end's last reply hasn't gone out yet
  abbrev pub left_of : HeldEnd E (Option R) → List ℕ
  left_of held = unsent held.end held.sent held.reply

  -- of what waits a front goes out
  abbrev pub HandsOutAt : HeldEnd E (Option R) → HeldEnd E (Option R) → Filling → Filling → Type 0
  HandsOutAt = HandsOutOf left_of

module _ {E Request Event : Type 0} (behaviour : Behaviour E Request Event) where
  -- These bytes are taken to come from the one end to the other: none is refused, and this is written.
  abbrev pub IsTraced : E → List ℕ → List ℕ → E → Type 0
  IsTraced old came brought new = (told : List Event) × behaviour.traces old (all_came came) brought told new

  -- What a front of bytes brings is at most so long: what some of them bring; nothing is written at the others.
  abbrev pub BringsNoMore : E → Front → ℕ → Type 0
  BringsNoMore old front most = (some : ℕ) × (some ≤ front.count) × (brought : List ℕ) × (mid : E)
      × IsTraced old (take some front.bytes) brought mid × (length brought ≤ most)
      × behaviour.silent mid (take (front.count - some) (drop some front.bytes))

module _ {E Request Event R : Type 0} (behaviour : Behaviour E Request Event) (written : E → R → List ℕ) where
  -- where a push of bytes ends that has fed this front of them, and of which nothing waits: with the last, before one
  -- without room for what it may bring, or at a refused one
  pub record IsPiecePushEnd (fed : Front) (call : Crossed PushedTold) (old new : HeldEnd E (Option R)) : Type 0 where
    pub all : length fed.bytes ≤ fed.count → (call.status ≡ Done) × TellsCounts fed.count call.told × (new ≡ old)
    pub crowded : fed.count < length fed.bytes → length call.buffer - call.told.replied < REPLY_ROOM
        → (call.status ≡ NoRoom) × TellsCounts fed.count call.told × (new ≡ old)
    pub refused : fed.count < length fed.bytes → REPLY_ROOM ≤ length call.buffer - call.told.replied
        → (refusal : Refusal) × (front : List ℕ) × (byte : ℕ) × (rest : List ℕ)
        × (left_behind fed ≡ front ++ byte ∷ rest) × behaviour.refuses old.end front byte refusal new.end
        × (call.told.taken ≡ fed.count + length front) × IsPushRefused refusal call.status call.told

  -- A push of bytes into an end: what waited and what the end writes goes out in order, and the rest of it waits. No byte
  -- is taken before all that waited, and all that the bytes before it brought, has gone out. Where something waits at the
  -- end the buffer is full, and the call says so; of a reply of which a part waits at least 17 bytes have gone out.
  pub record IsPiecePush (bytes : List ℕ) (call : Crossed PushedTold) (old new : HeldEnd E (Option R)) : Type 0 where
    pub counted : call.told.taken ≤ length bytes
    pub fed : ℕ
    pub brought : List ℕ
    pub out : List ℕ
    pub before : HeldEnd E (Option R)
    pub takes : IsTraced behaviour old.end (take fed bytes) brought before.end
    pub whole : left_of written old ++ brought ≡ out ++ left_of written before
    pub first : length out < length (left_of written old) → fed ≡ 0
    pub in_time : (n : ℕ) → n < fed
        → BringsNoMore behaviour old.end (first_bytes bytes n) (length out - length (left_of written old))
    pub roomy : 0 < fed → left_of written before ≢ [] → REPLY_ROOM ≤ before.sent
    pub replied : call.told.replied ≡ length out
    pub fits : call.told.replied ≤ length call.buffer
    pub put : call.after ≡ holds_front out call.buffer
    pub waits : left_of written before ≢ []
        → (call.status ≡ NoRoom) × (call.told ≡ pushed_told fed (length call.buffer)) × (new ≡ before)
    pub ends : left_of written before ≡ []
        → (left_of written new ≡ []) × IsPiecePushEnd (first_bytes bytes fed) call before new
