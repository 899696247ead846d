-- What is told of an end's stream: each item, and each refusal. An item is carried out on what the items before it
-- made, or is refused by that.

use Rattle.std.specs.Prelude.{◌≡◌, ℕ, ◌+◌, List, [], ◌∷◌, ◌++◌, Option, None, Some, map}
use Rattle.ws_code.specs.Code.{Rules, IsChain}
use Rattle.ws_code.specs.declared.reason.Reason.{Reason}
use Rattle.ws_record.specs.declared.record.Item.{Item}
use Rattle.ws_record.specs.declared.record.Item.TheVariants.{Record as RecordItem, Telnet as TelnetItem}
use Rattle.ws_trace.specs.Reading.{StreamStanding, IsNextByte}
use Rattle.ws_trace.specs.Reading.StreamStanding.{Reads}
use Rattle.ws_trace.specs.declared.told.Told.{Told}
use Rattle.ws_trace.specs.declared.told.Told.TheVariants.{Whole, Refused}
use Rattle.ws_trace.specs.declared.entry.EndTold.{EndTold}
use Rattle.ws_trace.specs.declared.entry.Entry.{Entry}

-- What is known of an end: what there is before its first item, why an item isn't carried out on that, and what it
-- becomes.
pub record Tracing (U State : Type 0) : Type 0 where
  pub first : State
  pub fault : State → Item U → Option Reason
  pub after : State → Item U → State

-- Where an end's stream is: where it stands, what the items before made, and the place of its next byte.
pub record EndAt (U State : Type 0) : Type 0 where
  pub standing : StreamStanding U
  pub state : State
  pub taken : ℕ

-- the units of a record's body may stand one after another
abbrev pub IsWholeItem : {Place U : Type 0} → Rules Place U → Item U → Type 0
IsWholeItem rules (RecordItem r) = IsChain rules rules.first r.body
IsWholeItem rules (TelnetItem telnet) = Unit {0}

-- what is told where this came of a byte, and was refused as a whole
abbrev pub told_with : {U : Type 0} → Option (Told U) → Option Reason → List (Told U)
told_with None refused = []
told_with (Some told) None = told ∷ []
told_with (Some told) (Some reason) = told ∷ Refused reason ∷ []

-- what was made, unless it was refused
abbrev pub made_unless : {State : Type 0} → State → State → Option Reason → State
made_unless before after None = after
made_unless before after (Some reason) = before

-- steps one after another: what each adds, and where it leads
abbrev pub AreSteps : {At X T : Type 0} → (At → X → List T → At → Type 0) → At → List X → List T → At → Type 0
AreSteps IsStep at [] entries next = (entries ≡ []) × (next ≡ at)
AreSteps {At} {X} {T} IsStep at (x ∷ xs) entries next = (mid : At) × (now rest : List T) × IsStep at x now mid
    × AreSteps IsStep mid xs rest next × (entries ≡ now ++ rest)

-- the entry of what is told of a byte at a time and a place
abbrev pub entry_at : {U : Type 0} → (Told U → EndTold) → ℕ → ℕ → Told U → Entry
entry_at as_told time place told = record { milliseconds = time; place = place; told = as_told told }

module _ {U State : Type 0} (end : Tracing U State) where
  -- before the first byte
  abbrev pub end_begins : EndAt U State
  end_begins = record { standing = Reads [] []; state = end.first; taken = 0 }

  -- why what came of a byte isn't carried out, and what is made of it
  abbrev pub carry_fault : State → Option (Told U) → Option Reason
  carry_fault state (Some (Whole item)) = end.fault state item
  carry_fault state came = None

  abbrev pub made_of : State → Option (Told U) → State
  made_of state (Some (Whole item)) = made_unless state (end.after state item) (end.fault state item)
  made_of state came = state

module _ {Place U State : Type 0} (rules : Rules Place U) (end : Tracing U State) where
  -- what a byte ends, and where the stream is then
  pub record IsHeardByte (at : EndAt U State) (byte : ℕ) (came : Option (Told U)) (next : EndAt U State) : Type 0 where
    pub read : IsNextByte rules at.standing byte came next.standing
    pub made : next.state ≡ made_of end at.state came
    pub counted : next.taken ≡ at.taken + 1

  -- the same, and what is told of it, put as this says by its place
  abbrev pub IsHeard : {T : Type 0} → (ℕ → Told U → T) → EndAt U State → ℕ → List T → EndAt U State → Type 0
  IsHeard put at byte entries next = (came : Option (Told U)) × IsHeardByte at byte came next
      × (entries ≡ map (put at.taken) (told_with came (carry_fault end at.state came)))

  -- bytes that came one after another: what is told of them, and where the stream is after them
  abbrev pub AreHeard : {T : Type 0} → (ℕ → Told U → T) → EndAt U State → List ℕ → List T → EndAt U State → Type 0
  AreHeard put at bytes entries next = AreSteps (IsHeard put) at bytes entries next
