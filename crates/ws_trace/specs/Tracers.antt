-- What a tracer keeps, where its stream is, and what bytes add to it.

use Rattle.std.specs.Prelude.{◌≡◌, ◌<◌, ◌≤◌, ◌+◌, ◌-◌, ◌^◌, ℕ, List, ◌++◌, Option, Some, length}
use Rattle.ws_code.specs.Code.{Rules}
use Rattle.ws_trace.specs.Ends.{EndAt, Tracing, AreHeard, IsWholeItem}
use Rattle.ws_trace.specs.Readers.{ReaderParts, StandsThere, bytes_read}
use Rattle.ws_trace.specs.declared.told.Told.{Told}
use Rattle.ws_trace.specs.declared.told.Told.TheVariants.{Whole}

-- What a tracer keeps: a reader, what the items made, and how many bytes it has taken.
pub record TracerParts (Place U Made : Type 0) : Type 0 where
  pub reader : ReaderParts Place U
  pub made : Made
  pub taken : ℕ

-- what came of a byte is a whole item, if it is one
abbrev pub IsWholeCame : {Place U : Type 0} → Rules Place U → Option (Told U) → Type 0
IsWholeCame rules (Some (Whole item)) = IsWholeItem rules item
IsWholeCame rules came = Unit {0}

module _ {Place U Made State : Type 0} (rules : Rules Place U) where
  -- a tracer's stream is there, where this says what was made
  pub record Tracks (is_made : State → Made → Type 0) (tracer : TracerParts Place U Made) (at : EndAt U State)
      : Type 0 where
    pub stands : StandsThere rules tracer.reader at.standing
    pub made : is_made at.state tracer.made
    pub counted : tracer.taken ≡ at.taken

  -- where a tracer's stream is, and no more bytes are read than were taken, so many more are more than can be counted
  abbrev pub IsOverfull : (State → Made → Type 0) → TracerParts Place U Made → ℕ → Type 0
  IsOverfull is_made tracer more = (at : EndAt U State) → Tracks is_made tracer at
      → length (bytes_read at.standing) ≤ at.taken → 2 ^ 64 - 2 < at.taken + more

-- what bytes add to what was told before them, put as this says, and where the stream is after them
pub record IsAdded {Place U State T : Type 0} (rules : Rules Place U) (end : Tracing U State) (put : ℕ → Told U → T)
    (at : EndAt U State) (bytes : List ℕ) (before after : List T) (IsThere : EndAt U State → Type 0) : Type 0 where
  pub next : EndAt U State
  pub added : List T
  pub heard : AreHeard rules end put at bytes added next
  pub there : IsThere next
  pub entries : after ≡ before ++ added
