-- What a session has come to: its records, by what was told of each

use Rattle.std.specs.Prelude.{◌≡◌, ℕ, ◌+◌, ◌^◌, ◌<◌, List, [], ◌∷◌, Option, Some}
use Rattle.ws_lasting.specs.declared.record_counts.RecordCounts.{RecordCounts}
use Rattle.ws_lasting.specs.declared.record_event.RecordEvent.{RecordEvent}
use Rattle.ws_lasting.specs.declared.record_event.RecordEvent.TheVariants.{CarriedOut, Refused}
use Rattle.ws_lasting.specs.declared.record_event.RefusedRecord.{RefusedRecord}

-- how many of them were carried out
abbrev pub carried_out_in : List RecordEvent → ℕ
carried_out_in [] = 0
carried_out_in (CarriedOut ∷ told) = 1 + carried_out_in told
carried_out_in (Refused why ∷ told) = carried_out_in told

-- how many were refused
abbrev pub refused_in : List RecordEvent → ℕ
refused_in [] = 0
refused_in (CarriedOut ∷ told) = refused_in told
refused_in (Refused why ∷ told) = 1 + refused_in told

-- the last that was refused, where this one was the last before them
abbrev pub last_refused : Option RefusedRecord → List RecordEvent → Option RefusedRecord
last_refused last [] = last
last_refused last (CarriedOut ∷ told) = last_refused last told
last_refused last (Refused why ∷ told) = last_refused (Some why) told

-- these more were told of, and are counted as far as a number of 64 bits goes
pub record IsCounted (old : RecordCounts) (told : List RecordEvent) (new : RecordCounts) : Type 0 where
  pub carried_out : old.carried_out + carried_out_in told < 2 ^ 64
      → new.carried_out ≡ old.carried_out + carried_out_in told
  pub refused : old.refused + refused_in told < 2 ^ 64 → new.refused ≡ old.refused + refused_in told
  pub last : new.last ≡ last_refused old.last told
