-- A station that no record ends, as whoever attaches it to a line sees it, and presses keys at it

use Rattle.std.specs.Prelude.{◌≡◌, ℕ, ◌+◌, ◌^◌, ◌<◌, List, [], ◌∷◌, ◌++◌, Some, Result, Ok, Err, IsSome, length}
use Rattle.ws_end.specs.Acts.{Act, ComesToNothing, all_came, as_list, bytes_of}
use Rattle.ws_end.specs.Behaviour.{Behaviour}
use Rattle.ws_end.specs.Ends.{IsShut}
use Rattle.ws_end.specs.attached.Requests.{Judged, judged}
use Rattle.ws_end.specs.declared.refusal.Refusal.{Refusal}
use Rattle.ws_end.specs.declared.refusal.Refusal.TheVariants.{At, Failed, Memory}
use Rattle.ws_end.specs.declared.station.key_fault.KeyFault.{KeyFault}
use Rattle.ws_end.specs.declared.station.key_fault.KeyFault.TheVariants.{Failed as KeyFailed}
use Rattle.ws_end.specs.station.Displays.{OnDisplay, RefusesKey}
use Rattle.ws_end.specs.station.StationReacting.{StationStands}
use Rattle.ws_end.specs.station.StationTransitions.{key_on}
use Rattle.ws_end.specs.station.Stations.{ItemsOf}
use Rattle.ws_lasting.specs.Counting.{IsCounted}
use Rattle.ws_lasting.specs.Footings.{AtLasting, LastingOf, LastingStep, StandsAt, StaysShut, bytes_written}
use Rattle.ws_lasting.specs.Lasting.{FootingOn, IsFatal, Lasts}
use Rattle.ws_lasting.specs.declared.record_counts.RecordCounts.{RecordCounts}
use Rattle.ws_lasting.specs.declared.record_event.RecordEvent.{RecordEvent}

module _ (on : OnDisplay) where
  -- the acts lead from where it stands to there, and the station to one that stands there
  abbrev pub LeadsOnFrom : LastingOf on → LastingOf on → FootingOn on → List (Act on.Pressed) → List ℕ
      → List RecordEvent → Type 0
  LeadsOnFrom old new at acts written told = (next : FootingOn on) × Lasts on at acts next written told
      × StandsAt on new next × IsCounted old.counts told new.counts
      × (new.taken ≡ old.taken + length (bytes_of acts))

  -- nothing is written or told at these bytes
  abbrev pub AreQuiet : FootingOn on → List ℕ → Type 0
  AreQuiet at came = (next : FootingOn on) × Lasts on at (all_came came) next [] []

  -- the station has ended for this reason, with the options, the display and the identity of one that stands there; no
  -- record was counted
  pub record EndsAt (counts : RecordCounts) (new : LastingOf on) (at : FootingOn on) (why : Refusal) : Type 0 where
    pub items : ItemsOf on
    pub stands : StationStands on.does new.station.reacts items at.state
    pub is_environ : new.environ ≡ at.environ
    pub counted : IsCounted counts [] new.counts
    pub ended : new.ended ≡ Some why

  -- the byte after these, at which nothing is written or told, ends the session for this reason
  abbrev pub IsLast : LastingOf on → LastingOf on → FootingOn on → List ℕ → ℕ → Refusal → Type 0
  IsLast old new at front byte (At place reason) = (mid : FootingOn on) × Lasts on at (all_came front) mid [] []
      × (place ≡ old.taken + length front) × IsFatal on mid byte reason × (new.taken ≡ place + 1)
      × EndsAt old.counts new mid (At place reason)
  IsLast old new at front byte Failed = ⊥
  IsLast old new at front byte Memory = ⊥

  -- what comes of bytes that are taken: they lead on, or the last of them ends the session
  abbrev pub AreTakenSo : LastingOf on → LastingOf on → FootingOn on → List ℕ
      → Result (LastingStep on.Replied) Refusal → Type 0
  AreTakenSo old new at came (Ok step) = LeadsOnFrom old new at (all_came came)
      (bytes_written on new step.reply) (as_list step.event)
  AreTakenSo old new at came (Err why) = (front : List ℕ) × (byte : ℕ) × (came ≡ front ++ byte ∷ [])
      × IsLast old new at front byte why

  -- the acts lead from the one station to the other, which wrote and told this in them
  pub record LastingTraces (old : LastingOf on) (acts : List (Act on.Pressed)) (written : List ℕ)
      (told : List RecordEvent) (new : LastingOf on) : Type 0 where
    pub led : AtLasting on old (λ at. old.taken + length (bytes_of acts) + 1 < 2 ^ 64
        → LeadsOnFrom old new at acts written told)
    pub shut : IsShut old.ended old.taken → ComesToNothing old acts written told new

  -- It takes these bytes, writes and tells nothing at them, and refuses the one after them. One that is shut refuses
  -- the first, for that alone.
  pub record LastingRefuses (old : LastingOf on) (front : List ℕ) (byte : ℕ) (why : Refusal) (new : LastingOf on)
      : Type 0 where
    pub led : AtLasting on old (λ at. old.taken + length front + 1 < 2 ^ 64 → IsLast old new at front byte why)
    pub shut : IsShut old.ended old.taken → (front ≡ []) × (why ≡ Failed) × StaysShut old new

  -- it takes these bytes, and writes and tells nothing at them; where it is shut, none
  pub record LastingSilent (old : LastingOf on) (came : List ℕ) : Type 0 where
    pub led : AtLasting on old (λ at. old.taken + length came + 1 < 2 ^ 64 → AreQuiet at came)
    pub shut : IsShut old.ended old.taken → came ≡ []

  -- how it behaves
  abbrev pub lasting_behaviour : Behaviour (LastingOf on) on.Pressed RecordEvent
  lasting_behaviour = record {
    traces = LastingTraces;
    refuses = LastingRefuses;
    silent = LastingSilent;
    over = λ station. IsSome station.ended;
  }

  -- it refuses the key, for this reason, where it stands, or since it is shut
  pub record IsLastingKeyRefusal (station : LastingOf on) (key : on.Pressed) (fault : KeyFault) : Type 0 where
    pub led : AtLasting on station (λ at. station.taken + 1 < 2 ^ 64 → key_on on.does at.state key ≡ RefusesKey fault)
    pub shut : IsShut station.ended station.taken → fault ≡ KeyFailed

  -- it has no reason to refuse the key, and isn't shut
  pub record IsLastingKeyTaken (station : LastingOf on) (key : on.Pressed) : Type 0 where
    pub led : AtLasting on station (λ at. station.taken + 1 < 2 ^ 64
        → (fault : KeyFault) → key_on on.does at.state key ≡ RefusesKey fault → ⊥)
    pub works : IsShut station.ended station.taken → ⊥

  -- a key at it, which takes no memory
  abbrev pub lasting_key_judged : on.Pressed → Judged (LastingOf on) on.Pressed RecordEvent KeyFault
  lasting_key_judged key =
      judged lasting_behaviour IsLastingKeyRefusal IsLastingKeyTaken (λ station request. ⊥) key
