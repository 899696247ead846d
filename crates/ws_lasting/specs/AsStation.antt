-- Where a station refuses no record, one that no record ends does as it

use Rattle.std.specs.Prelude.{ℕ, List, [], None, map}
use Rattle.ws_end.specs.Acts.{Act, IsTrace, protocol_of}
use Rattle.ws_end.specs.declared.end_step.Applied.{Applied}
use Rattle.ws_end.specs.station.Displays.{OnDisplay}
use Rattle.ws_end.specs.station.StationReacting.{transitions_on}
use Rattle.ws_end.specs.station.Stations.{EndStateOf}
use Rattle.ws_lasting.specs.Lasting.{FootingOn, Lasts, new_footing}
use Rattle.ws_lasting.specs.declared.record_event.RecordEvent.{RecordEvent}
use Rattle.ws_lasting.specs.declared.record_event.RecordEvent.TheVariants.{CarriedOut}

-- of each record that was applied it is told that it was carried out
abbrev pub all_carried_out : List Applied → List RecordEvent
all_carried_out told = map (λ applied. CarriedOut) told

-- from this state on the acts lead a station of whose items it refuses none, and this is written and told
abbrev pub LeadsAsStation : (on : OnDisplay) → EndStateOf on → List (Act on.Pressed) → List ℕ → List Applied → Type 0
LeadsAsStation on state acts written told =
    IsTrace (protocol_of on.rules on.does.out (transitions_on on.does)) (λ bytes items next. Unit {0}) [] [] state acts written
    told

-- one that no record ends, without an identity, then writes and tells the same
abbrev pub LastsAsStation : (on : OnDisplay) → Type 0
LastsAsStation on = (state : EndStateOf on) (acts : List (Act on.Pressed)) (written : List ℕ) (told : List Applied)
    → LeadsAsStation on state acts written told → (next : FootingOn on)
    × Lasts on (new_footing state None) acts next written (all_carried_out told)
