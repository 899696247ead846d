-- How a station on any display reacts to what comes to it and to keys (RFC 1205, 4777)

use Rattle.std.specs.Prelude.{◌≡◌, ℕ, ◌-◌, ◌^◌, min, List}
use Rattle.ws_code.specs.Keep.{Keeper}
use Rattle.ws_code.specs.declared.keep.Kept.TheVariants.{GoOn}
use Rattle.ws_nego.specs.Station.{StationState}
use Rattle.ws_record.specs.declared.record.Item.{Item}
use Rattle.ws_end.specs.Acts.{Doing, Happening, Transitions, as_list}
use Rattle.ws_end.specs.Reaction.{Output, Reaction}
use Rattle.ws_end.specs.declared.end_step.Applied.{Applied}
use Rattle.ws_end.specs.driver.Driven.{Driven, Driving, driving}
use Rattle.ws_end.specs.driver.Reacting.{ReactingOf, at_reaction, reacting_transitions, reacts_at}
use Rattle.ws_end.specs.station.Displays.{DisplayOf, OnDisplay, EndStateOn}
use Rattle.ws_end.specs.station.StationCounts.{is_record, keeps_body, records_in}
use Rattle.ws_end.specs.station.StationTransitions.{at_key_on, key_on, takes_on, event_by}

-- what reacts at a station: its options, its display, and how many records it has applied
pub record StationKept (D : Type 0) : Type 0 where
  pub options : StationState
  pub screen : D
  pub records : ℕ

-- what a station tells at an item: of a record that it was applied, of a Telnet command nothing
abbrev pub applied_by : {U : Type 0} → Item U → List Applied
applied_by item = as_list (event_by (is_record item))

-- what a station puts out at an item: what it writes, and that a record was applied
abbrev pub station_puts : {U V : Type 0} → Item U → List (Item V) → Output V Applied
station_puts item items = record { items = items; event = event_by (is_record item) }

-- the bytes of an open record's body are kept
abbrev pub body_keeper : {U : Type 0} → Keeper U (List ℕ)
body_keeper = record {
  holds = λ kept units events. keeps_body kept events;
  may_answer = λ answer. answer ≡ GoOn;
}

module _ {D U H PlaceV V K R : Type 0} (d : DisplayOf D U H PlaceV V K R) where
  -- the options and the display are those of this state, and the records among these items are counted
  pub record StationStands (station : StationKept D) (items : List (Item U)) (state : EndStateOn H) : Type 0 where
    pub options : station.options ≡ state.options
    pub given : d.gives state.happened station.screen
    pub counted : station.records ≡ min (records_in items) (2 ^ 64 - 1)

  -- how a station reacts; it takes no memory
  abbrev pub station_reacting : ReactingOf (StationKept D) U K Applied R
  station_reacting = record {
    State = EndStateOn H;
    Made = List (Item V);
    PlaceV = PlaceV;
    V = V;
    Shown = D;
    out = d.out;
    takes = takes_on d;
    puts = station_puts;
    acts = λ state key. at_key_on d state (key_on d state key);
    stands = StationStands;
    written = λ station reply. d.written station.screen reply;
    wants = λ items. ⊥;
    shown = λ station. station.screen;
  }

  -- what a station has done after an item: it has gone on as it reacts; at a refused one nothing
  abbrev pub at_item_on : EndStateOn H → Item U → Reaction (EndStateOn H) (List (Item V)) → Doing
      (EndStateOn H) V Applied
  at_item_on s item = at_reaction (station_puts item) s

  -- what a station has done after each thing that happens
  abbrev pub at_on : EndStateOn H → Happening U K → Doing (EndStateOn H) V Applied
  at_on = reacts_at station_reacting

  -- the transitions of a station: what it does at items and keys, and which items it takes
  abbrev pub transitions_on : Transitions (EndStateOn H) U V K Applied
  transitions_on = reacting_transitions station_reacting

-- a station: what comes to it, how it keeps an open record, and how it reacts
abbrev pub station_driving : (on : OnDisplay)
    → Driving (StationKept on.Parts) (List ℕ) on.Place on.Reads on.Pressed Applied on.Replied
station_driving on = driving on.rules body_keeper (station_reacting on.does)

-- what a station keeps
abbrev pub PartsOn : Type 0 → Type 0 → Type 0
PartsOn D P = Driven (StationKept D) (List ℕ) P
