-- A station at which lines are carried out: what is done at it, and what is seen of it.

use Rattle.std.specs.Option.{option_map_or, unwrap_or}
use Rattle.std.specs.Prelude.{ℕ, Option, None, Some, if◌then◌else◌}
use Rattle.ws_code.specs.declared.code_page.CodePage.{CodePage}
use Rattle.ws_nego.specs.Station.{station_allows_records}
use Rattle.ws_screen.specs.ScreenParts.{ScreenParts}
use Rattle.ws_end.specs.Behaviour.{Behaviour}
use Rattle.ws_end.specs.Behaviours.{station_behaviour}
use Rattle.ws_end.specs.attached.Requests.{Judged, key_judged}
use Rattle.ws_end.specs.declared.end_step.Applied.{Applied}
use Rattle.ws_end.specs.declared.station.key_fault.KeyFault.{KeyFault}
use Rattle.ws_end.specs.station.Displays.{DisplayOf, OnDisplay}
use Rattle.ws_end.specs.station.Stations.{PartsOn}
use Rattle.ws_entry.specs.Following.{enter, follows, on_entry}
use Rattle.ws_entry.specs.declared.typed_key.TypedKey.{TypedKey}
use Rattle.ws_extended_station.specs.ExtendedDisplays.{DisplayParts, extended}
use Rattle.ws_extended_station.specs.declared.extended_key.ExtendedKey.{ExtendedKey}
use Rattle.ws_lasting.specs.Behaviour.{lasting_behaviour, lasting_key_judged}
use Rattle.ws_lasting.specs.Footings.{LastingOf}
use Rattle.ws_lasting.specs.declared.record_event.RecordEvent.{RecordEvent}
use Rattle.ws_lasting.specs.declared.record_event.RecordEvent.TheVariants.{CarriedOut, Refused}
use Rattle.ws_printing.specs.ErrorRow.{operated_extended}
use Rattle.ws_printing.specs.Operating.{OperatedOn}
use Rattle.ws_printing.specs.ReportLines.{ReportedStation}
use Rattle.ws_printing.specs.ShownOnPage.{page_037}
use Rattle.ws_printing.specs.declared.place_and_reason.PlaceAndReason.{PlaceAndReason}
use Rattle.ws_printing.specs.script.ExtendedKeyNames.{extended_words}
use Rattle.ws_printing.specs.script.KeyWords.{KeyWords}

-- what is seen of a station: the display that it shows, the code page of what is typed and shown, what a report can
-- tell of it, and, where it tells something, where and why the record was refused that this is of, if it was
pub record SeenStation (E D T : Type 0) : Type 0 where
  pub display : E → D
  pub page : E → CodePage
  pub reported : E → ReportedStation
  pub refused : E → T → Option PlaceAndReason

-- what a station makes of a key that a script names, as it stands: the key of its own that is pressed, and the one that
-- follows it where it is carried out, if one does
pub record Typing (E P K : Type 0) : Type 0 where
  pub typed : E → P → K
  pub follows : E → P → Option K

-- A station at which lines are carried out: what it does at bytes and makes of its keys, which of these the keys of a
-- script are, what is seen of it, the screen of its display, what an operator sees of that, and the words for the keys
-- of a script; before them the types of which these speak.
pub record LiveStation : Type 1 where
  pub Station : Type 0
  pub Request : Type 0
  pub Event : Type 0
  pub Display : Type 0
  pub Key : Type 0
  pub Pressed : Type 0
  pub behaviour : Behaviour Station Request Event
  pub keyed : Key → Judged Station Request Event KeyFault
  pub typing : Typing Station Pressed Key
  pub seen : SeenStation Station Display Event
  pub shown : Display → ScreenParts
  pub operated : OperatedOn Display
  pub words : KeyWords Pressed

-- it does this, and this is seen of it
abbrev pub live_station : {E Q T D K P : Type 0} → Behaviour E Q T → (K → Judged E Q T KeyFault) → Typing E P K
    → SeenStation E D T → (D → ScreenParts) → OperatedOn D → KeyWords P → LiveStation
live_station {E} {Q} {T} {D} {K} {P} behaviour keyed typing seen shown operated words = record {
  Station = E;
  Request = Q;
  Event = T;
  Display = D;
  Key = K;
  Pressed = P;
  behaviour = behaviour;
  keyed = keyed;
  typing = typing;
  seen = seen;
  shown = shown;
  operated = operated;
  words = words;
}

-- the screen that a station shows
abbrev pub station_screen : (at : LiveStation) → at.Station → ScreenParts
station_screen at station = at.shown (at.seen.display station)

-- the code page by which lines show what is on its screen
abbrev pub station_page : (at : LiveStation) → at.Station → CodePage
station_page at station = at.seen.page station

-- the keys of a script are the station's own, and none follows
abbrev pub typed_plainly : {E K : Type 0} → Typing E K K
typed_plainly = record { typed = λ station key. key; follows = λ station key. None }

-- what is seen of a station on a display: it goes on after no record that is refused
abbrev pub seen_on : {D P U H PlaceV V Q R : Type 0} → DisplayOf D U H PlaceV V Q R → SeenStation (PartsOn D P) D Applied
seen_on does = record {
  display = λ station. station.reacts.screen;
  page = λ station. page_037;
  reported = λ station. record {
    screen = does.shown station.reacts.screen;
    is_ready = station_allows_records station.reacts.options;
    records = station.reacts.records;
    taken = station.live.taken;
  };
  refused = λ station applied. None;
}

-- where and why the record was refused of which this is told, if it was, where the last was refused there that was
abbrev pub refused_by : Option ℕ → RecordEvent → Option PlaceAndReason
refused_by last CarriedOut = None
refused_by last (Refused why) = Some (record { 0 = unwrap_or last 0; 1 = why.reason })

-- a station as live hosts use it, which goes on after a record that it refuses, and acts on format words
abbrev pub LastingEntry : Type 0
LastingEntry = LastingOf on_entry

-- the display that it shows
abbrev pub extended_display : LastingEntry → DisplayParts
extended_display station = station.station.reacts.screen.display

-- its code page: that of its identity, else 037
abbrev pub typing_page : LastingEntry → CodePage
typing_page station = option_map_or (λ environ. environ.identity.page) station.environ page_037

-- what is seen of it
abbrev pub seen_entry : SeenStation LastingEntry DisplayParts RecordEvent
seen_entry = record {
  display = extended_display;
  page = typing_page;
  reported = λ station. record {
    screen = extended.shown (extended_display station);
    is_ready = station_allows_records station.station.reacts.options;
    records = station.counts.carried_out;
    taken = station.taken;
  };
  refused = λ station told. refused_by station.refused_at told;
}

-- its keys are those of a script, typed on its page; where the open field's format word asks for that, Enter follows
abbrev pub typed_on_page : Typing LastingEntry ExtendedKey TypedKey
typed_on_page = record {
  typed = λ station key. record { key = key; page = typing_page station };
  follows = λ station key.
      if follows (extended.shown (extended_display station)) key then Some (enter (typing_page station)) else None;
}

-- such stations, as lines see them
abbrev pub station_at : (on : OnDisplay) → OperatedOn on.Parts → KeyWords on.Pressed → LiveStation
station_at on operated words =
    live_station (station_behaviour on) (key_judged on) typed_plainly (seen_on on.does) on.does.shown operated words

abbrev pub entry_station : LiveStation
entry_station = live_station (lasting_behaviour on_entry) (lasting_key_judged on_entry) typed_on_page seen_entry
    extended.shown operated_extended extended_words
