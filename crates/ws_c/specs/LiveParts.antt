-- A station that no refused record ends, as C holds it: its parts

use Rattle.std.specs.Prelude.{◌≡◌, ℕ, List, Option, Some, None}
use Rattle.std.specs.Option.{option_map, option_map_or}
use Rattle.ws_code.specs.CodePage.{page_number}
use Rattle.ws_code.specs.Reason.{number_of as reason_number}
use Rattle.ws_code.specs.declared.code_page.CodePage.{CodePage}
use Rattle.ws_nego.specs.Station.{station_allows_records}
use Rattle.ws_screen.specs.ScreenParts.{ScreenParts}
use Rattle.ws_end.specs.Ends.{refused_byte}
use Rattle.ws_entry.specs.Following.{on_entry}
use Rattle.ws_extended_station.specs.ExtendedDisplays.{standing_row}
use Rattle.ws_lasting.specs.Footings.{LastingOf, bytes_written}
use Rattle.ws_lasting.specs.declared.lasting_reply.LastingReply.{LastingReply}
use Rattle.ws_lasting.specs.declared.record_event.RefusedRecord.{RefusedRecord}
use Rattle.ws_c.specs.Calls.{beside_screen, row_number, state_of_screen}
use Rattle.ws_c.specs.LiveEnds.{left_of}
use Rattle.ws_c.specs.declared.held_end.HeldEnd.{HeldEnd}
use Rattle.ws_c.specs.declared.state_told.StateTold.{StateTold}

-- a station that no refused record ends, on the display that acts on format words
abbrev pub LiveParts : Type 0
LiveParts = LastingOf on_entry

-- one that C holds
abbrev pub HeldLive : Type 0
HeldLive = HeldEnd LiveParts (Option (LastingReply on_entry.Replied))

-- what of its last reply hasn't gone out yet
abbrev pub left_live : HeldLive → List ℕ
left_live = left_of (bytes_written on_entry)

-- its screen
abbrev pub live_screen : LiveParts → ScreenParts
live_screen s = s.station.reacts.screen.display.display.screen

-- its code page, where it has an identity
abbrev pub page_told : LiveParts → Option CodePage
page_told s = option_map (λ environ. environ.identity.page) s.environ

-- the page on which characters are typed: that of an identity, else 037
abbrev pub IsTypedOn : Option CodePage → CodePage → Type 0
IsTypedOn None page = page_number page ≡ 37
IsTypedOn (Some own) page = page ≡ own

-- the place of a refused record's byte, and 0 where none was refused
abbrev pub record_place : Option RefusedRecord → ℕ
record_place refused = option_map_or (λ record_. record_.place) refused 0

-- the number of its reason, and 0 where none was refused
abbrev pub record_reason : Option RefusedRecord → ℕ
record_reason refused = option_map_or (λ record_. reason_number record_.reason) refused 0

-- what is told of it but for its cells and fields
abbrev pub live_state_told : LiveParts → StateTold
live_state_told s = record (state_of_screen (live_screen s)
    (beside_screen s.counts.carried_out s.station.reacts.screen.display.alarms (refused_byte s.ended)
    (station_allows_records s.station.reacts.options) (row_number (standing_row s.station.reacts.screen.display.display)))) {
      refused_records = s.counts.refused;
      record_place = record_place s.counts.last;
      names_refused = option_map_or (λ environ. environ.names_refused) s.environ 0;
      record_reason = record_reason s.counts.last;
      is_full = s.station.reacts.screen.full;
    }
