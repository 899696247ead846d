-- What becomes of a display to which the elements of a body are carried out.
use Rattle.std.specs.Prelude.{◌≡◌, ◌++◌, ℕ, List, Some, None, Result, Ok, Err}
use Rattle.ws_code.specs.Code.{IsChain, spelling_of}
use Rattle.ws_code.specs.declared.reason.Reason.{Reason}
use Rattle.ws_record.specs.declared.opcode.Opcode.{Opcode}
use Rattle.ws_extended.specs.Asking.{HasAsked, asks_in, first_ask}
use Rattle.ws_extended.specs.ExtendedElements.{extended_rules}
use Rattle.ws_extended.specs.ExtendedStates.{ExtendedState, state_after_all, state_after_end}
use Rattle.ws_extended.specs.ExtendedViews.{ExtendedParts, Shows}
use Rattle.ws_extended.specs.declared.extended_element.ExtendedElement.{ExtendedElement}
use Rattle.ws_extended.specs.declared.extended_place.ExtendedPlace.{ExtendedPlace}
use Rattle.ws_end.specs.station.Alarms.{alarm_count}
use Rattle.ws_extended_station.specs.ExtendedAlarms.{extended_alarms_in}
use Rattle.ws_extended_station.specs.ExtendedRecords.{elements_fault, record_fault, state_after_opcode}
use Rattle.ws_extended_station.specs.declared.heard.Heard.{Heard}

-- what the elements of a body bring: this is what they ask, and so many of them sound the alarm
abbrev pub AsksAndSounds : List ExtendedElement → Heard → Type 0
AsksAndSounds body heard = HasAsked (asks_in body) heard.asked.ask heard.asked.refused
    × (heard.alarms ≡ alarm_count (extended_alarms_in body))

-- what becomes of a display by the elements of a body: all are carried out, and this is what they bring; or the first
-- that is refused is so for this reason
abbrev pub AreCarriedOut : ExtendedState → List ExtendedElement → ExtendedParts → Result Heard Reason → Type 0
AreCarriedOut state body new (Ok heard) = (elements_fault state body ≡ None) × AsksAndSounds body heard
    × Shows (state_after_all state body) new
AreCarriedOut state body new (Err reason) = elements_fault state body ≡ Some reason

-- A body whose first elements are carried out, and this is what they bring. The bytes left spell the others, and the
-- next stands at this place.
pub record IsUnderWay (state : ExtendedState) (body : List ExtendedElement) (now : ExtendedParts) (heard : Heard)
    (left : List ℕ) (place : ExtendedPlace) : Type 0 where
  pub done : List ExtendedElement
  pub others : List ExtendedElement
  pub split : body ≡ done ++ others
  pub carried : AreCarriedOut state done now (Ok heard)
  pub stand : IsChain extended_rules place others
  pub spelled : left ≡ spelling_of extended_rules others

-- the record of these elements isn't refused, this is what it asks, and so many of its elements sound the alarm
pub record HasBrought (state : ExtendedState) (body : List ExtendedElement) (heard : Heard) : Type 0 where
  pub unrefused : record_fault state body ≡ None
  pub asks : heard.asked.ask ≡ first_ask (asks_in body)
  pub sounds : heard.alarms ≡ alarm_count (extended_alarms_in body)

-- what becomes of a display by the elements of a record: it is carried out, but for the end of its write and its
-- opcode, and this is what it brings; or it is refused
abbrev pub IsJudged : ExtendedState → List ExtendedElement → ExtendedParts → Result Heard Reason → Type 0
IsJudged state body new (Ok heard) = HasBrought state body heard × Shows (state_after_all state body) new
IsJudged state body new (Err reason) = record_fault state body ≡ Some reason

-- what becomes of a display by a whole record of this opcode: it is carried out, and this is what it brings; or it is
-- refused
abbrev pub IsAppliedTo : ExtendedState → Opcode → List ExtendedElement → ExtendedParts → Result Heard Reason → Type 0
IsAppliedTo state opcode body new (Ok heard) = HasBrought state body heard
    × Shows (state_after_opcode opcode (state_after_end (state_after_all state body))) new
IsAppliedTo state opcode body new (Err reason) = record_fault state body ≡ Some reason
