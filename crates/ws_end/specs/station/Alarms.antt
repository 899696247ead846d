-- The host's alarm (SC30-3533, Write to Display command, control character 2).

use Rattle.std.specs.Prelude.{ℕ, ◌-◌, ◌^◌, min, List, Bool, false, count_by}
use Rattle.ws_stream.specs.declared.element.Element.{Element}
use Rattle.ws_stream.specs.declared.element.Element.TheVariants.{Write}
use Rattle.ws_screen.specs.Controls.{has_bit}
use Rattle.ws_screen.specs.Events.{Event, did, History}
use Rattle.ws_end.specs.declared.station.alarm.TheConstants.{ALARM}

-- a Write whose CC2 has the bit sounds the alarm, and no other element does
abbrev pub sounds_alarm : Element → Bool
sounds_alarm (Write cc1 cc2) = has_bit ALARM cc2
sounds_alarm e = false

-- how many of a body's elements sound it
abbrev pub alarms_in : List Element → ℕ
alarms_in body = count_by sounds_alarm body

-- an element that was carried out and sounds it
abbrev pub is_alarm : Event → Bool
is_alarm (did e) = sounds_alarm e
is_alarm e = false

-- how many times it has sounded
abbrev pub alarms_of : History → ℕ
alarms_of h = count_by is_alarm h

-- its count stops at the greatest number of 64 bits
abbrev pub alarm_count : ℕ → ℕ
alarm_count n = min n (2 ^ 64 - 1)
