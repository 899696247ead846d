-- The host's alarm in a live host's body (SC30-3533, Write to Display command, control character 2).
use Rattle.std.specs.Prelude.{ℕ, List, Bool, false, count_by}
use Rattle.ws_extended.specs.declared.extended_element.ExtendedElement.{ExtendedElement}
use Rattle.ws_extended.specs.declared.extended_element.ExtendedElement.TheVariants.{Profile, Text}
use Rattle.ws_end.specs.station.Alarms.{sounds_alarm}

-- an element of the profile sounds as there (a text, which has no Write, never does), and none beside the profile
abbrev pub extended_sounds : ExtendedElement → Bool
extended_sounds (Profile e) = sounds_alarm e
extended_sounds (Text e) = sounds_alarm e
extended_sounds u = false

-- how many of a body's elements sound
abbrev pub extended_alarms_in : List ExtendedElement → ℕ
extended_alarms_in body = count_by extended_sounds body
