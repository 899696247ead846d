-- What a line hears that waits for what a host tells, and what it prints of that.

use Rattle.std.specs.List.{flat_map}
use Rattle.std.specs.Prelude.{◌≡◌, List, [], ◌∷◌, ◌++◌, ◌⊎◌, ℕ, Bool, true, false, Option, None, Some, length}
use Rattle.std.specs.Prelude.{Result, Ok, Err}
use Rattle.ws_code.specs.Device.{most_reads, Devices}
use Rattle.ws_code.specs.declared.fault.Fault.{Fault}
use Rattle.ws_code.specs.declared.fault.Fault.TheVariants as fault
use Rattle.ws_end.specs.Behaviour.{Behaviour}
use Rattle.ws_end.specs.attached.Attachments.{AttachedParts, HasHeard, IsHearFault}
use Rattle.ws_session.specs.declared.world.Event.TheVariants.{HostRefused}
use Rattle.ws_printing.specs.PlayLines.{event_text}
use Rattle.ws_live.specs.live.LiveText.{LineResult, line_result}
use Rattle.ws_live.specs.live.Sentences.{sentence_line}
use Rattle.ws_live.specs.live.Watches.{WatchedDevices}
use Rattle.ws_live.specs.declared.live.Closing.{Closing}
use Rattle.ws_live.specs.declared.live.Closing.TheVariants.{Done, Late, Ended, Stopped}

-- how a wait closes that a fault ended, late or not, and what it prints
abbrev pub unheard_outcome : Bool → Fault → Result Closing Fault
unheard_outcome late (fault.Refused place reason) = Ok Stopped
unheard_outcome true fault.Read = Ok Late
unheard_outcome late why = Err why

-- what the host end's fault prints: the byte that it refused, or nothing
abbrev pub unheard_text : Fault → List ℕ
unheard_text (fault.Refused place reason) = event_text (HostRefused place reason) ++ sentence_line reason
unheard_text why = []

module _ {E Q T S K : Type 0} (behaviour : Behaviour E Q T) (devices : Devices S K) (meets : T → Bool) where
  -- things were told one after another, none of which is what is awaited
  abbrev pub HaveToldBefore : AttachedParts E S K → List T → AttachedParts E S K → Type 0
  HaveToldBefore from [] to = to ≡ from
  HaveToldBefore from (one ∷ more) to = (mid : AttachedParts E S K) × HasHeard behaviour devices from mid (Some one)
      × (meets one ≡ false) × HaveToldBefore mid more to

-- What a wait comes to at an end that behaves so and of whose things this is printed, at a watch that tells of a source
-- whether the read that failed was late.
module _ {E Q T S K : Type 0} (behaviour : Behaviour E Q T) (text_of : T → List ℕ) (on : WatchedDevices S K) where
  -- the end heard the other side up to the first thing that it tells, which is printed; or it tells none: the other side
  -- closed, or a fault came
  abbrev pub HearsOne : AttachedParts E S K → Option T → LineResult → AttachedParts E S K → Type 0
  HearsOne from None came to =
      (HasHeard behaviour on.devices from to None × (came.outcome ≡ Ok Ended) × (came.text ≡ []))
      ⊎ ((why : Fault) × (late : Bool) × IsHearFault behaviour on.devices from to why
      × (why ≡ fault.Read → on.tells.is_late to.source late)
      × (came.outcome ≡ unheard_outcome late why) × (came.text ≡ unheard_text why))
  HearsOne from (Some one) came to = HasHeard behaviour on.devices from to (Some one)
      × (came.outcome ≡ Ok Done) × (came.text ≡ text_of one)

  -- The end heard the other side up to what is awaited, and printed all that it told: after some things that came; or
  -- none more did; or as many were told as one wait takes.
  pub record HearsUntil (meets : T → Bool) (from : AttachedParts E S K) (came : LineResult)
      (to : AttachedParts E S K) : Type 0 where
    pub told : List T
    pub mid : AttachedParts E S K
    pub before : HaveToldBefore behaviour on.devices meets from told mid
    pub last : List ℕ
    pub ends : ((one : T) × (meets one ≡ true) × HearsOne mid (Some one) (line_result came.outcome last) to)
        ⊎ (HearsOne mid None (line_result came.outcome last) to
        ⊎ ((length told ≡ most_reads) × (to ≡ mid) × (came.outcome ≡ Err fault.Read) × (last ≡ [])))
    pub all : came.text ≡ flat_map text_of told ++ last
