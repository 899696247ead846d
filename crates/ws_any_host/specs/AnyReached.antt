-- The host by the bytes that lead to it, and what a send makes of it (RFC 1205, 4777).

use Rattle.std.specs.Prelude.{◌≡◌, ℕ, ◌+◌, ◌<◌, ◌^◌, List, Some, None, length}
use Rattle.std.specs.declared.alloc.Global.{Global}
use Rattle.std.specs.declared.vec.Vec.{Vec}
use Rattle.ws_record.specs.declared.record.Item.{Item}
use Rattle.ws_record.specs.declared.record.Record.{Record}
use Rattle.ws_end.specs.Behaviour.{Behaviour}
use Rattle.ws_end.specs.attached.Requests.{Judged, judged}
use Rattle.ws_end.specs.declared.host_end.send_fault.SendFault.{SendFault}
use Rattle.ws_end.specs.declared.host_end.send_fault.SendFault.TheVariants.{Failed as SendFailed, Memory as SendMemory}
use Rattle.ws_end.specs.driver.DriverBehaviour.{driver_behaviour}
use Rattle.ws_end.specs.driver.Driven.{AtDriver, Driven, IsReached, TakesNoMore}
use Rattle.ws_any_host.specs.AnyOptions.{Negotiated}
use Rattle.ws_any_host.specs.AnyEndState.{any_driving, send_fault}
use Rattle.ws_any_host.specs.declared.any_event.AnyEvent.{AnyEvent}

-- what a host keeps
abbrev pub AnyParts : Type 0
AnyParts = Driven Negotiated (Vec ℕ Global) (Unit {0})

-- The bytes lead to the host: they hold these items, none of them is refused, and what it did at them left it with
-- these options.
abbrev pub AnyReached : AnyParts → List ℕ → List (Item ℕ) → Negotiated → Type 0
AnyReached = IsReached any_driving

-- this holds of whatever led to the host
abbrev pub AtAny : AnyParts → (List ℕ → List (Item ℕ) → Negotiated → Type 0) → Type 0
AtAny = AtDriver any_driving

-- why no record is sent by a host that isn't shut; for want of memory only what would have been
abbrev pub IsAnySendFault : Negotiated → Record ℕ → SendFault → Type 0
IsAnySendFault n r SendMemory = send_fault n r ≡ None
IsAnySendFault n r SendFailed = ⊥
IsAnySendFault n r why = send_fault n r ≡ Some why

-- how the host behaves
abbrev pub any_behaviour : Behaviour AnyParts (Record ℕ) AnyEvent
any_behaviour = driver_behaviour any_driving

-- the host refuses to send a record, for this reason, by all that came before; or since it is shut
pub record IsAnySendRefusal (host : AnyParts) (r : Record ℕ) (why : SendFault) : Type 0 where
  pub led : AtAny host (λ bytes items state. length bytes + 1 < 2 ^ 64 → send_fault state r ≡ Some why)
  pub shut : TakesNoMore host → why ≡ SendFailed

-- the host has no reason to refuse to send the record, and isn't shut
pub record IsAnySendTaken (host : AnyParts) (r : Record ℕ) : Type 0 where
  pub led : AtAny host (λ bytes items state. length bytes + 1 < 2 ^ 64 → send_fault state r ≡ None)
  pub works : TakesNoMore host → ⊥

-- a record to be sent, as the host judges it
abbrev pub any_judged : Record ℕ → Judged AnyParts (Record ℕ) AnyEvent SendFault
any_judged r = judged any_behaviour IsAnySendRefusal IsAnySendTaken IsAnySendTaken r
