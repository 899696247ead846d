-- A host that takes any record: what it does at each item that arrives, and what it sends (RFC 1205, section 3)

use Rattle.std.specs.Prelude.{◌≡◌, ℕ, ◌^◌, List, [], ◌∷◌, Bool, not, ◌&&◌, if◌then◌else◌, Option, Some, None, map}
use Rattle.std.specs.Prelude.{length, nat_lt}
use Rattle.ws_code.specs.declared.reason.Reason.TheVariants.{RecordBeforeNegotiation, UnsupportedTerminal}
use Rattle.ws_nego.specs.Host.{host_allows_records}
use Rattle.ws_nego.specs.Options.{Answer}
use Rattle.ws_record.specs.Grammar.{record_bytes}
use Rattle.ws_record.specs.RawBody.{raw_rules}
use Rattle.ws_record.specs.declared.record.Record.{Record}
use Rattle.ws_record.specs.declared.record.Item.{Item}
use Rattle.ws_record.specs.declared.record.Item.TheVariants.{Record as RecordItem, Telnet as TelnetItem}
use Rattle.std.specs.declared.alloc.Global.{Global}
use Rattle.std.specs.declared.vec.Vec.{Vec}
use Rattle.ws_code.specs.Keep.{list_keeper}
use Rattle.ws_end.specs.Acts.{Doing, idle}
use Rattle.ws_end.specs.Reaction.{Output, Reaction, Refuses, GoesOn}
use Rattle.ws_end.specs.driver.Driven.{Driving, driving}
use Rattle.ws_end.specs.driver.Reacting.{ReactingOf}
use Rattle.ws_end.specs.declared.host_end.send_fault.SendFault.{SendFault}
use Rattle.ws_end.specs.declared.host_end.send_fault.SendFault.TheVariants.{NotAllowed, TooBig}
use Rattle.ws_any_host.specs.AnyOptions.{Negotiated, any_answer}
use Rattle.ws_any_host.specs.declared.any_event.AnyEvent.{AnyEvent}
use Rattle.ws_any_host.specs.declared.any_event.AnyEvent.TheVariants.{Ready, Record as Came}

-- what such a host writes at an item, and tells its caller
abbrev pub AnyOutput : Type 0
AnyOutput = Output ℕ AnyEvent

-- a session is ready once records are allowed and weren't before (RFC 1205, section 2)
abbrev pub any_ready : Bool → Negotiated → Option AnyEvent
any_ready was_allowed now = if not was_allowed && host_allows_records now.host then Some (Ready now.name) else None

-- what such a host makes of its answer to a Telnet command: it is written; where there is none, no terminal type is
-- told
abbrev pub any_negotiates : Negotiated → Option (Answer Negotiated) → Reaction Negotiated AnyOutput
any_negotiates n None = Refuses UnsupportedTerminal
any_negotiates n (Some answer) = GoesOn answer.after (record {
  items = map TelnetItem answer.reply;
  event = any_ready (host_allows_records n.host) answer.after;
})

-- what such a host does at an item: it answers a Telnet command, and tells any record, once records are allowed
abbrev pub any_takes : Negotiated → Item ℕ → Reaction Negotiated AnyOutput
any_takes n (TelnetItem token) = any_negotiates n (any_answer n token)
any_takes n (RecordItem r) =
    if host_allows_records n.host then GoesOn n (record { items = []; event = Some (Came r) })
    else Refuses RecordBeforeNegotiation

-- the record has more bytes than its header can declare
abbrev pub is_any_too_big : Record ℕ → Bool
is_any_too_big r = not (nat_lt (length (record_bytes raw_rules r)) (2 ^ 16))

-- why such a host doesn't send a record: the first that applies
abbrev pub send_fault : Negotiated → Record ℕ → Option SendFault
send_fault n r =
    if not (host_allows_records n.host) then Some NotAllowed
    else (if is_any_too_big r then Some TooBig else None)

-- what such a host has done after a send: the record is written; at a refused one nothing
abbrev pub any_at_send : Negotiated → Record ℕ → Option SendFault → Doing Negotiated ℕ AnyEvent
any_at_send n r (Some fault) = idle n
any_at_send n r None = record { state = n; written = RecordItem r ∷ []; events = [] }

-- how such a host reacts: its caller sends records; no memory is wanted for what it makes of an item
abbrev pub any_reacting : ReactingOf Negotiated ℕ (Record ℕ) AnyEvent (List ℕ)
any_reacting = record {
  State = Negotiated;
  Made = AnyOutput;
  PlaceV = Unit {0};
  V = ℕ;
  Shown = Unit {0};
  out = raw_rules;
  takes = any_takes;
  puts = λ item output. output;
  acts = λ n r. any_at_send n r (send_fault n r);
  stands = λ host items state. host ≡ state;
  written = λ host reply. reply;
  wants = λ output. ⊥;
  shown = λ host. tt;
}

-- such a host: what comes to it, how it keeps an open record, and how it reacts
abbrev pub any_driving : Driving Negotiated (Vec ℕ Global) (Unit {0}) ℕ (Record ℕ) AnyEvent (List ℕ)
any_driving = driving raw_rules (list_keeper (λ units. units.items)) any_reacting
