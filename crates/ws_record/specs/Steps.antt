-- Steps and items out of news.

use Rattle.std.specs.Prelude.{◌≡◌, ℕ, ◌-◌, false, List, [], Option as Maybe, Some, Result, Ok, Err, length}
use Rattle.ws_code.specs.declared.fault.Fault.{Fault}
use Rattle.ws_code.specs.declared.fault.Fault.TheVariants as faults
use Rattle.ws_telnet.specs.declared.token.Sub.{Sub as ASub}
use Rattle.ws_telnet.specs.Words.{telnet_of}
use Rattle.ws_record.specs.declared.record.Item.{Item}
use Rattle.ws_record.specs.declared.record.Item.TheVariants.{Record as RecordItem, Telnet as TelnetItem}
use Rattle.ws_record.specs.declared.news.News.{News}
use Rattle.ws_record.specs.declared.news.News.TheVariants.{More, Unit as Whole, Open, Close, Telnet, Refused, NoMemory}
use Rattle.ws_record.specs.declared.news.News.TheVariants.{Failed}
use Rattle.ws_record.specs.declared.live.Step.{Step}
use Rattle.ws_record.specs.declared.live.Step.TheVariants as steps
use Rattle.ws_record.specs.declared.receiver.Fed.{Fed}
use Rattle.ws_record.specs.DataStep.{record_of}
use Rattle.ws_record.specs.Live.{Watching}
use Rattle.ws_record.specs.Receiver.{Receiving}

-- a decoder that has taken just these bytes
abbrev pub counted : {Place : Type 0} → Watching Place → List ℕ → Watching Place
counted live bytes = record live { taken = length bytes; failed = false }

module _ {Place U : Type 0} where
  -- the step that the news are, with the unit that came with them; a subnegotiation is taken out
  abbrev pub IsStepOf : Watching Place → News → Maybe U → Watching Place → Step U → Type 0
  IsStepOf old More unit new step = (step ≡ steps.More) × (new ≡ old)
  IsStepOf old Whole unit new step = (u : U) → unit ≡ Some u → (step ≡ steps.Unit u) × (new ≡ old)
  IsStepOf old (Open head) unit new step = (step ≡ steps.Open head) × (new ≡ old)
  IsStepOf old (Close head) unit new step = (step ≡ steps.Close) × (new ≡ old)
  IsStepOf old (Telnet word) unit new step = old.begun ≡ [] → (step ≡ steps.Telnet (telnet_of word old.sub))
      × ((left : ASub) × (new ≡ record old { sub = left }))
  IsStepOf old (Refused reason) unit new step = (step ≡ steps.Refused (old.taken - 1) reason) × (new ≡ old)
  IsStepOf old NoMemory unit new step = (step ≡ steps.Failed) × (new ≡ old)
  IsStepOf old Failed unit new step = (step ≡ steps.Failed) × (new ≡ old)

  -- the item or the fault that they are, with the units that are kept of a record
  abbrev pub IsItemOf : Receiving Place U → News → Receiving Place U → Result (Item U) Fault → Type 0
  IsItemOf old (Close head) new answer =
      (answer ≡ Ok (RecordItem (record_of head old.units))) × (new ≡ record old { units = [] })
  IsItemOf old (Telnet word) new answer = old.live.begun ≡ []
      → (answer ≡ Ok (TelnetItem (telnet_of word old.live.sub)))
      × ((left : ASub) × (new ≡ record { live = record old.live { sub = left }; units = old.units }))
  IsItemOf old (Refused reason) new answer =
      (answer ≡ Err (faults.Refused (old.live.taken - 1) reason)) × (new ≡ old)
  IsItemOf old NoMemory new answer = (answer ≡ Err faults.Memory) × (new ≡ old)
  IsItemOf old news new answer = answer ≡ Err faults.Failed

  -- what a piece gives whose used bytes, so many, end with these news: the item or the fault that they are
  abbrev pub IsFedOf : Receiving Place U → News → ℕ → Receiving Place U → Result (Fed U) Fault → Type 0
  IsFedOf old news used new (Ok fed) =
      (item : Item U) × (fed ≡ record { used = used; item = Some item }) × IsItemOf old news new (Ok item)
  IsFedOf old news used new (Err fault) = IsItemOf old news new (Err fault)
