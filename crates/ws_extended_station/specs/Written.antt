-- What a station may write on the display that live hosts use: nothing else.
use Rattle.std.specs.Prelude.{◌≡◌, ℕ, ◌⊎◌}
use Rattle.ws_nego.specs.declared.terminal.TerminalType.{TerminalType}
use Rattle.ws_record.specs.declared.opcode.Opcode.{Opcode}
use Rattle.ws_record.specs.declared.record.Item.{Item}
use Rattle.ws_record.specs.declared.record.Item.TheVariants.{Record as RecordItem, Telnet as TelnetItem}
use Rattle.ws_screen.specs.ScreenParts.{ScreenParts}
use Rattle.ws_screen.specs.declared.read_kind.ReadKind.{ReadKind}
use Rattle.ws_telnet.specs.declared.token.Telnet.{Telnet}
use Rattle.ws_extended.specs.ExtendedStates.{ExtendedState}
use Rattle.ws_extended.specs.Telling.{told_bytes}
use Rattle.ws_extended.specs.declared.ask.Ask.{Ask}
use Rattle.ws_end.specs.Reaction.{empty_record}
use Rattle.ws_end.specs.station.StationEndState.{answer_record}
use Rattle.ws_extended_station.specs.Bytewise.{by_bytes}
use Rattle.ws_extended_station.specs.ExtendedRecords.{told_opcode}

-- the item is a Telnet command, an answer to a read, an empty record, or what was asked at once
abbrev pub MayBeWritten : Item ℕ → Type 0
MayBeWritten item = ((t : Telnet) × (item ≡ TelnetItem t))
    ⊎ (((screen : ScreenParts) × (kind : ReadKind) × (aid : ℕ) × (item ≡ by_bytes (answer_record screen kind aid)))
    ⊎ (((flags : ℕ) × (opcode : Opcode) × (item ≡ empty_record flags opcode))
    ⊎ ((ask : Ask) × (terminal : TerminalType) × (state : ExtendedState) × (item ≡ RecordItem (record {
      flags = 0;
      opcode = told_opcode ask;
      body = told_bytes ask terminal state;
    })))))
