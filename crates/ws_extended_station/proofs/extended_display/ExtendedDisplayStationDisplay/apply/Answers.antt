use Rattle.std.proofs.Common.{◌++◌, List, ℕ, Option, map, sym, ap, refl, ◌∙◌}
use Rattle.std.proofs.lemmas.Grind.{flat_map-append}
use Rattle.ws_nego.specs.declared.terminal.TerminalType.{TerminalType}
use Rattle.ws_record.specs.DataStep.{record_of}
use Rattle.ws_record.specs.Encode.{item_spelling, plain_spelling}
use Rattle.ws_record.specs.RawBody.{raw_rules}
use Rattle.ws_extended.specs.Asking.{asks_in, first_ask}
use Rattle.ws_extended.specs.declared.ask.Ask.{Ask}
use Rattle.ws_end.specs.station.Alarms.{alarm_count, alarms_of}
use Rattle.ws_end.specs.station.StationEndState.{opcode_answer}
use Rattle.ws_end.proofs.AlarmLaws.{counts_added}
use Rattle.ws_extended_station.specs.Bytewise.{by_bytes}
use Rattle.ws_extended_station.specs.ExtendedAlarms.{extended_alarms_in}
use Rattle.ws_extended_station.specs.ExtendedDisplays.{extended_applies, with_state}
use Rattle.ws_extended_station.specs.ExtendedRecords.{record_writes, state_after_record, told_items}
use Rattle.ws_extended_station.proofs.AlarmLaws.{alarms_behind_record}
use Rattle.ws_extended_station.proofs.extended_display.ExtendedDisplayStationDisplay.apply.Goals as goal

pub returns-in-Ok-clause-applied : goal.returns-in-Ok-clause-applied
returns-in-Ok-clause-applied c = rw (← c.self.view_is) (λ end_state units chain kept given.
    let r = record_of c.args.head units in
    let state = end_state.happened.state in
    let terminal = end_state.happened.terminal in
    let applied = c.in-Ok.ensures.applied state units chain kept given.shows in
    let after = state_after_record state r in
    let answer = map by_bytes (opcode_answer c.args.head.opcode) in
    let told = c.put_asked.ensures.told after applied.1
    ∙ ap (λ (front : List ℕ). front ++ plain_spelling raw_rules (told_items c.self.inside.terminal after c.in-Ok.heard.asked.ask))
    c.clear.ensures
    ∙ ap (λ (t : TerminalType). plain_spelling raw_rules (told_items t after c.in-Ok.heard.asked.ask)) given.terminal_is
    ∙ ap (λ (ask : Option Ask). plain_spelling raw_rules (told_items terminal after ask)) applied.0.asks in (
      with_state end_state after,
      record_writes terminal after r,
      ap (extended_applies end_state r) applied.0.unrefused,
      c.put_opcode_answer.ensures.answer ∙ ap (λ (bytes : List ℕ). bytes ++ plain_spelling raw_rules answer) told
          ∙ sym (flat_map-append (item_spelling raw_rules)
          (told_items terminal after (first_ask (asks_in units))) answer),
      refl,
      record {
        shows = applied.1;
        sounds = c.saturating_add-self-inside.ensures ∙ counts_added _ _ (alarms_of state.history)
            (extended_alarms_in units) given.sounds applied.0.sounds
            ∙ ap alarm_count (sym (alarms_behind_record state r));
        terminal_is = given.terminal_is;
      },
    ))

pub returns-in-Err-clause-applied : goal.returns-in-Err-clause-applied
returns-in-Err-clause-applied c = rw (← c.self.view_is) (λ end_state units chain kept given.
    ap (extended_applies end_state (record_of c.args.head units))
    (c.in-Err.ensures.applied end_state.happened.state units chain kept given.shows))
