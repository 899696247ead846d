use Rattle.ws_end.proofs.Common.{refl, ◌∙◌, ap, sym, record_of, after_record, opcode_answer, station_applies}
use Rattle.ws_end.specs.station.Alarms.{alarm_count, alarms_in, alarms_of}
use Rattle.ws_end.proofs.AlarmLaws.{alarms_behind_record, counts_added}
use Rattle.ws_end.proofs.station.profile_display.ProfileDisplayStationDisplay.apply.Goals as goal

pub returns-in-Ok-clause-applied : goal.returns-in-Ok-clause-applied
returns-in-Ok-clause-applied c = rw (← c.self.view_is) (λ state units chain kept given.
    let r = record_of c.args.head units in (
      record { options = state.options; happened = after_record state.happened r },
      opcode_answer c.args.head.opcode,
      ap (station_applies state r) (sym (c.in-Ok.ensures.fault state.happened units chain kept given.shows)),
      c.opcode_reply.ensures,
      refl,
      record {
        shows = c.in-Ok.ensures.after state.happened units chain kept given.shows;
        sounds = c.saturating_add-self-inside.ensures
            ∙ counts_added _ _ (alarms_of state.happened) (alarms_in units) given.sounds
            (c.in-Ok.ensures.alarms units chain kept)
            ∙ ap alarm_count (sym (alarms_behind_record state.happened r));
      },
    ))

pub returns-in-Err-clause-applied : goal.returns-in-Err-clause-applied
returns-in-Err-clause-applied c = rw (← c.self.view_is) (λ state units chain kept given.
    ap (station_applies state (record_of c.args.head units))
    (sym (c.in-Err.ensures.fault state.happened units chain kept given.shows)))
