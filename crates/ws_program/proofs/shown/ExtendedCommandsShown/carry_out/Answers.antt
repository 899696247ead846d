use Rattle.ws_program.specs.Views.{new_state, state_after_items}
use Rattle.ws_program.proofs.ViewLaws.{both_ok, shows_more}
use Rattle.ws_program.proofs.shown.ExtendedCommandsShown.carry_out.Goals as goal

pub returns-in-Record-clause-after : goal.returns-in-Record-clause-after
returns-in-Record-clause-after c =
    rw c.in-Record.is (both_ok c.apply_extended_record.result
    (λ after closed items makes. (
      shows_more items _ c.apply_extended_record.new.display
          (after (state_after_items new_state items) makes.0),
      closed,
    )) c.apply_extended_record.ensures.after c.apply_extended_record.ensures.closed)

pub returns-in-Telnet-clause-after : goal.returns-in-Telnet-clause-after
returns-in-Telnet-clause-after c = rw c.in-Telnet.is (λ items makes. (
  shows_more items _ c.args.display.now makes.0,
  makes.1,
))
