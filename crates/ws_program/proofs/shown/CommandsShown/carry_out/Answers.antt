use Rattle.std.proofs.Common.{[]}
use Rattle.ws_program.specs.Views.{after_items}
use Rattle.ws_program.proofs.ViewLaws.{both_ok, gives_more}
use Rattle.ws_program.proofs.shown.CommandsShown.carry_out.Goals as goal

pub returns-in-Record-clause-after : goal.returns-in-Record-clause-after
returns-in-Record-clause-after c =
    rw c.in-Record.is (both_ok c.apply_record.result
    (λ after closed items makes. (
      gives_more items _ c.apply_record.new.screen
          (after (after_items [] items) makes.0),
      closed,
    )) c.apply_record.ensures.after c.apply_record.ensures.closed)

pub returns-in-Telnet-clause-after : goal.returns-in-Telnet-clause-after
returns-in-Telnet-clause-after c = rw c.in-Telnet.is (λ items makes. (
  gives_more items _ c.args.screen.now makes.0,
  makes.1,
))
