use Rattle.ws_record.proofs.Common.{each_fails, each_more, item_spelling, handed_on}
use Rattle.ws_record.proofs.item_writer.write_items.Goals as goal
use Rattle.ws_record.proofs.item_writer.write_items.Goals.{in-Record+in_ok-write_encoded-in-Record}
use Rattle.ws_record.proofs.item_writer.write_items.Goals.{in-Telnet+in_ok-write_telnet-in-Telnet}

pub returns-in_err-write_encoded-in-Record-clause-err : goal.returns-in_err-write_encoded-in-Record-clause-err
returns-in_err-write_encoded-in-Record-clause-err g c =
    rw (handed_on c.from_residual.result c.from_residual.ensures.1) (
      c.in_err-write_encoded-in-Record.ensures.err.0,
      each_fails _ (item_spelling g.B.Code.rules) _ _ _ c.loop-item-test.true c.item-item.is c.loop-item.invariant
          (rw c.in-Record.is c.in_err-write_encoded-in-Record.ensures.err.1),
    )

pub returns-in_err-write_telnet-in-Telnet-clause-err : goal.returns-in_err-write_telnet-in-Telnet-clause-err
returns-in_err-write_telnet-in-Telnet-clause-err g c =
    rw (handed_on c.from_residual-in_err-write_telnet-in-Telnet.result
    c.from_residual-in_err-write_telnet-in-Telnet.ensures.1) (
      c.in_err-write_telnet-in-Telnet.ensures.err.0,
      each_fails _ (item_spelling g.B.Code.rules) _ _ _ c.loop-item-test.true c.item-item.is c.loop-item.invariant
          (rw c.in-Telnet.is c.in_err-write_telnet-in-Telnet.ensures.err.1),
    )

pub loop-item-preserved : goal.loop-item-preserved
loop-item-preserved g c = elim c.match-item.branch [
  | in-Record+in_ok-write_encoded-in-Record w ↦ rw w.sink-is (each_more _ (item_spelling g.B.Code.rules) _ _ _
      c.loop-item-test.true c.item-item.is c.loop-item.invariant
      (rw w.in-Record.is w.in_ok-write_encoded-in-Record.ensures.ok))
  | in-Telnet+in_ok-write_telnet-in-Telnet w ↦ rw w.sink-is (each_more _ (item_spelling g.B.Code.rules) _ _ _
      c.loop-item-test.true c.item-item.is c.loop-item.invariant
      (rw w.in-Telnet.is w.in_ok-write_telnet-in-Telnet.ensures.ok))
]
