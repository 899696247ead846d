use Rattle.ws_program.specs.Answering.{answer_action}
use Rattle.ws_program.specs.Streams.{asked_at}
use Rattle.ws_program.proofs.Buffers.{carried_last}
use Rattle.ws_program.proofs.Printings.{answer_cut}
use Rattle.ws_program.proofs.program.answer_openly.Goals as goal

pub returns-clause-done : goal.returns-clause-done
returns-clause-done g c =
    let asked = asked_at c.args.streams.output c.args.asked in
    carried_last g.S.Sink.writer c.args.sink.now c.answer-outcome.new.sink c.requires.empty
    c.hand_on_last.new.sink.sink c.args.streams.output c.answer-outcome.result c.hand_on_last.result
    c.hand_on_last.ensures.done (answer_action asked c.args.text.now) (answer_cut asked c.args.text.now)
    (rw c.asked_at.ensures at c.answer-outcome.ensures)
