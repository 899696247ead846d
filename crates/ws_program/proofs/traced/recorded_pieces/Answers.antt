use Rattle.ws_program.proofs.Pieces.{first_other, pieces_more}
use Rattle.ws_program.proofs.traced.recorded_pieces.Goals as goal

pub returns-in-None-clause-fault : goal.returns-in-None-clause-fault
returns-in-None-clause-fault c = first_other c.args.text.now c.loop-rest.rest.now c.first_line.result.1.now
    c.first_line.result.0.now c.loop-rest.number c.loop-rest.pieces.items c.loop-rest.invariant c.first_line.ensures.line
    c.first_line.ensures.shorter (rw c.in-None.is at c.in_ok-piece.ensures.piece)

pub loop-rest-preserved : goal.loop-rest-preserved
loop-rest-preserved c = pieces_more c.args.text.now c.loop-rest.rest.now c.first_line.result.1.now
    c.first_line.result.0.now c.loop-rest.number c.loop-rest.pieces.items c.loop-rest.invariant c.first_line.ensures.line
    c.first_line.ensures.shorter c.in-Some.piece c.add.new.pieces.items (rw c.in-Some.is at c.in_ok-piece.ensures.piece)
    c.in_ok-add-in-Some.ensures.added
