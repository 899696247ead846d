use Rattle.ws_printing.proofs.Scripts.{reads_more}
use Rattle.ws_printing.proofs.script.read_script.Goals as goal

pub loop-rest-preserved : goal.loop-rest-preserved
loop-rest-preserved c =
    let given = c.in-Ok.ensures in
    reads_more c.args.text.now c.loop-rest.rest.now c.first_line.result.1.now c.first_line.result.0.now
    c.loop-rest.moves.items given.0 c.read_line.new.moves.items c.loop-rest.number c.loop-rest.invariant
    c.first_line.ensures.line c.first_line.ensures.shorter given.1 given.2
