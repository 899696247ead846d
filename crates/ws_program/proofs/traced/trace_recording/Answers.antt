use Rattle.ws_program.proofs.Pieces.{recording_put}
use Rattle.ws_program.proofs.traced.trace_recording.Goals as goal

pub returns : goal.returns
returns g c = recording_put g.S.Sink.writer c.args.sink.now c.put_pieces.new.sink c.args.form c.args.text.now
    c.in_ok-pieces.pieces.items c.as_slice.result.now c.in_ok-pieces.ensures.ok c.as_slice.ensures.value
    c.put_pieces.result c.put_pieces.ensures
