use Rattle.std.proofs.Common.{refl}
use Rattle.ws_trace.specs.declared.piece.Piece.{Piece}
use Rattle.ws_program.proofs.stream_trace.add_file.Goals as goal

pub returns-clause-added : goal.returns-clause-added
returns-clause-added g c =
    let piece : Piece = record { milliseconds = 0; sender = c.args.end; bytes = c.in_ok-bytes.bytes } in (
      piece,
      record {
        at_first = refl;
        is_sender = refl;
        input = c.in_ok-input.input.items;
        told = c.in_ok-bytes.ensures.ok;
      },
      c.in_ok-add.ensures.added,
    )
