use Rattle.std.proofs.Common.{◌∷◌, [], refl, sym}
use Rattle.std.proofs.lemmas.List.{append-nil}
use Rattle.ws_program.proofs.stream_trace.add_end.Goals as goal

pub returns-in_default-clause-added : goal.returns-in_default-clause-added
returns-in_default-clause-added g c = ([], rw c.in_default.is refl, sym (append-nil c.args.pieces.now.items))

pub returns-in-Ok-clause-added : goal.returns-in-Ok-clause-added
returns-in-Ok-clause-added g c =
    let h = c.in-Ok.ensures.added in (h.0 ∷ [], rw c.in-Some.is (h.0, h.1, refl), h.2)

pub returns-in-Err-clause-fault : goal.returns-in-Err-clause-fault
returns-in-Err-clause-fault g c = rw c.in-Some.is (c.in-Err.fault, c.in-Err.ensures.fault, c.of_file.ensures)
