use Rattle.std.proofs.Common.{◌≡◌, ◌++◌, [], List, inl, inr, refl, ap, ◌∙◌}
use Rattle.std.proofs.lemmas.Result.{err_from_is_err_and}
use Rattle.ws_trace.specs.declared.piece.Piece.{Piece}
use Rattle.ws_program.specs.Traced.{dialogue_action}
use Rattle.ws_program.proofs.Buffers.{carried_last}
use Rattle.ws_program.proofs.stream_trace.trace_streams.Goals as goal

-- the pieces that were added one after another
both : (none mid all host station : List Piece) → none ≡ [] → mid ≡ none ++ host → all ≡ mid ++ station
    → all ≡ host ++ station
both none mid all host station e f g = g ∙ ap (λ z. z ++ station) (f ∙ ap (λ z. z ++ host) e)

pub returns-in_err-add_end-clause-fault : goal.returns-in_err-add_end-clause-fault
returns-in_err-add_end-clause-fault g c =
    let p = err_from_is_err_and c.from_residual.result c.from_residual.ensures.1 in
    rw (p.1, p.2) (inl (inl c.in_err-add_end.ensures.fault, refl {a = c.args.sink.now.sink}))

pub returns-in_err-add_end-2-clause-fault : goal.returns-in_err-add_end-2-clause-fault
returns-in_err-add_end-2-clause-fault g c =
    let p = err_from_is_err_and c.from_residual-in_err-add_end-2.result c.from_residual-in_err-add_end-2.ensures.1 in
    let host = c.in_ok-add_end.ensures.added in
    rw (p.1, p.2) (inl (inr (host.0, host.1, c.in_err-add_end-2.ensures.fault), refl {a = c.args.sink.now.sink}))

pub returns-in-Ok-clause-done : goal.returns-in-Ok-clause-done
returns-in-Ok-clause-done g c =
    let host = c.in_ok-add_end.ensures.added in
    let station = c.in_ok-add_end-2.ensures.added in (
      c.as_slice.result.now,
      (
        host.0,
        station.0,
        host.1,
        station.1,
        c.as_slice.ensures.value ∙ both _ _ _ host.0 station.0 c.new-pieces.ensures.items host.2 station.2,
      ),
      rw c.in-Ok.is at (carried_last g.S.Sink.writer c.args.sink.now c.put_pieces-outcome.new.sink c.requires.empty
          c.hand_on_last.new.sink.sink c.args.streams.output c.put_pieces-outcome.result c.hand_on_last.result
          c.hand_on_last.ensures.done (dialogue_action c.args.asked.form c.as_slice.result.now)
          (λ text outcome h. (refl, (outcome, h))) c.put_pieces-outcome.ensures),
    )

pub returns-clause-fault : goal.returns-clause-fault
returns-clause-fault g c =
    let host = c.in_ok-add_end.ensures.added in
    let station = c.in_ok-add_end-2.ensures.added in
    inr (
      c.as_slice.result.now,
      c.in-Err.fault,
      (
        host.0,
        station.0,
        host.1,
        station.1,
        c.as_slice.ensures.value ∙ both _ _ _ host.0 station.0 c.new-pieces.ensures.items host.2 station.2,
      ),
      c.told.ensures,
      rw c.in-Err.is at (carried_last g.S.Sink.writer c.args.sink.now c.put_pieces-outcome.new.sink c.requires.empty
          c.hand_on_last.new.sink.sink c.args.streams.output c.put_pieces-outcome.result c.hand_on_last.result
          c.hand_on_last.ensures.done (dialogue_action c.args.asked.form c.as_slice.result.now)
          (λ text outcome h. (refl, (outcome, h))) c.put_pieces-outcome.ensures),
    )
