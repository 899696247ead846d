use Rattle.std.proofs.Common.{◌++◌, ◌-◌, ◌+◌, take, refl, sym, arith}
use Rattle.std.proofs.lemmas.Result.{err_from_is_err_and}
use Rattle.ws_code.proofs.DeviceLaws.{length_rest}
use Rattle.ws_code.specs.declared.fault.Fault.TheVariants as faults
use Rattle.ws_code.proofs.Pieces.{bytes_on, left_of, room_next}
use Rattle.ws_text.proofs.Prints.{whole_out}
use Rattle.ws_printing.specs.declared.verdict.Verdict.TheVariants.{Refused}
use Rattle.ws_program.proofs.Shows.{complete_in_piece, fault_stops, fed_item, goes_on, goes_on_after}
use Rattle.ws_program.proofs.Shows.{feed_stops, item_fails, item_out}
use Rattle.ws_program.proofs.Shows.{item_stops, items_out, line_stops, lines_out, piece_through, whole_next}
use Rattle.ws_program.proofs.show.show_piece.Goals as goal

pub returns-in_err-verdict_by_fault-in-Err : goal.returns-in_err-verdict_by_fault-in-Err
returns-in_err-verdict_by_fault-in-Err g c =
    let p = err_from_is_err_and c.from_residual.result c.from_residual.ensures.1 in
    rw (p.1, p.2) (λ from look bytes h fits.
    let s = c.loop-used.invariant.shown from look bytes h fits in
    let at = c.loop-used.used in
    let rest = left_of c.args.piece.now at in
    let room = room_next bytes c.args.piece.now at fits c.loop-used.invariant.within in
    fault_stops s rest _ (piece_through bytes c.args.piece.now at)
    c.in-Err.fault _ (c.in-Err.ensures.fault _ _ s.received room) (c.in-Err.ensures.none_before _ _ s.received room)
    c.in_err-verdict_by_fault-in-Err.ensures)

pub returns-in-Err : goal.returns-in-Err
returns-in-Err g c = λ from look bytes h fits.
    let s = c.loop-used.invariant.shown from look bytes h fits in
    let at = c.loop-used.used in
    let rest = left_of c.args.piece.now at in
    let room = room_next bytes c.args.piece.now at fits c.loop-used.invariant.within in
    let stop = feed_stops s rest c.in-Err.fault
    (c.in-Err.ensures.fault _ _ s.received room) (c.in-Err.ensures.none_before _ _ s.received room) in
    let line = rw (← c.in_ok-verdict_by_fault-in-Err.ensures) at stop in
    rw (← piece_through bytes c.args.piece.now at) (line_stops g.S.Sink.writer from c.loop-used.sink
    c.write_to.new.sink _ _ _ _ _
    c.in_ok-verdict_by_fault-in-Err.field-0 line.0 (lines_out s) s.went_out line.1
    c.write_to.result c.write_to.ensures.printed c.write_to.ensures.fault)

pub returns-in-Failed : goal.returns-in-Failed
returns-in-Failed g c = λ from look bytes h fits.
    let s = c.loop-used.invariant.shown from look bytes h fits in
    let at = c.loop-used.used in
    let rest = left_of c.args.piece.now at in
    let room = room_next bytes c.args.piece.now at fits c.loop-used.invariant.within in
    let f = fed_item s rest c.feed.new.self c.in-Ok.fed c.in-Some.item
    c.saturating_sub-place.result c.in-Some.is (omega arith) c.in-Ok.ensures.used c.in-Ok.ensures.some
    (c.in-Ok.ensures.taken _ _ s.received room) (c.in-Ok.ensures.first _ _ s.received room) in
    item_fails s rest (c.saturating_sub-place.result, c.in-Some.item)
    (complete_in_piece g.B.Code.rules _ rest c.in-Ok.fed.used _ _ f.0) _ (piece_through bytes c.args.piece.now at)
    c.put_lines.new.sink faults.Write
    (refl, rw (c.in-Some.item-is, c.in-Failed.is) at (whole_out c.put_lines.ensures))

pub carry_out-requires-clause-whole : goal.carry_out-requires-clause-whole
carry_out-requires-clause-whole g c =
    let r = c.requires in
    let s = c.loop-used.invariant.shown r.0 r.1 r.2 r.3 r.4 in
    let rest = left_of c.args.piece.now c.loop-used.used in
    let room = room_next r.2 c.args.piece.now c.loop-used.used r.4 c.loop-used.invariant.within in
    let f = fed_item s rest c.feed.new.self c.in-Ok.fed c.in-Some.item
    c.saturating_sub-place.result c.in-Some.is (omega arith) c.in-Ok.ensures.used c.in-Ok.ensures.some
    (c.in-Ok.ensures.taken _ _ s.received room) (c.in-Ok.ensures.first _ _ s.received room) in
    rw c.in-Some.item-is (whole_next f.0)

pub carry_out-requires-clause-known : goal.carry_out-requires-clause-known
carry_out-requires-clause-known g c =
    let r = c.requires in
    let s = c.loop-used.invariant.shown r.0 r.1 r.2 r.3 r.4 in
    (items_out s, s.makes_it)

pub returns-in-Err-carry_out : goal.returns-in-Err-carry_out
returns-in-Err-carry_out g c = λ from look bytes h fits.
    let s = c.loop-used.invariant.shown from look bytes h fits in
    let at = c.loop-used.used in
    let rest = left_of c.args.piece.now at in
    let room = room_next bytes c.args.piece.now at fits c.loop-used.invariant.within in
    let f = fed_item s rest c.feed.new.self c.in-Ok.fed c.in-Some.item
    c.saturating_sub-place.result c.in-Some.is (omega arith) c.in-Ok.ensures.used c.in-Ok.ensures.some
    (c.in-Ok.ensures.taken _ _ s.received room) (c.in-Ok.ensures.first _ _ s.received room) in
    let complete = complete_in_piece g.B.Code.rules _ rest c.in-Ok.fed.used _ _ f.0 in
    rw (← piece_through bytes c.args.piece.now at) (line_stops g.S.Sink.writer from c.put_lines.new.sink
    c.write_to-in-Err-carry_out.new.sink _ _ _ _ _ (Refused c.saturating_sub-place.result c.in-Err-carry_out.reason)
    refl _ (item_out s rest (c.saturating_sub-place.result, c.in-Some.item)
    complete c.put_lines.new.sink (rw (c.in-Some.item-is, c.in-Open.is) at (whole_out c.put_lines.ensures)))
    (item_stops s rest (c.saturating_sub-place.result, c.in-Some.item) complete
    c.in-Err-carry_out.reason (sym (rw c.in-Some.item-is at (c.in-Err-carry_out.ensures.fault _ s.makes_it))))
    c.write_to-in-Err-carry_out.result c.write_to-in-Err-carry_out.ensures.printed
    c.write_to-in-Err-carry_out.ensures.fault)

pub loop-used-preserved-in_default-carry_out : goal.loop-used-preserved-in_default-carry_out
loop-used-preserved-in_default-carry_out g c = record {
  within = omega (
    arith,
    c.in-Ok.ensures.used,
    length_rest c.args.piece.now c.loop-used.used,
    c.loop-used.invariant.within,
  );
  shown = λ from look bytes h fits.
      let s = c.loop-used.invariant.shown from look bytes h fits in
      let at = c.loop-used.used in
      let rest = left_of c.args.piece.now at in
      let room = room_next bytes c.args.piece.now at fits c.loop-used.invariant.within in
      let f = fed_item s rest c.feed.new.self c.in-Ok.fed c.in-Some.item
      c.saturating_sub-place.result c.in-Some.is (omega arith) c.in-Ok.ensures.used c.in-Ok.ensures.some
      (c.in-Ok.ensures.taken _ _ s.received room) (c.in-Ok.ensures.first _ _ s.received room) in
      let done = c.in_default-carry_out.ensures in
      rw (← bytes_on bytes c.args.piece.now at c.in-Ok.fed.used) (goes_on_after s
      (take c.in-Ok.fed.used rest) (c.saturating_sub-place.result, c.in-Some.item) f.0 c.put_lines.new.sink
      (rw (c.in-Some.item-is, c.in-Open.is) at (whole_out c.put_lines.ensures)) c.feed.new.self c.carry_out.new.made f.1
      (sym (rw c.in-Some.item-is at (done.fault _ s.makes_it))) (rw c.in-Some.item-is at (done.after _ s.makes_it)));
}

pub loop-used-preserved-in_default-carry_out-2 : goal.loop-used-preserved-in_default-carry_out-2
loop-used-preserved-in_default-carry_out-2 g c = record {
  within = omega (
    arith,
    c.in-Ok.ensures.used,
    length_rest c.args.piece.now c.loop-used.used,
    c.loop-used.invariant.within,
  );
  shown = λ from look bytes h fits.
      let s = c.loop-used.invariant.shown from look bytes h fits in
      let at = c.loop-used.used in
      let rest = left_of c.args.piece.now at in
      let room = room_next bytes c.args.piece.now at fits c.loop-used.invariant.within in
      let f = fed_item s rest c.feed.new.self c.in-Ok.fed c.in-Some.item
      c.saturating_sub-place.result c.in-Some.is (omega arith) c.in-Ok.ensures.used c.in-Ok.ensures.some
      (c.in-Ok.ensures.taken _ _ s.received room) (c.in-Ok.ensures.first _ _ s.received room) in
      let done = c.in_default-carry_out.ensures in
      rw (← bytes_on bytes c.args.piece.now at c.in-Ok.fed.used) (goes_on_after s
      (take c.in-Ok.fed.used rest) (c.saturating_sub-place.result, c.in-Some.item) f.0 c.put_lines.new.sink
      (rw (c.in-Some.item-is, c.in-Open.is) at (whole_out c.put_lines.ensures)) c.feed.new.self c.carry_out.new.made f.1
      (sym (rw c.in-Some.item-is at (done.fault _ s.makes_it))) (rw c.in-Some.item-is at (done.after _ s.makes_it)));
}

pub loop-used-preserved : goal.loop-used-preserved
loop-used-preserved g c = record {
  within = omega (
    arith,
    c.in-Ok.ensures.used,
    length_rest c.args.piece.now c.loop-used.used,
    c.loop-used.invariant.within,
  );
  shown = λ from look bytes h fits.
      let s = c.loop-used.invariant.shown from look bytes h fits in
      let at = c.loop-used.used in
      let rest = left_of c.args.piece.now at in
      let room = room_next bytes c.args.piece.now at fits c.loop-used.invariant.within in
      rw (← bytes_on bytes c.args.piece.now at c.in-Ok.fed.used) (goes_on s
      (take c.in-Ok.fed.used rest) c.feed.new.self
      (rw c.in_default.is at (c.in-Ok.ensures.taken _ _ s.received room)));
}
