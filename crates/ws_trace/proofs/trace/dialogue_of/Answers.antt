use Rattle.std.proofs.lemmas.Result.{err_from_is_err_and}
use Rattle.ws_trace.specs.Dialogues.{both_begin}
use Rattle.ws_trace.specs.TraceText.{bytes_of_end}
use Rattle.ws_trace.proofs.Common.{◌++◌, ◌∷◌, [], take, refl, sym, ap, ◌∙◌, take_all, take_more, Piece, ◌≡◌, arith}
use Rattle.ws_trace.proofs.Common.{Host, Station, length}
use Rattle.ws_trace.proofs.BothTraced.{all_sent, too_long, traced_more}
use Rattle.ws_trace.proofs.Tracings.{fault_weaker}
use Rattle.ws_trace.proofs.trace.dialogue_of.Goals.{in-Host+in_ok-take_all-in-Host}
use Rattle.ws_trace.proofs.trace.dialogue_of.Goals.{in-Station+in_ok-take_all-in-Station}
use Rattle.ws_trace.proofs.trace.dialogue_of.Goals as goal

pub loop-piece-preserved : goal.loop-piece-preserved
loop-piece-preserved c =
    let xs = c.args.pieces.now in
    let i = c.loop-piece.piece-index in
    let x = c.piece-item.result in
    let t = c.loop-piece.invariant in
    rw (take_more xs i x c.loop-piece-test.true ∙ ap (λ (y : Piece). take i xs ++ y ∷ []) (sym c.piece-item.is))
    (elim c.match-piece.branch [
      | in-Host+in_ok-take_all-in-Host w ↦ (
          let a = rw c.as_slice-bytes.ensures.value at w.in_ok-take_all-in-Host.ensures.heard t.at.host t.host_is in
          rw (w.host-is, w.station-is, w.entries-is) (traced_more t x a.added
          (record { host = a.next; station = t.at.station }) (rw w.in-Host.is (a.heard, refl)) a.entries a.there
          t.station_is))
      | in-Station+in_ok-take_all-in-Station w ↦ (
          let a = rw c.as_slice-bytes.ensures.value at w.in_ok-take_all-in-Station.ensures.heard t.at.station
          t.station_is in
          rw (w.host-is, w.station-is, w.entries-is) (traced_more t x a.added
          (record { host = t.at.host; station = a.next }) (rw w.in-Station.is (a.heard, refl)) a.entries t.host_is
          a.there))
    ])

pub returns-in_err-take_all-in-Host-clause-fault : goal.returns-in_err-take_all-in-Host-clause-fault
returns-in_err-take_all-in-Host-clause-fault c =
    let r = c.from_residual in
    let p = err_from_is_err_and r.result r.ensures.1 in
    let i = c.loop-piece.piece-index in
    let x = c.piece-item.result in
    let t = c.loop-piece.invariant in
    let sent = (all_sent both_begin t.at (take i c.args.pieces.now) c.loop-piece.entries.items t.heard).0 in
    let bytes : length (bytes_of_end Host x) ≡ length x.bytes.items = rw c.in-Host.is refl in
    rw (p.1, p.2) (fault_weaker (λ full. (
    let over = rw c.as_slice-bytes.ensures.value at full t.at.host t.host_is (omega (arith, sent.0, sent.1)) in
    too_long Host c.args.pieces.now i x c.loop-piece-test.true c.piece-item.is (omega (arith, over, bytes, sent.0))))
    c.in_err-take_all-in-Host.ensures.fault)

pub returns-in_err-take_all-in-Station-clause-fault : goal.returns-in_err-take_all-in-Station-clause-fault
returns-in_err-take_all-in-Station-clause-fault c =
    let r = c.from_residual-in_err-take_all-in-Station in
    let p = err_from_is_err_and r.result r.ensures.1 in
    let i = c.loop-piece.piece-index in
    let x = c.piece-item.result in
    let t = c.loop-piece.invariant in
    let sent = (all_sent both_begin t.at (take i c.args.pieces.now) c.loop-piece.entries.items t.heard).1 in
    let bytes : length (bytes_of_end Station x) ≡ length x.bytes.items = rw c.in-Station.is refl in
    rw (p.1, p.2) (fault_weaker (λ full. (
    let over = rw c.as_slice-bytes.ensures.value at full t.at.station t.station_is (omega (arith, sent.0, sent.1)) in
    too_long Station c.args.pieces.now i x c.loop-piece-test.true c.piece-item.is (omega (arith, over, bytes, sent.0))))
    c.in_err-take_all-in-Station.ensures.fault)

pub returns-clause-dialogue : goal.returns-clause-dialogue
returns-clause-dialogue c = let t = c.loop-piece.invariant in record {
  at = t.at;
  heard = rw (take_all c.loop-piece.piece-index c.args.pieces.now c.loop-piece-test.false) at t.heard;
  host = c.finish-host.ensures t.at.host t.host_is;
  station = c.finish-station.ensures t.at.station t.station_is;
}
