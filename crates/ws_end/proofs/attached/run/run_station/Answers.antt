use Rattle.ws_end.proofs.Common.{◌≡◌, ◌≤◌, [], take, arith, length, length-take-le, err_from_is_err_and, take_some}
use Rattle.ws_end.proofs.Common.{new_station_end}
use Rattle.ws_end.proofs.attached.PlayRuns.{run_starts, start_fails, run_ends, run_unread, fits, reads_on, run_stops}
use Rattle.ws_end.proofs.attached.PlayRuns.{run_endless}
use Rattle.ws_end.proofs.attached.run.run_station.Goals as goal

pub returns-in_err-press_due : goal.returns-in_err-press_due
returns-in_err-press_due g c =
    let p = err_from_is_err_and c.from_residual.result c.from_residual.ensures.1 in
    rw (p.1, p.2) (λ t l. rw c.in_err-press_due.ensures.fault.0
    (start_fails _ _ t _ _ _ _ _ l (c.in_err-press_due.ensures.fault.1 [] [] (new_station_end t) l (omega arith))))

pub loop-init : goal.loop-init
loop-init g c = λ t l. run_starts _ _ t _ _ _ _ _ _
    (c.in_ok-press_due.ensures.done [] [] (new_station_end t) l (omega arith))

pub returns-in-Ok-eq0 : goal.returns-in-Ok-eq0
returns-in-Ok-eq0 g c = λ t l.
    let inv = c.loop.invariant t l in
    let zero : c.in-Ok-eq0.field-0 ≡ 0 = omega arith in
    let made = rw zero at c.in-Ok-eq0.ensures.ok.1 in
    run_ends _ _ t _ _ _ _ _ _ _ inv
    (omega arith) _ _ _ (omega arith) made c.in-Ok-eq0.ensures.ok.2 c.finish.ensures.played c.finish.ensures.truncated

pub returns-in_err-take_all-in-Ok : goal.returns-in_err-take_all-in-Ok
returns-in_err-take_all-in-Ok g c =
    let p =
    err_from_is_err_and c.from_residual-in_err-take_all-in-Ok.result c.from_residual-in_err-take_all-in-Ok.ensures.1 in
    rw (p.1, p.2) (λ t l.
    let inv = c.loop.invariant t l in
    let given = take c.in-Ok.given c.read.new.into in
    let some = take_some c.read.new.into c.in-Ok.given c.in-Ok.given-test.1 c.in-Ok.ensures.ok.0 in
    let small : length given ≤ 4096 =
    omega (arith, length-take-le c.in-Ok.given c.read.new.into c.in-Ok.ensures.ok.0, c.in-Ok.ensures.ok.0) in
    run_stops _ _ t _ _ _ _ _ _ _ inv (omega arith) _ (length c.loop.piece) given c.in-Ok.ensures.ok.1 some
    c.in-Ok.ensures.ok.2 small _ _ (c.in_err-take_all-in-Ok.ensures.fault c.args.sink.now t inv.bytes inv.items inv.come
    (fits _ _ t _ _ _ _ _ _ _ inv
    (omega arith) c.read.new.self (length c.loop.piece) given c.in-Ok.ensures.ok.1 some c.in-Ok.ensures.ok.2 small)))

pub loop-preserved : goal.loop-preserved
loop-preserved g c = λ t l.
    let inv = c.loop.invariant t l in
    let given = take c.in-Ok.given c.read.new.into in
    let some = take_some c.read.new.into c.in-Ok.given c.in-Ok.given-test.1 c.in-Ok.ensures.ok.0 in
    let small : length given ≤ 4096 =
    omega (arith, length-take-le c.in-Ok.given c.read.new.into c.in-Ok.ensures.ok.0, c.in-Ok.ensures.ok.0) in
    reads_on _ _ t _ _ _ _ _ _ _ inv
    (omega arith) _ (length c.loop.piece) given c.in-Ok.ensures.ok.1 some c.in-Ok.ensures.ok.2 small _ _
    (c.in_ok-take_all-in-Ok.ensures.come c.args.sink.now t inv.bytes inv.items inv.come (fits _ _ t _ _ _ _ _ _ _
    inv (omega arith) c.read.new.self (length c.loop.piece) given c.in-Ok.ensures.ok.1 some c.in-Ok.ensures.ok.2 small))

pub returns-in-Err : goal.returns-in-Err
returns-in-Err g c =
    λ t l. run_unread g.R.Source.reader g.S.Sink.writer t c.args.keys.now
    c.args.source.now c.loop.source c.loop.counter c.args.sink.now c.loop.sink c.loop.player (c.loop.invariant t l)
    (omega arith) c.read.new.self (length c.loop.piece) c.in-Err.ensures.err.0 c.in-Err.ensures.err.1

pub returns : goal.returns
returns g c = λ t l. run_endless g.R.Source.reader g.S.Sink.writer
    t c.args.keys.now c.args.source.now c.loop.source c.loop.counter c.args.sink.now c.loop.sink c.loop.player
    (c.loop.invariant t l) (omega arith)
