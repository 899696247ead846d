use Rattle.ws_end.proofs.Common.{
  ◌≡◌,
  [],
  ◌∷◌,
  ◌++◌,
  ◌∙◌,
  suc,
  ◌<◌,
  take,
  ap,
  sym,
  arith,
  ◌-◌,
  Err,
  Failed,
  err_from_is_err_and,
}
use Rattle.ws_end.proofs.Common.{behind}
use Rattle.ws_end.proofs.Feedings.{value_at}
use Rattle.ws_end.proofs.attached.PlaySteps.{goes_behind, keys_fail, known_bytes, known_step, refused_as, reply_fails}
use Rattle.ws_end.proofs.attached.player.Player.take.Goals as goal
use Rattle.ws_end.specs.attached.StationRun.{schedule}

pub returns-in-Err-clause-fault : goal.returns-in-Err-clause-fault
returns-in-Err-clause-fault g c = λ start t bytes items h few.
    let f = c.take_prefix-used in
    let piece = c.args.piece.now in
    let m = f.result.used - 1 in
    let so_far = behind (schedule t c.args.keys.now) items in
    let prefixed = f.ensures.prefixed bytes items so_far.state h.is_behind.reached (omega (arith, few)) in
    let some : 0 < f.result.used = f.ensures.used (λ e. (known_step f.new.self (bytes ++ take f.result.used piece)
    items so_far.state f.result.step (Err Failed) e prefixed).0) in
    let last : suc m ≡ f.result.used = omega (arith, some) in
    let at = value_at piece m (omega (arith, some, f.ensures.within)) in
    let upto : take f.result.used piece ≡ take m piece ++ at.0 ∷ [] = ap (λ n. take n piece) (sym last) ∙ at.3 in
    let held = f.ensures.first bytes items so_far.state h.is_behind.reached m (omega (arith, last)) in
    rw c.fault_of.ensures (refused_as _ t _ start _ c.args.self.now f.new.self bytes items h piece (take m piece)
    at.0 at.1 at.2 held c.in-Err.refusal (known_step _ _ items _ _ _ c.in-Err.is
    (known_bytes _ bytes _ _ items _ _ upto prefixed)))

pub returns-in_err-write_whole-in-Ok-clause-fault : goal.returns-in_err-write_whole-in-Ok-clause-fault
returns-in_err-write_whole-in-Ok-clause-fault g c =
    let p = err_from_is_err_and c.from_residual.result c.from_residual.ensures.1 in
    let f = c.take_prefix-used in
    let failed = c.in_err-write_whole-in-Ok.ensures.err in
    rw (p.1, p.2) (λ start t bytes items h few.
    let prefixed = known_step _ _ items _ _ _ c.in-Ok.is (f.ensures.prefixed bytes items _ h.is_behind.reached
    (omega (arith, few))) in
    rw failed.0 (reply_fails _ t _ start _ (record c.args.self.now { station = f.new.self }) _ bytes items
    c.args.piece.now f.result.used f.ensures.within h few c.in-Ok.step prefixed
    c.write_whole.new.sink (rw c.bytes.ensures.written at failed.1)))

pub returns-in_err-press_due-in-Ok-clause-fault : goal.returns-in_err-press_due-in-Ok-clause-fault
returns-in_err-press_due-in-Ok-clause-fault g c =
    let p = err_from_is_err_and c.from_residual-in_err-press_due-in-Ok.result
    c.from_residual-in_err-press_due-in-Ok.ensures.1 in
    let f = c.take_prefix-used in
    let failed = c.in_err-press_due-in-Ok.ensures.fault in
    rw (p.1, p.2) (λ start t bytes items h few.
    let prefixed = known_step _ _ items _ _ _ c.in-Ok.is (f.ensures.prefixed bytes items _ h.is_behind.reached
    (omega (arith, few))) in
    rw failed.0 (keys_fail _ t _ start _ (record c.args.self.now { station = f.new.self }) _ bytes items
    c.args.piece.now f.result.used f.ensures.within h few c.in-Ok.step prefixed _ c.press_due.new.sink
    (rw c.bytes.ensures.written at c.in_ok-write_whole-in-Ok.ensures.ok) failed.1))

pub returns-in_ok-press_due-in-Ok-clause-come : goal.returns-in_ok-press_due-in-Ok-clause-come
returns-in_ok-press_due-in-Ok-clause-come g c =
    let f = c.take_prefix-used in
    λ start t bytes items h few.
    let prefixed = known_step _ _ items _ _ _ c.in-Ok.is (f.ensures.prefixed bytes items _ h.is_behind.reached
    (omega (arith, few))) in
    goes_behind _ t _ start _ (record c.args.self.now { station = f.new.self }) _ bytes items
    c.args.piece.now f.result.used f.ensures.within h few c.in-Ok.step prefixed _ _ _
    (rw c.bytes.ensures.written at c.in_ok-write_whole-in-Ok.ensures.ok) c.in_ok-press_due-in-Ok.ensures.done
