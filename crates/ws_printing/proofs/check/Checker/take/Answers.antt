use Rattle.ws_printing.proofs.Common.{◌≡◌, ◌++◌, ◌-◌, length, take, drop, sym, ◌∙◌, arith, length-take, length-drop}
use Rattle.ws_printing.proofs.Common.{length-append, append-nil, length-take-le, refused_append, is_none}
use Rattle.ws_printing.proofs.CheckLemmas.{counts_front, goes_on, fits_on}
use Rattle.ws_printing.proofs.check.Checker.take.Goals as goal

pub returns-in-Refused : goal.returns-in-Refused
returns-in-Refused g c = λ bytes counts fits.
    let rest = c.loop-rest.rest.now in
    let used = c.advance-used.result.used in
    let k = c.loop-rest.invariant bytes counts fits in
    let even = fits_on k.0 rest bytes c.args.piece.now k.2 fits in
    let r = rw c.in-Refused.is at (c.advance-used.ensures.advance k.0 k.1.items k.1.so_far k.1.leads even) in
    let long : length (take used rest) ≡ used = length-take-le used rest c.advance-used.ensures.within in
    let counted = c.advance-used.ensures.counted (omega (arith, k.1.leads.count, even, c.advance-used.ensures.within)) in
    let place : r.0 ≡ c.taken-place.result - 1 =
    omega (arith, c.taken-place.ensures, counted, r.1, k.1.leads.count, long, length-append k.0 (take used rest)) in
    rw (← place, ← goes_on k.0 rest _ used k.2)
    (refused_append g.B.Code.rules (k.0 ++ take used rest) _ r.0 c.in-Refused.reason r.2)

pub loop-rest-preserved : goal.loop-rest-preserved
loop-rest-preserved g c = λ bytes counts fits.
    let rest = c.loop-rest.rest.now in
    let used = c.advance-used.result.used in
    let k = c.loop-rest.invariant bytes counts fits in
    let even = fits_on k.0 rest bytes c.args.piece.now k.2 fits in
    let a = c.advance-used.ensures.advance k.0 k.1.items k.1.so_far k.1.leads even in
    let some = c.advance-used.ensures.used (λ e. rw e at a) in
    let long : length (take used rest) ≡ used = length-take-le used rest c.advance-used.ensures.within in (
      k.0 ++ take used rest,
      rw c.count.ensures (counts_front g.B.Code.rules c.loop-rest.self.live c.advance-used.new.self c.loop-rest.self.tally k.0
          (take used rest) _ c.advance-used.new.keep k.1 (omega (arith, long, some))
          (omega (arith, even, long, c.advance-used.ensures.within, length-append k.0 (take used rest)))
          c.advance-used.result.news a c.in_default.not-Refused),
      goes_on k.0 rest _ used k.2,
    )

pub loop-rest-smaller : goal.loop-rest-smaller
loop-rest-smaller g c =
    let rest = c.loop-rest.rest.now in
    let used = c.advance-used.result.used in
    let k = c.loop-rest.invariant c.requires.0 c.requires.1 c.requires.2 in
    let a = c.advance-used.ensures.advance k.0 k.1.items k.1.so_far k.1.leads
    (fits_on k.0 rest c.requires.0 c.args.piece.now k.2 c.requires.2) in
    let some = c.advance-used.ensures.used (λ e. rw e at a) in
    omega (arith, some, c.advance-used.ensures.within, length-take (length rest - used) (drop used rest), length-drop used rest)

pub overflow_sub-place : goal.overflow_sub-place
overflow_sub-place g c =
    let k = c.loop-rest.invariant c.requires.0 c.requires.1 c.requires.2 in
    let even = fits_on k.0 c.loop-rest.rest.now c.requires.0 c.args.piece.now k.2 c.requires.2 in
    let a = c.advance-used.ensures.advance k.0 k.1.items k.1.so_far k.1.leads even in
    omega (
      arith,
      c.taken-place.ensures,
      c.advance-used.ensures.used (λ e. rw e at a),
      c.advance-used.ensures.counted
          (omega (arith, k.1.leads.count, even, c.advance-used.ensures.within)),
    )

pub returns : goal.returns
returns g c = λ bytes counts fits.
    let k = c.loop-rest.invariant bytes counts fits in
    let none = is_none c.loop-rest.rest.now (sym c.is_empty.ensures ∙ c.loop-rest-test.false) in
    rw (← k.2, none, append-nil k.0) k.1
