use Rattle.ws_record.proofs.Common.{◌++◌, take, refl, sym, ◌∙◌, arith, ◌+◌, append-nil, length_rest, bytes_on, each_on}
use Rattle.ws_record.proofs.Common.{upto}
use Rattle.ws_record.proofs.Lives.{front_made, held_at_none, IsHeld}
use Rattle.ws_record.proofs.Receivers.{receives, fed_given, fed_taken, fed_first, fed_fault, fed_none_before}
use Rattle.ws_record.proofs.receiver.Receiver.feed.Goals as goal

pub loop-used-init : goal.loop-used-init
loop-used-init g c = (
  omega arith,
  λ bytes items t fits.
      (rw (append-nil bytes) t, λ n k. held_at_none _ t.leads.1 c.args.piece.now n (omega (arith, k))),
)

pub loop-used-preserved : goal.loop-used-preserved
loop-used-preserved g c = (
  omega (
    arith,
    c.loop-used.invariant.0,
    c.advance-advance.ensures.within,
    length_rest c.args.piece.now c.loop-used.used,
  ),
  λ bytes items t fits. (
      let inv = c.loop-used.invariant.1 bytes items t fits in
      let was = rw (← c.self-in-loop-used.view_is) at inv.0 in
      let on = rw (bytes_on bytes c.args.piece.now c.loop-used.used c.advance-advance.result.used) at
      (receives g.B.Code.rules c.advance-advance.result.news refl (sym c.goes_on.ensures ∙ c.if-not-goes_on.false)
      (front_made _ c.args.piece.now c.loop-used.used c.advance-advance.ensures bytes was.leads.1 fits)) in (
        on,
        upto (λ n. IsHeld g.B.Code.rules items (bytes ++ take n c.args.piece.now))
            (c.loop-used.used + c.advance-advance.result.used) (each_on (IsHeld g.B.Code.rules items) bytes
            c.args.piece.now c.loop-used.used c.advance-advance.result.used inv.1
            (c.advance-advance.ensures.first _ _ _ was.leads.1)) (on.leads.0, _, on.leads.1.holds),
      )),
)

pub returns-clause-first : goal.returns-clause-first
returns-clause-first g c = λ bytes items t fits n lt.
    (c.loop-used.invariant.1 bytes items t fits).1 n (omega (arith, lt))

pub returns-then-not-goes_on-clause-taken : goal.returns-then-not-goes_on-clause-taken
returns-then-not-goes_on-clause-taken g c =
    fed_taken g.B.Code.rules c.args.piece.now c.loop-used.used c.advance-advance.result.used _ _ c.fed_of.result
    (λ bytes items t fits.
    let inv = c.loop-used.invariant.1 bytes items t fits in
    let was = rw (← c.self-in-loop-used.view_is) at inv.0 in
    let made = front_made g.B.Code.rules c.args.piece.now c.loop-used.used c.advance-advance.ensures bytes was.leads.1
    fits in
    record {
      given = fed_given g.B.Code.rules c.fed_of.new.self c.advance-advance.result.news _ c.fed_of.result refl
          (sym c.goes_on.ensures ∙ c.if-not-goes_on.true) made c.fed_of.ensures.fed;
      held = each_on (IsHeld g.B.Code.rules items) bytes c.args.piece.now c.loop-used.used
          c.advance-advance.result.used inv.1 (c.advance-advance.ensures.first _ _ _ was.leads.1);
      within = c.advance-advance.ensures.within;
      some = c.advance-advance.ensures.used (λ e. rw e at made.advance);
    })

pub returns-then-not-goes_on-clause-first : goal.returns-then-not-goes_on-clause-first
returns-then-not-goes_on-clause-first g c =
    fed_first g.B.Code.rules c.args.piece.now c.loop-used.used c.advance-advance.result.used _ _ c.fed_of.result
    (λ bytes items t fits.
    let inv = c.loop-used.invariant.1 bytes items t fits in
    let was = rw (← c.self-in-loop-used.view_is) at inv.0 in
    let made = front_made g.B.Code.rules c.args.piece.now c.loop-used.used c.advance-advance.ensures bytes was.leads.1
    fits in
    record {
      given = fed_given g.B.Code.rules c.fed_of.new.self c.advance-advance.result.news _ c.fed_of.result refl
          (sym c.goes_on.ensures ∙ c.if-not-goes_on.true) made c.fed_of.ensures.fed;
      held = each_on (IsHeld g.B.Code.rules items) bytes c.args.piece.now c.loop-used.used
          c.advance-advance.result.used inv.1 (c.advance-advance.ensures.first _ _ _ was.leads.1);
      within = c.advance-advance.ensures.within;
      some = c.advance-advance.ensures.used (λ e. rw e at made.advance);
    })

pub returns-then-not-goes_on-clause-fault : goal.returns-then-not-goes_on-clause-fault
returns-then-not-goes_on-clause-fault g c =
    fed_fault g.B.Code.rules c.args.piece.now c.loop-used.used c.advance-advance.result.used _ _ c.fed_of.result
    (λ bytes items t fits.
    let inv = c.loop-used.invariant.1 bytes items t fits in
    let was = rw (← c.self-in-loop-used.view_is) at inv.0 in
    let made = front_made g.B.Code.rules c.args.piece.now c.loop-used.used c.advance-advance.ensures bytes was.leads.1
    fits in
    record {
      given = fed_given g.B.Code.rules c.fed_of.new.self c.advance-advance.result.news _ c.fed_of.result refl
          (sym c.goes_on.ensures ∙ c.if-not-goes_on.true) made c.fed_of.ensures.fed;
      held = each_on (IsHeld g.B.Code.rules items) bytes c.args.piece.now c.loop-used.used
          c.advance-advance.result.used inv.1 (c.advance-advance.ensures.first _ _ _ was.leads.1);
      within = c.advance-advance.ensures.within;
      some = c.advance-advance.ensures.used (λ e. rw e at made.advance);
    })

pub returns-then-not-goes_on-clause-none_before : goal.returns-then-not-goes_on-clause-none_before
returns-then-not-goes_on-clause-none_before g c =
    fed_none_before g.B.Code.rules c.args.piece.now c.loop-used.used c.advance-advance.result.used _ _
    c.loop-used.invariant.0 c.fed_of.result
    (λ bytes items t fits.
    let inv = c.loop-used.invariant.1 bytes items t fits in
    let was = rw (← c.self-in-loop-used.view_is) at inv.0 in
    let made = front_made g.B.Code.rules c.args.piece.now c.loop-used.used c.advance-advance.ensures bytes was.leads.1
    fits in
    record {
      given = fed_given g.B.Code.rules c.fed_of.new.self c.advance-advance.result.news _ c.fed_of.result refl
          (sym c.goes_on.ensures ∙ c.if-not-goes_on.true) made c.fed_of.ensures.fed;
      held = each_on (IsHeld g.B.Code.rules items) bytes c.args.piece.now c.loop-used.used
          c.advance-advance.result.used inv.1 (c.advance-advance.ensures.first _ _ _ was.leads.1);
      within = c.advance-advance.ensures.within;
      some = c.advance-advance.ensures.used (λ e. rw e at made.advance);
    })
