use Rattle.ws_session.proofs.Common.{◌≡◌, ◌+◌, ◌≤◌, List, ◌++◌, subst, ◌∙◌, ℕ, Some, take, drop, ap, sym, arith, length}
use Rattle.ws_session.proofs.Common.{length-append, ◌≢◌, ◌-◌, take-append-add, length-take-le, take-append-le, one_more}
use Rattle.ws_session.proofs.Common.{gave_more, take_some, length_rest}
use Rattle.std.proofs.Common.{arith}
use Rattle.std.proofs.lemmas.Grind.{common_steps}
use Rattle.std.proofs.lemmas.Slice.{take-put_mid_below}
use Rattle.ws_session.proofs.world.carrying.carry.Goals as goal

-- the prefix of a slice behind a read into the rest of it
prefix_more : (xs ys zs : List ℕ) (at n : ℕ) → at ≤ length xs → n ≤ length ys → take (at + n) (take at xs ++ (ys ++ zs))
    ≡ take at xs ++ take n ys
prefix_more xs ys zs at n h k =
    let prefix : length (take at xs) ≡ at = length-take-le at xs h in
    ap (λ j. take (j + n) (take at xs ++ (ys ++ zs))) (sym prefix) ∙ take-append-add (take at xs) (ys ++ zs) n
    ∙ ap (λ z. take at xs ++ z) (take-append-le n ys zs k)

-- which is within the slice
within_more : (xs ys zs : List ℕ) (at n : ℕ) → at ≤ length xs → n ≤ length ys
    → at + n ≤ length (take at xs ++ (ys ++ zs))
within_more xs ys zs at n h k =
    omega (arith, length-append (take at xs) (ys ++ zs), length-append ys zs, length-take-le at xs h)

pub loop-at-preserved : goal.loop-at-preserved
loop-at-preserved g c =
    let inv = c.loop-at.invariant in
    let at = c.loop-at.at in
    let into = c.read.new.into in
    let n = c.in-Ok.given in
    let some : n ≢ 0 = c.in-Ok.given-test.1 in
    let more = gave_more g.R.Source.reader c.args.source.now c.loop-at.source c.read.new.self
    inv.gave.0 (take at c.loop-at.taken) _ (take n into) inv.gave.2
    (omega (arith, inv.gave.1, inv.within)) c.in-Ok.ensures.ok.1 (take_some into n some c.in-Ok.ensures.ok.0)
    c.in-Ok.ensures.ok.2 in
    record {
      within = within_more _ into _ at n inv.within c.in-Ok.ensures.ok.0;
      gave = (
        inv.gave.0 + 1,
        omega (arith, inv.gave.1),
        rw (prefix_more _ into _ at n inv.within c.in-Ok.ensures.ok.0) more,
      );
    }

pub returns-in-Ok-eq0-clause-fault : goal.returns-in-Ok-eq0-clause-fault
returns-in-Ok-eq0-clause-fault g c =
    let inv = c.loop-at.invariant in
    let at = c.loop-at.at in
    let slice = c.loop-at.taken in
    let zero : c.in-Ok-eq0.field-0 ≡ 0 = omega arith in
    let room = length (take (length slice - at) (drop at slice)) in
    record {
      wrote = c.in_ok-write_whole.ensures.ok;
      given = take at slice;
      counted = sym (length-take-le at slice inv.within);
      fewer = omega arith;
      at_prefix = take-put_mid_below at (length slice - at) slice c.read.new.into at (omega arith) inv.within;
      gave = record {
        before = c.loop-at.source;
        count = inv.gave.0;
        gave = inv.gave.2;
        one_left = omega (arith, inv.gave.1);
        room = room;
        has_room = omega (arith, length_rest slice at);
        end = subst (λ (n : ℕ). g.R.Source.reader.gives c.loop-at.source room (Some (take n c.read.new.into)) c.read.new.self)
            zero c.in-Ok-eq0.ensures.ok.1;
        uncounted = c.in-Ok-eq0.ensures.ok.2 ∙ inv.gave.2.uncounted;
      };
      few = inv.gave.1;
    }

pub returns-in-Err-clause-fault : goal.returns-in-Err-clause-fault
returns-in-Err-clause-fault g c =
    let inv = c.loop-at.invariant in
    let at = c.loop-at.at in
    let slice = c.loop-at.taken in
    record {
      wrote = c.in_ok-write_whole.ensures.ok;
      given = take at slice;
      at = at;
      counted = sym (length-take-le at slice inv.within);
      fewer = omega arith;
      at_prefix = take-put_mid_below at (length slice - at) slice c.read.new.into at (omega arith) inv.within;
      failed = record {
        before = c.loop-at.source;
        count = inv.gave.0;
        gave = inv.gave.2;
        one_left = omega (arith, inv.gave.1);
        room = length (take (length slice - at) (drop at slice));
        last = c.in-Err.ensures.err.0;
        counted = c.in-Err.ensures.err.1 ∙ ap one_more inv.gave.2.uncounted;
      };
      few = inv.gave.1;
    }

pub returns-clause-carried : goal.returns-clause-carried
returns-clause-carried c = grind (arith, common_steps)
