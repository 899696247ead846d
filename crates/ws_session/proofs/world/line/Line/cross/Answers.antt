use Rattle.ws_session.proofs.Common.{◌≡◌, ◌≤◌, ◌+◌, ◌-◌, List, [], ◌∷◌, ◌++◌, refl, ◌∙◌, ℕ, take, drop, ap, ap₂, sym}
use Rattle.ws_session.proofs.Common.{length-append, length-drop, length-take-le, append-nil, take_all, take-add, arith}
use Rattle.ws_session.proofs.Common.{length, drop-drop, flat_map-append, err_from_is_err_and, Crossing}
use borrow.Rule.Slice.PartMut.{post_of, put_mid}
use Rattle.std.proofs.lemmas.Slice.{drop-put_mid, take-put_mid}
use Rattle.ws_session.proofs.world.Crossed.{crossed_on}
use Rattle.ws_session.proofs.world.line.Line.cross.Goals as goal

pub loop-at-init : goal.loop-at-init
loop-at-init g c =
    record { within = omega arith; crossings = []; crossed = refl; sent = refl; read = refl; left = refl }

put_within : (a k : ℕ) (xs ys : List ℕ) → a ≤ length xs → a + length ys ≤ length (put_mid a k xs ys)
put_within a k xs ys h = omega (
  arith,
  length-append (take a xs) (ys ++ post_of a k xs),
  length-append ys (post_of a k xs),
  length-take-le a xs h,
)

pub loop-at-preserved : goal.loop-at-preserved
loop-at-preserved g c =
    let l = c.loop-at in
    let i = l.invariant in
    let at = l.at in
    let b = l.bytes in
    let all = c.args.bytes.now in
    let n = c.min-count.result in
    let k : ℕ = at + n - at in
    let same : k ≡ n = omega arith in
    let sent : List ℕ = take k (drop at b) in
    let read = c.cross_piece.new.piece in
    let carried = c.in_ok-cross_piece.ensures.crossed in
    let size : length sent ≡ k = length-take-le k (drop at b) (omega (
      arith,
      same,
      i.within,
      c.min-count.ensures,
      length-drop at b,
    )) in
    let long : length read ≡ k = carried.as_many ∙ size in
    let piece : Crossing = record { sent = sent; read = read } in
    record {
      within = omega (arith, put_within at k b read i.within, long, same);
      crossings = i.crossings ++ piece ∷ [];
      crossed = crossed_on _ c.args.self.now l.self c.cross_piece.new.self i.crossings (piece ∷ []) i.crossed
          (c.cross_piece.new.self, carried, omega (arith, size, same, c.min-count.ensures), refl);
      sent = flat_map-append (λ (c : Crossing). c.sent) i.crossings (piece ∷ []) ∙ ap₂ (λ x y. x ++ y) i.sent
          (append-nil sent ∙ ap (λ j. take j (drop at b)) same ∙ ap (take n) i.left) ∙ sym (take-add at n all);
      read = flat_map-append (λ (c : Crossing). c.read) i.crossings (piece ∷ [])
          ∙ ap₂ (λ x y. x ++ y) i.read (append-nil read)
          ∙ sym (take-put_mid at k b read (at + n) (omega (arith, long, same)) i.within);
      left = drop-put_mid at k b read (at + n) (omega (arith, same)) i.within long ∙ sym (drop-drop n at b)
          ∙ ap (drop n) i.left ∙ drop-drop n at all;
    }

pub returns-clause-crossed : goal.returns-clause-crossed
returns-clause-crossed g c =
    let i = c.loop-at.invariant in (
      i.crossings,
      i.crossed,
      i.sent
          ∙ take_all c.loop-at.at c.args.bytes.now (omega (arith, c.loop-at-test.false, c.loop-at.auto.bytes)),
      i.read ∙ take_all c.loop-at.at c.loop-at.bytes c.loop-at-test.false,
    )

pub returns-in_err-cross_piece-clause-fault : goal.returns-in_err-cross_piece-clause-fault
returns-in_err-cross_piece-clause-fault g c =
    let p = err_from_is_err_and c.from_residual.result c.from_residual.ensures.1 in
    rw (p.1, p.2) (record {
      crossings = c.loop-at.invariant.crossings;
      last = c.loop-at.self;
      crossed = c.loop-at.invariant.crossed;
      bytes = _;
      slice = _;
      failed = c.in_err-cross_piece.ensures.fault;
    })
