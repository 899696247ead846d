use Rattle.ws_record.proofs.Common.{◌≡◌, ℕ, List, [], ◌++◌, take, drop, refl, ap, append_assoc, ◌<◌, length, inl, arith}
use Rattle.ws_record.proofs.Common.{◌+◌, length-take, common_steps, append-nil, take_more}
use Rattle.ws_record.proofs.OpenRecords.{header_step}
use Rattle.ws_record.proofs.open_record.OpenRecord.take_header.Goals as goal

few_dropped : (xs ys : List ℕ) → length (xs ++ ys) < 10 → drop 10 (xs ++ ys) ≡ drop 10 xs ++ []
few_dropped xs ys few = grind (arith, common_steps)

pub loop-index-preserved : goal.loop-index-preserved
loop-index-preserved g c =
    let m = c.in-More.ensures.more refl in (
      m.0,
      (λ _. m.1),
      λ so_far r. rw (
        take_more c.args.values.now c.loop-index.index 0 c.loop-index-test.true,
        ← append_assoc so_far.bytes,
      ) (c.in-More.ensures.step _ (c.loop-index.invariant.2 so_far r)),
    )

pub returns-in_default : goal.returns-in_default
returns-in_default g c = record {
  within = omega (arith, c.loop-index-test.true);
  used = omega arith;
  taken = λ so_far r. header_step g.B.Code.rules g.K.Keep.keeper so_far c.args._keep.now
      (take (c.loop-index.index + 1) c.args.values.now) c.loop-index.self c.take_header_byte.new.self
      (take c.loop-index.index c.args.values.now) _ c.take_header_byte.result (c.loop-index.invariant.2 so_far r)
      (take_more c.args.values.now c.loop-index.index 0 c.loop-index-test.true)
      (c.take_header_byte.ensures.step _ (c.loop-index.invariant.2 so_far r)) c.in_default.not-More;
}

pub returns-clause-taken : goal.returns-clause-taken
returns-clause-taken g c = λ so_far r.
    let all : c.loop-index.index ≡ length c.args.values.now = omega arith in
    let reads = rw all at (c.loop-index.invariant.2 so_far r) in
    let v : List ℕ = take (length c.args.values.now) c.args.values.now in
    let few : length (so_far.bytes ++ v) < 10 = omega (
      arith,
      ap length reads.header,
      length-take 10 (so_far.bytes ++ v),
      c.loop-index.invariant.1 (omega (arith, all, c.requires.some)),
    ) in (
      [],
      [],
      rw (append-nil so_far.units) reads,
      few_dropped so_far.bytes v few,
      λ units told h. rw (append-nil told, append-nil units) h,
      inl refl,
    )
