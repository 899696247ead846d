use Rattle.std.specs.Option.{is_none}
use Rattle.std.specs.Prelude.{◌&&◌}
use Rattle.std.proofs.Common.{◌≡◌, ◌++◌, ◌∷◌, [], length, refl, ap, append_assoc, ◌∙◌, inl, inr, arith}
use Rattle.std.proofs.lemmas.List.{append-nil, flat_map_more}
use Rattle.ws_code.specs.Device.{most_reads}
use Rattle.ws_text.proofs.Prints.{prints_both, prints_none, prints_same}
use Rattle.ws_live.specs.live.ConnectText.{record_text}
use Rattle.ws_live.proofs.ConnectRuns.{one_more_refused, waits_on}
use Rattle.ws_live.proofs.live.waiting.take_until.Goals as goal

pub loop-init : goal.loop-init
loop-init g c = (
  [],
  λ more to h. h,
  refl,
  refl,
  prints_none g.O.Sink.writer c.args.out.now c.args.output,
  c.requires.works,
)

pub returns-then-is_met-clause-waited : goal.returns-then-is_met-clause-waited
returns-then-is_met-clause-waited g c =
    let so_far = c.loop.invariant in
    let before = rw append-nil at (so_far.1 [] (c.loop.attached, c.loop.ahead) refl) in
    let met = rw c.end.ensures at c.is_met.ensures.met in
    (so_far.0, inl (before, met c.if-is_met.true, refl), so_far.3, so_far.4)

pub returns-in-Err-clause-waited : goal.returns-in-Err-clause-waited
returns-in-Err-clause-waited g c =
    let so_far = c.loop.invariant in
    let before = rw append-nil at (so_far.1 [] (c.loop.attached, c.loop.ahead) refl) in
    let unmet = rw c.end.ensures at c.is_met.ensures.unmet in (
      so_far.0,
      inr (inl (_, before, unmet c.if-is_met.false, c.in-Err.ensures.unheard, refl)),
      so_far.3,
      so_far.4,
    )

pub loop-preserved : goal.loop-preserved
loop-preserved g c =
    let so_far = c.loop.invariant in
    let refused = c.in-Ok.refused in
    let unmet = rw c.end.ensures at c.is_met.ensures.unmet in (
      so_far.0 ++ refused ∷ [],
      λ more to h. rw append_assoc (so_far.1 (refused ∷ more) to
          (c.hear_record.new.attached, unmet c.if-is_met.false, c.in-Ok.ensures.heard, rw (← c.ahead_after.ensures) h)),
      waits_on so_far.0 refused c.loop.counter so_far.2,
      c.well_after-well.ensures ∙ ap (λ b. b && is_none refused) so_far.3 ∙ one_more_refused so_far.0 refused,
      prints_same (flat_map_more record_text [] so_far.0 refused)
          (prints_both so_far.4 c.put_record-output.ensures),
      c.in-Ok.ensures.goes_on,
    )

pub returns-clause-waited : goal.returns-clause-waited
returns-clause-waited g c =
    let so_far = c.loop.invariant in
    let before = rw append-nil at (so_far.1 [] (c.loop.attached, c.loop.ahead) refl) in
    let all : length so_far.0 ≡ most_reads = omega (arith, so_far.2, c.loop-test.false, c.loop.auto.counter-end) in
    (so_far.0, inr (inr (before, all, refl)), so_far.3, so_far.4)
