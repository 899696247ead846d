use Rattle.std.proofs.Common.{[], ◌++◌, ◌∙◌, refl, sym}
use Rattle.ws_text.proofs.Prints.{prints_both, prints_none}
use Rattle.ws_live.specs.live.ConnectText.{pressed_text}
use Rattle.ws_live.proofs.StrokeRuns.{left_at}
use Rattle.ws_live.proofs.live.connect.press_keys.Goals as goal

pub loop-key-init : goal.loop-key-init
loop-key-init g c =
    ([], prints_none g.O.Sink.writer c.args.out.now c.args.output, λ came to h. h, c.requires.works)

pub returns-in-Err-clause-runs : goal.returns-in-Err-clause-runs
returns-in-Err-clause-runs g c =
    let so_far = c.loop-key.invariant in
    let one = c.press_key.result in
    let is = sym c.put_pressed-carried.ensures.outcome ∙ c.in-Err.is in
    rw (c.new.ensures.0, c.new.ensures.1) (
      so_far.0 ++ pressed_text c.args.line one,
      so_far.2 _ _ (rw (left_at _ _ _ c.loop-key-test.true c.key-item.is)
          (one, c.press_key.new.attached, c.press_key.ensures.comes, rw is (refl, refl))),
      prints_both so_far.1 c.put_pressed-carried.ensures.text,
    )

pub loop-key-preserved : goal.loop-key-preserved
loop-key-preserved g c =
    let so_far = c.loop-key.invariant in
    let one = c.press_key.result in
    let is = sym c.put_pressed-carried.ensures.outcome ∙ c.in-Ok.is in (
      so_far.0 ++ pressed_text c.args.line one,
      prints_both so_far.1 c.put_pressed-carried.ensures.text,
      λ came to h. so_far.2 came to (rw (left_at _ _ _ c.loop-key-test.true c.key-item.is)
          (one, c.press_key.new.attached, c.press_key.ensures.comes, rw is (rw c.closing_of_both-closing.ensures at h))),
      rw is at c.press_key.ensures.works,
    )
