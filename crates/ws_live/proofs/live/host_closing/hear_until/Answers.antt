use Rattle.std.proofs.Common.{◌≡◌, [], length, refl, sym, ◌∙◌, inl, inr, arith}
use Rattle.ws_code.specs.Device.{most_reads}
use Rattle.ws_text.proofs.Prints.{prints_none}
use Rattle.ws_live.proofs.Hearings.{hears, none_come, one_came}
use Rattle.ws_live.proofs.live.host_closing.hear_until.Goals as goal

pub loop-init : goal.loop-init
loop-init g c = (none_come, c.requires.works)

pub returns-in-None-clause-heard : goal.returns-in-None-clause-heard
returns-in-None-clause-heard g c =
    let heard = rw c.in-None.is at c.hear_one-told.ensures.heard in
    hears c.loop.invariant.0 heard.0 (inr (inl heard.1)) heard.2

pub returns-then-is_awaited-clause-heard : goal.returns-then-is_awaited-clause-heard
returns-then-is_awaited-clause-heard g c =
    let heard = rw c.in-Some.is at c.hear_one-told.ensures.heard in
    let is = sym c.is_awaited.ensures ∙ c.if-is_awaited.true in
    hears c.loop.invariant.0 heard.0 (inl (c.in-Some.told, is, heard.1)) heard.2

pub loop-preserved : goal.loop-preserved
loop-preserved g c =
    let heard = rw c.in-Some.is at c.hear_one-told.ensures.heard in (
      one_came c.loop.invariant.0 c.in-Some.told heard (sym c.is_awaited.ensures ∙ c.if-is_awaited.false),
      (rw heard.1.1 at c.hear_one-told.ensures.works) refl,
    )

pub returns-clause-heard : goal.returns-clause-heard
returns-clause-heard g c =
    let so_far = c.loop.invariant.0 in
    let all : length so_far.told ≡ most_reads = omega (arith, so_far.counted, c.loop-test.false, c.loop.auto.counter-end)
    in
    rw (c.new.ensures.0, c.new.ensures.1)
    (hears so_far [] (inr (inr (all, refl, refl, refl))) (prints_none g.O.Sink.writer c.loop.out c.loop.output))
