use Rattle.ws_end.proofs.Common.{◌+◌, [], ◌++◌, ◌∙◌, ap, arith, Err}
use Rattle.ws_code.specs.Device.{on_devices}
use Rattle.ws_end.specs.attached.Attachments.{TakesFirst, HearsFirst}
use Rattle.ws_end.proofs.attached.Attached.listen.Goals as goal
use Rattle.ws_end.proofs.attached.Attachings.{gave_on, reads_on, reads_heard, reads_fail, at_once, heard_at_once}
use Rattle.ws_end.proofs.attached.Attachings.{fails_at_once, hearing_endless}
use Rattle.ws_end.proofs.attached.FirstEvents.{if_events_on, hears_at_once, hears_behind}

pub returns-in-Ok-Some-clause-heard : goal.returns-in-Ok-Some-clause-heard
returns-in-Ok-Some-clause-heard g c =
    heard_at_once _ _ g.met.E.End.follows _ _ _ (rw c.in-Ok-Some.field-0-is at c.in-Ok-Some.ensures.taken)

pub returns-in-Err-clause-fault : goal.returns-in-Err-clause-fault
returns-in-Err-clause-fault g c = fails_at_once _ _ g.met.E.End.follows _ _ _ c.in-Err.ensures.fault

pub loop-init : goal.loop-init
loop-init g c =
    let p = at_once _ _ g.met.E.End.follows _ _ (rw c.in-Ok-None.field-0-is at c.in-Ok-None.ensures.taken) in
    (p.0, [], p.1, p.2, p.3, c.in-Ok-None.ensures.works ∙ c.requires.works, p.4)

pub loop-preserved : goal.loop-preserved
loop-preserved g c =
    let i = c.loop.invariant in
    let f = c.in-Ok-true.ensures.some in
    let p = reads_on _ _ g.met.E.End.follows c.args.self.now c.loop.self _ c.take_waiting-in-loop.new.self
    c.self.view_is i.0 i.1 _ i.2 i.3 i.6 (omega (arith, c.loop-test.true)) _ _ f.0 f.1 (f.2 c.in-Ok-true.field-0-test)
    (rw c.in-Ok-None-take_waiting.field-0-is at c.in-Ok-None-take_waiting.ensures.taken) in (
      p.0,
      i.1 ++ c.fill.new.self,
      p.1,
      p.2,
      p.3,
      c.in-Ok-None-take_waiting.ensures.works ∙ ap (λ z. z.broken) c.self.view_is ∙ i.5,
      p.4,
    )

pub returns-in-Ok-Some-take_waiting-clause-heard : goal.returns-in-Ok-Some-take_waiting-clause-heard
returns-in-Ok-Some-take_waiting-clause-heard g c =
    let i = c.loop.invariant in
    let f = c.in-Ok-true.ensures.some in
    reads_heard _ _ g.met.E.End.follows c.args.self.now c.loop.self _ c.take_waiting-in-loop.new.self
    c.self.view_is i.0 i.1 _ i.2 i.3 i.6 (omega (arith, c.loop-test.true)) _ _ f.0 f.1 (f.2 c.in-Ok-true.field-0-test) _
    (rw c.in-Ok-Some-take_waiting.field-0-is at c.in-Ok-Some-take_waiting.ensures.taken)

pub returns-in-Err-take_waiting-clause-fault : goal.returns-in-Err-take_waiting-clause-fault
returns-in-Err-take_waiting-clause-fault g c =
    let i = c.loop.invariant in
    let f = c.in-Ok-true.ensures.some in
    reads_fail g.E.End.behaviour (on_devices g.K.Sink.writer g.S.Source.reader)
    g.met.E.End.follows c.args.self.now c.loop.self _ c.take_waiting-in-loop.new.self c.self.view_is i.0 i.1
    c.loop.counter i.2 i.3 i.6 (omega (arith, c.loop-test.true)) c.fill.new.self c.fill.new.source f.0 f.1
    (f.2 c.in-Ok-true.field-0-test) c.in-Err-take_waiting.fault c.in-Err-take_waiting.ensures.fault

pub returns-clause-fault : goal.returns-clause-fault
returns-clause-fault g c =
    let i = c.loop.invariant in
    hearing_endless _ _ g.met.E.End.follows _ _ i.0 i.1 _
    (omega (arith, c.loop-test.false, c.loop.auto.counter-end)) i.2 i.3 i.4 i.6

pub returns-in-Ok-false-clause-works : goal.returns-in-Ok-false-clause-works
returns-in-Ok-false-clause-works g c = ap (λ z. z.broken) c.self.view_is ∙ c.loop.invariant.5

pub returns-in-Err-fill-clause-breaks : goal.returns-in-Err-fill-clause-breaks
returns-in-Err-fill-clause-breaks g c = ap (λ z. z.broken) c.self.view_is ∙ c.loop.invariant.5

pub returns-in-Ok-Some-take_waiting-clause-works : goal.returns-in-Ok-Some-take_waiting-clause-works
returns-in-Ok-Some-take_waiting-clause-works g c = c.in-Ok-Some-take_waiting.ensures.works
    ∙ ap (λ z. z.broken) c.self.view_is ∙ c.loop.invariant.5

pub returns-clause-breaks : goal.returns-clause-breaks
returns-clause-breaks g c = c.loop.invariant.5

pub returns-in-Ok-Some-clause-first : goal.returns-in-Ok-Some-clause-first
returns-in-Ok-Some-clause-first g c =
    hears_at_once _ g.met.E.End.follows _ _ _ _ (rw c.in-Ok-Some.field-0-is at c.in-Ok-Some.ensures.first)

pub returns-in-Err-clause-first : goal.returns-in-Err-clause-first
returns-in-Err-clause-first g c = if_events_on
    (TakesFirst g.E.End.behaviour c.args.self.now c.take_waiting.new.self)
    (HearsFirst g.E.End.behaviour g.S.Source.reader c.args.self.now c.take_waiting.new.self)
    (Err c.in-Err.fault) (hears_at_once _ g.met.E.End.follows _ _ _) c.in-Err.ensures.first

pub returns-in-Ok-Some-take_waiting-clause-first : goal.returns-in-Ok-Some-take_waiting-clause-first
returns-in-Ok-Some-take_waiting-clause-first g c =
    let i = c.loop.invariant in
    let f = c.in-Ok-true.ensures.some in
    hears_behind _ g.met.E.End.follows _ c.args.self.now c.loop.self _ c.take_waiting-in-loop.new.self
    c.self.view_is i.0 i.1 i.2.written c.fill.new.self c.fill.new.source (c.loop.counter + 1) i.2.led i.3
    (gave_on g.E.End.behaviour (on_devices g.K.Sink.writer g.S.Source.reader)
    g.met.E.End.follows c.args.self.now c.loop.self _ c.take_waiting-in-loop.new.self c.self.view_is i.0 i.1
    c.loop.counter i.2 i.3 i.6 (omega (arith, c.loop-test.true)) c.fill.new.self c.fill.new.source f.0 f.1
    (f.2 c.in-Ok-true.field-0-test)) _
    (rw c.in-Ok-Some-take_waiting.field-0-is at c.in-Ok-Some-take_waiting.ensures.first)

pub returns-in-Err-take_waiting-clause-first : goal.returns-in-Err-take_waiting-clause-first
returns-in-Err-take_waiting-clause-first g c =
    let i = c.loop.invariant in
    let f = c.in-Ok-true.ensures.some in
    if_events_on (TakesFirst g.E.End.behaviour (record {
      end = c.self.inside.end;
      source = c.fill.new.source;
      sink = c.self.inside.sink;
      waiting = c.fill.new.self;
      broken = c.self.inside.broken;
    }) c.take_waiting-in-loop.new.self)
    (HearsFirst g.E.End.behaviour g.S.Source.reader c.args.self.now
    c.take_waiting-in-loop.new.self) (Err c.in-Err-take_waiting.fault)
    (hears_behind _ g.met.E.End.follows _ c.args.self.now c.loop.self _ c.take_waiting-in-loop.new.self
    c.self.view_is i.0 i.1 i.2.written c.fill.new.self c.fill.new.source (c.loop.counter + 1) i.2.led i.3
    (gave_on g.E.End.behaviour (on_devices g.K.Sink.writer g.S.Source.reader)
    g.met.E.End.follows c.args.self.now c.loop.self _ c.take_waiting-in-loop.new.self c.self.view_is i.0 i.1
    c.loop.counter i.2 i.3 i.6 (omega (arith, c.loop-test.true)) c.fill.new.self c.fill.new.source f.0 f.1
    (f.2 c.in-Ok-true.field-0-test))) c.in-Err-take_waiting.ensures.first
