use Rattle.ws_end.proofs.Common.{[], ◌++◌, refl, ◌∙◌, Err}
use Rattle.ws_end.specs.attached.Attachments.{TakesFirst}
use Rattle.ws_end.proofs.attached.Attached.take_waiting.Goals as goal
use Rattle.ws_end.proofs.attached.Attachings.{taking_starts, further, take_fails}
use Rattle.ws_end.proofs.attached.FirstEvents.{if_events_on, takes_behind}

pub loop-self-init : goal.loop-self-init
loop-self-init g c = record {
  bytes = [];
  led = taking_starts _ _ g.met.E.End.follows g.met.E.End.stays _;
  left = refl;
  unread = refl;
  works = refl;
}

pub loop-self-preserved : goal.loop-self-preserved
loop-self-preserved g c =
    let i = c.loop-self.invariant in
    let p = rw c.in-Ok-None.field-0-is at c.in-Ok-None.ensures.taken in
    let q = further _ _ g.met.E.End.follows c.args.self.now c.loop-self.self c.take.new.self
    i.bytes i.led i.left i.unread c.in-Ok-None.ensures.source [] p.0 p.1 p.2 in
    record {
      bytes = i.bytes ++ p.0;
      led = q.0;
      left = q.1;
      unread = q.2;
      works = c.in-Ok-None.ensures.works ∙ i.works;
    }

pub returns-in-Ok-Some-clause-taken : goal.returns-in-Ok-Some-clause-taken
returns-in-Ok-Some-clause-taken g c =
    let i = c.loop-self.invariant in
    let p = rw c.in-Ok-Some.field-0-is at c.in-Ok-Some.ensures.taken in
    let q = further _ _ g.met.E.End.follows c.args.self.now c.loop-self.self c.take.new.self
    i.bytes i.led i.left i.unread c.in-Ok-Some.ensures.source _ p.0 p.1 p.2 in
    (i.bytes ++ p.0, q.0, q.1, q.2, tt)

pub returns-in-Err-clause-fault : goal.returns-in-Err-clause-fault
returns-in-Err-clause-fault g c =
    let i = c.loop-self.invariant in
    take_fails _ _ g.met.E.End.follows c.args.self.now c.loop-self.self c.take.new.self
    i.bytes i.led i.left i.unread c.in-Err.ensures.source _ c.in-Err.ensures.fault

pub returns-in-Ok-Some-clause-works : goal.returns-in-Ok-Some-clause-works
returns-in-Ok-Some-clause-works g c = c.in-Ok-Some.ensures.works ∙ c.loop-self.invariant.works

pub returns-clause-works : goal.returns-clause-works
returns-clause-works g c = c.loop-self.invariant.works

pub returns-in-Ok-Some-clause-first : goal.returns-in-Ok-Some-clause-first
returns-in-Ok-Some-clause-first g c =
    let i = c.loop-self.invariant in
    takes_behind _ g.met.E.End.follows _ _ _ i.bytes i.led.written i.led.led i.left i.unread _
    (rw c.in-Ok-Some.field-0-is at c.in-Ok-Some.ensures.first)

pub returns-in-Err-clause-first : goal.returns-in-Err-clause-first
returns-in-Err-clause-first g c =
    let i = c.loop-self.invariant in
    if_events_on (TakesFirst g.E.End.behaviour c.loop-self.self c.take.new.self)
    (TakesFirst g.E.End.behaviour c.args.self.now c.take.new.self) (Err c.in-Err.fault)
    (takes_behind _ g.met.E.End.follows _ _ _ i.bytes i.led.written i.led.led i.left i.unread) c.in-Err.ensures.first
