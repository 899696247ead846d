use Rattle.ws_end.proofs.Common.{refl, ℕ, ◌+◌, ◌-◌, ◌≡◌, ◌∙◌, ap, arith, take, inl, inr, as_list}
use Rattle.ws_end.specs.attached.Attachments.{TellsAtLast}
use Rattle.ws_end.proofs.Feedings.{last_of, with_next}
use Rattle.ws_end.proofs.attached.FirstEvents.{if_events_ok, untold_refusal, tells_at_once}
use Rattle.ws_end.proofs.attached.writing.hear_piece.Goals as goal

pub returns-in-Err-write_whole-clause-fault : goal.returns-in-Err-write_whole-clause-fault
returns-in-Err-write_whole-clause-fault g c =
    let h = last_of c.args.piece.now c.feed-used.result.used c.feed-used.ensures.within
    (rw c.in-Ok.is at c.feed-used.ensures.some) in
    let failed = c.in-Err-write_whole.ensures.err in (
      h.0,
      h.1,
      h.2,
      inl (
        failed.0,
        record {
          written = g.E.End.written c.feed-used.new.self c.in-Ok.step.reply;
          events = as_list c.in-Ok.step.event;
          led = rw c.in-Ok.is at c.feed-used.ensures.fed;
          failed = rw c.bytes.ensures.value at failed.1;
        },
      ),
    )

pub returns-in-Err-clause-fault : goal.returns-in-Err-clause-fault
returns-in-Err-clause-fault g c =
    let r = rw c.in-Err.is at c.feed-used.ensures.refused in
    let used : ℕ = c.feed-used.result.used in
    let all : c.max.result ≡ used - 1 + 1 = omega (arith, c.max.ensures) in (
      take (used - 1) c.args.piece.now,
      r.0,
      ap (λ (n : ℕ). take n c.args.piece.now) all
          ∙ with_next c.args.piece.now (used - 1) (omega (arith, c.feed-used.ensures.within)) r.0 r.1 r.2,
      inr (record { refusal = c.in-Err.refusal; refused = r.3; is = c.fault_of.ensures; unwritten = refl }),
    )

pub returns-in-Ok-write_whole-clause-first : goal.returns-in-Ok-write_whole-clause-first
returns-in-Ok-write_whole-clause-first g c =
    let used = c.feed-used.result.used in
    if_events_ok (TellsAtLast g.E.End.behaviour c.args.end.now c.feed-used.new.self
    (take used c.args.piece.now)) c.in-Ok.step.event
    (tells_at_once _ _ _ c.args.piece.now used _ _ c.feed-used.ensures.within (g.met.E.End.stays _)
    (rw c.in-Ok.is at c.feed-used.ensures.fed) (rw c.in-Ok.is at c.feed-used.ensures.first))

pub returns-in-Err-write_whole-clause-first : goal.returns-in-Err-write_whole-clause-first
returns-in-Err-write_whole-clause-first g c =
    let used = c.feed-used.result.used in
    rw c.in-Err-write_whole.ensures.err.0 (
      as_list c.in-Ok.step.event,
      tells_at_once _ _ _ c.args.piece.now used _ _ c.feed-used.ensures.within (g.met.E.End.stays _)
          (rw c.in-Ok.is at c.feed-used.ensures.fed) (rw c.in-Ok.is at c.feed-used.ensures.first),
    )

pub returns-in-Err-clause-first : goal.returns-in-Err-clause-first
returns-in-Err-clause-first g c = untold_refusal _ _ c.in-Err.refusal c.fault_of.ensures
