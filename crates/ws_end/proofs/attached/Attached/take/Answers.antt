use Rattle.ws_end.proofs.Common.{◌≡◌, List, [], ◌∷◌, ◌++◌, ◌∙◌, ℕ, take, drop, ap, sym, take-append-drop, append_assoc}
use Rattle.ws_end.proofs.Common.{true, Err, Ok, as_list, AttachedParts}
use Rattle.ws_end.specs.attached.Attachments.{TellsAtLast, TakesFirst}
use Rattle.ws_end.proofs.attached.Attached.take.Goals as goal
use Rattle.ws_end.proofs.attached.Attachings.{has_led, unheard}
use Rattle.ws_end.proofs.attached.FirstEvents.{if_events_on, takes_first}

-- the bytes that wait are those that were taken, and those that still do
parted : (waiting inside left : List ℕ) (used : ℕ) → inside ≡ waiting → left ≡ drop used inside
    → waiting ≡ take used inside ++ left
parted waiting inside left used is next = rw next (sym is ∙ sym (take-append-drop used inside))

pub returns-in-Ok-clause-taken : goal.returns-in-Ok-clause-taken
returns-in-Ok-clause-taken g c =
    let used = c.hear_piece-used.result.used in
    let inside = c.self.inside.waiting in
    let heard = rw c.as_slice.ensures at (rw c.in-Ok.is at c.hear_piece-used.ensures.heard) in (
      take used inside,
      has_led _ _ c.args.self.now _ _ c.self.view_is _ (as_list c.in-Ok.event) heard,
      parted _ inside _ used (ap (λ (z : AttachedParts _ _ _). z.waiting) c.self.view_is) c.skip.ensures,
    )

pub returns-in-Err-clause-fault : goal.returns-in-Err-clause-fault
returns-in-Err-clause-fault g c =
    let used = c.hear_piece-used.result.used in
    let inside = c.self.inside.waiting in
    let fault = rw c.as_slice.ensures at (rw c.in-Err.is at c.hear_piece-used.ensures.fault) in
    let u = unheard _ _ c.args.self.now _ _ c.self.view_is (g.met.E.End.stays c.self.inside.end) (take used
    inside) c.in-Err.fault fault in (
      u.0,
      u.1,
      u.3,
      parted _ inside _ used (ap (λ (z : AttachedParts _ _ _). z.waiting) c.self.view_is) c.skip.ensures
          ∙ ap (λ z. z ++ c.skip.new.self) u.2 ∙ append_assoc u.0 (u.1 ∷ []) c.skip.new.self,
      ap (λ (z : AttachedParts _ _ _). z.source) c.self.view_is,
    )

pub returns-in-Ok-clause-first : goal.returns-in-Ok-clause-first
returns-in-Ok-clause-first g c =
    let used = c.hear_piece-used.result.used in
    let inside = c.self.inside in
    let first = rw c.as_slice.ensures at (rw c.in-Ok.is at c.hear_piece-used.ensures.first) in
    if_events_on (TellsAtLast g.E.End.behaviour inside.end c.hear_piece-used.new.end (take used inside.waiting))
    (TakesFirst g.E.End.behaviour c.args.self.now (record {
      end = c.hear_piece-used.new.end;
      source = inside.source;
      sink = c.hear_piece-used.new.sink;
      waiting = c.skip.new.self;
      broken = c.self.inside.broken;
    })) (Ok c.in-Ok.event) (takes_first _ c.args.self.now _ _ c.self.view_is (take used inside.waiting)
    (parted _ inside.waiting _ used (ap (λ (z : AttachedParts _ _ _). z.waiting) c.self.view_is) c.skip.ensures)
    (ap (λ (z : AttachedParts _ _ _). z.source) c.self.view_is)) first

pub returns-in-Err-clause-first : goal.returns-in-Err-clause-first
returns-in-Err-clause-first g c =
    let used = c.hear_piece-used.result.used in
    let inside = c.self.inside in
    let first = rw c.as_slice.ensures at (rw c.in-Err.is at c.hear_piece-used.ensures.first) in
    if_events_on (TellsAtLast g.E.End.behaviour inside.end c.hear_piece-used.new.end (take used inside.waiting))
    (TakesFirst g.E.End.behaviour c.args.self.now (record {
      end = c.hear_piece-used.new.end;
      source = inside.source;
      sink = c.hear_piece-used.new.sink;
      waiting = c.skip.new.self;
      broken = true;
    })) (Err c.in-Err.fault) (takes_first _ c.args.self.now _ _ c.self.view_is (take used inside.waiting)
    (parted _ inside.waiting _ used (ap (λ (z : AttachedParts _ _ _). z.waiting) c.self.view_is) c.skip.ensures)
    (ap (λ (z : AttachedParts _ _ _). z.source) c.self.view_is)) first
