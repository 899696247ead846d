use Rattle.std.proofs.Common.{ℕ, ◌+◌, ◌-◌, List, length, take, drop, refl, sym, subst, ap, ◌∙◌}
use Rattle.std.proofs.Common.{arith}
use Rattle.std.proofs.lemmas.List.{length-drop, length-take-le}
use Rattle.ws_end.specs.Acts.{all_came, as_list}
use Rattle.ws_c.specs.LiveEnds.{IsTraced, left_of}
use Rattle.ws_c.specs.declared.status.Status.TheVariants.{NoRoom}
use Rattle.ws_c.proofs.HeldLaws.{nothing_waits, something_waits}
use Rattle.ws_c.proofs.PieceLaws.{brought_by, push_done, push_ends, push_waits, pushing_on, pushing_start, refused_by}
use Rattle.ws_c.proofs.PushLaws.{rest_is}
use Rattle.ws_c.proofs.live_end.push_pieces.Goals as goal

pub loop-told-init : goal.loop-told-init
loop-told-init g c = pushing_start g.E.End.behaviour g.E.End.written g.met.E.End.stays c.args.held.now
    c.hand_out.new.held c.args.bytes.now c.args.buffer.now c.hand_out.new.buffer c.args.told.now c.hand_out.new.told
    c.requires c.hand_out.ensures

pub loop-told-preserved : goal.loop-told-preserved
loop-told-preserved g c =
    let b = g.E.End.behaviour in
    let w = g.E.End.written in
    let now = c.loop-told in
    let f = now.invariant in
    let bytes = c.args.bytes.now in
    let n : ℕ = now.told.taken in
    let used : ℕ = c.feed-used.result.used in
    let step = c.in-Ok.step in
    let feeds = c.feed-used.ensures in
    let piece : List ℕ = take (length bytes - n) (drop n bytes) in
    let none = nothing_waits c.rest.result.now (left_of w now.held) c.rest.ensures.rest
    (sym c.is_empty.ensures ∙ c.if-not-is_empty.false) in
    let brings = brought_by b w now.held.end c.feed-used.new.self piece c.feed-used.result step feeds c.in-Ok.is in
    let short = length-take-le (length bytes - n) (drop n bytes) (omega (arith, length-drop n bytes)) in
    pushing_on b w g.met.E.End.follows c.args.held.now now.held c.keep.new.held c.hand_out-in-Ok.new.held bytes
    c.args.buffer.now now.buffer c.hand_out-in-Ok.new.buffer now.told _ c.hand_out-in-Ok.new.told used f none
    (ap (λ h. h.sent) c.keep.ensures) (omega arith) refl
    (omega (arith, feeds.within, length-drop n bytes, short, f.inside))
    (subst (λ h. IsTraced b now.held.end (take used (drop n bytes)) (left_of w h) h.end) (sym c.keep.ensures) (
      as_list step.event,
      subst (λ (x : List ℕ). b.traces now.held.end (all_came (take used x)) (w c.feed-used.new.self step.reply)
          (as_list step.event) c.feed-used.new.self) (rest_is bytes n) brings.0,
    ))
    (λ j less. subst (λ (x : List ℕ). b.silent now.held.end (take j x)) (rest_is bytes n) (brings.1 j less))
    c.hand_out-in-Ok.ensures

pub loop-told-preserved-in-Ok : goal.loop-told-preserved-in-Ok
loop-told-preserved-in-Ok g c =
    let b = g.E.End.behaviour in
    let w = g.E.End.written in
    let now = c.loop-told in
    let f = now.invariant in
    let bytes = c.args.bytes.now in
    let n : ℕ = now.told.taken in
    let used : ℕ = c.feed-used.result.used in
    let step = c.in-Ok.step in
    let feeds = c.feed-used.ensures in
    let piece : List ℕ = take (length bytes - n) (drop n bytes) in
    let none = nothing_waits c.rest.result.now (left_of w now.held) c.rest.ensures.rest
    (sym c.is_empty.ensures ∙ c.if-not-is_empty.false) in
    let brings = brought_by b w now.held.end c.feed-used.new.self piece c.feed-used.result step feeds c.in-Ok.is in
    let short = length-take-le (length bytes - n) (drop n bytes) (omega (arith, length-drop n bytes)) in
    pushing_on b w g.met.E.End.follows c.args.held.now now.held c.keep.new.held c.hand_out-in-Ok.new.held bytes
    c.args.buffer.now now.buffer c.hand_out-in-Ok.new.buffer now.told _ c.hand_out-in-Ok.new.told used f none
    (ap (λ h. h.sent) c.keep.ensures) (omega arith) refl
    (omega (arith, feeds.within, length-drop n bytes, short, f.inside))
    (subst (λ h. IsTraced b now.held.end (take used (drop n bytes)) (left_of w h) h.end) (sym c.keep.ensures) (
      as_list step.event,
      subst (λ (x : List ℕ). b.traces now.held.end (all_came (take used x)) (w c.feed-used.new.self step.reply)
          (as_list step.event) c.feed-used.new.self) (rest_is bytes n) brings.0,
    ))
    (λ j less. subst (λ (x : List ℕ). b.silent now.held.end (take j x)) (rest_is bytes n) (brings.1 j less))
    c.hand_out-in-Ok.ensures

pub returns-then-not-is_empty : goal.returns-then-not-is_empty
returns-then-not-is_empty g c =
    let now = c.loop-told in
    let some = something_waits c.rest.result.now (left_of g.E.End.written now.held) c.rest.ensures.rest
    (sym c.is_empty.ensures ∙ c.if-not-is_empty.true) in
    push_waits g.E.End.behaviour g.E.End.written c.args.held.now now.held c.args.bytes.now c.args.buffer.now now.buffer
    now.told now.invariant some

pub returns-then-buffer-told-lt-REPLY_ROOM : goal.returns-then-buffer-told-lt-REPLY_ROOM
returns-then-buffer-told-lt-REPLY_ROOM g c =
    let now = c.loop-told in
    let f = now.invariant in
    let none = nothing_waits c.rest.result.now (left_of g.E.End.written now.held) c.rest.ensures.rest
    (sym c.is_empty.ensures ∙ c.if-not-is_empty.false) in
    push_ends g.E.End.behaviour g.E.End.written c.args.held.now now.held c.args.bytes.now c.args.buffer.now now.buffer
    now.told f now.held NoRoom now.told none none f.inside refl
    (record {
      all = λ all_fed. absurd (omega (arith, all_fed, c.loop-told-test.true));
      crowded = λ _ _. (refl, f.plain, refl);
      refused = λ _ enough. absurd (omega (arith, enough));
    })

pub returns-in-Err : goal.returns-in-Err
returns-in-Err g c =
    let b = g.E.End.behaviour in
    let w = g.E.End.written in
    let now = c.loop-told in
    let f = now.invariant in
    let bytes = c.args.bytes.now in
    let n : ℕ = now.told.taken in
    let refusal = c.in-Err.refusal in
    let told = c.tell_push_refusal.new.told in
    let held = c.forget.new.held in
    let feeds = c.feed-used.ensures in
    let used : ℕ = c.feed-used.result.used in
    let piece : List ℕ = take (length bytes - n) (drop n bytes) in
    let none = nothing_waits c.rest.result.now (left_of w now.held) c.rest.ensures.rest
    (sym c.is_empty.ensures ∙ c.if-not-is_empty.false) in
    let no = refused_by b w now.held.end c.feed-used.new.self piece c.feed-used.result refusal feeds c.in-Err.is in
    push_ends b w c.args.held.now now.held bytes c.args.buffer.now now.buffer now.told f held c.tell_push_refusal.result
    told none (ap (λ h. left_of w h) c.forget.ensures)
    (omega (
      arith,
      c.tell_push_refusal.ensures.taken,
      c.saturating_sub.ensures,
      feeds.within,
      length-drop n bytes,
      f.inside,
    ))
    c.tell_push_refusal.ensures.replied
    (record {
      all = λ all_fed. absurd (omega (arith, all_fed, c.loop-told-test.true));
      crowded = λ _ small. absurd (omega (arith, small, c.tell_push_refusal.ensures.replied));
      refused = λ _ _. (
        refusal,
        take (used - 1) piece,
        no.0,
        no.1,
        sym (rest_is bytes n) ∙ no.2,
        subst (λ e. b.refuses now.held.end (take (used - 1) piece) no.0 refusal e)
            (sym (ap (λ h. h.end) c.forget.ensures)) no.3,
        c.tell_push_refusal.ensures.taken ∙ ap (λ (m : ℕ). n + m) c.saturating_sub.ensures
            ∙ ap (λ (m : ℕ). n + m) (sym (length-take-le (used - 1) piece (omega (arith, feeds.within)))),
        c.tell_push_refusal.ensures.refused,
      );
    })

pub returns : goal.returns
returns g c =
    let now = c.loop-told in
    push_done g.E.End.behaviour g.E.End.written c.args.held.now now.held c.args.bytes.now c.args.buffer.now now.buffer
    now.told now.invariant c.status_of.result c.status_of.ensures.done c.status_of.ensures.waits
    (omega (arith, c.loop-told-test.false))
