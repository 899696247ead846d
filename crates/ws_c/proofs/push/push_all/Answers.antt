use Rattle.std.specs.Prelude.{◌&&◌, is_some}
use Rattle.std.proofs.Common.{◌≡◌, ℕ, ◌+◌, inl, inr, List, None, true, false, refl, sym, subst, ap, ◌∙◌}
use Rattle.std.proofs.Common.{arith}
use Rattle.std.proofs.lemmas.List.{length-drop}
use Rattle.ws_end.specs.driver.Driven.{DriverFeeds, driving}
use Rattle.ws_c.specs.HeldEnds.{waiting}
use Rattle.ws_c.specs.Pushes.{HasToldAlone}
use Rattle.ws_c.specs.declared.status.Status.TheVariants.{NoRoom}
use Rattle.ws_c.specs.declared.told.PushedTold.{PushedTold}
use Rattle.ws_c.proofs.FeedLaws.{goes_on_untold, refused_fed, silent_before, some_fed, stops_plain, stops_some, stops_told}
use Rattle.ws_c.proofs.FeedLaws.{takes_on}
use Rattle.ws_c.proofs.HeldLaws.{Held, ends_plainly, ends_waiting, ends_well, feeding_on, feeding_start, nothing_waits}
use Rattle.ws_c.proofs.HeldLaws.{something_waits}
use Rattle.ws_c.proofs.PushLaws.{rest_is}
use Rattle.ws_c.proofs.push.push_all.Goals as goal

pub loop-told-init : goal.loop-told-init
loop-told-init g c = feeding_start (driving g.R.Body.Code.rules g.R.Collector.Keep.keeper g.R.Reacts.does) c.args.stops
    c.args.held.now c.hand_out.new.held c.args.bytes.now c.args.buffer.now c.hand_out.new.buffer c.args.told.now
    c.hand_out.new.told c.requires c.hand_out.ensures

pub loop-told-preserved : goal.loop-told-preserved
loop-told-preserved g c =
    let d = driving g.R.Body.Code.rules g.R.Collector.Keep.keeper g.R.Reacts.does in
    let now = c.loop-told in
    let f = now.invariant in
    let stops = c.args.stops in
    let bytes = c.args.bytes.now in
    let n : ℕ = now.told.taken in
    let fed = c.feed-used.result in
    let step = c.in-Ok.step in
    let new = c.feed-used.new.self in
    let feeds = subst (λ (x : List ℕ). DriverFeeds d now.held.end x new fed) (rest_is bytes n) c.feed-used.ensures in
    let none = nothing_waits c.rest.result.now (waiting d now.held) c.rest.ensures.rest
    (sym c.is_empty.ensures ∙ c.if-not-is_empty.false) in
    let mid : Held d = record { end = new; reply = step.reply; sent = 0 } in
    let quiet : (stops && is_some step.event) ≡ false = sym c.is_ending.ensures ∙ c.if-is_ending.false in
    feeding_on d stops None c.args.held.now now.held mid c.hand_out-in-Ok.new.held bytes c.args.buffer.now now.buffer
    c.hand_out-in-Ok.new.buffer now.told _ c.hand_out-in-Ok.new.told fed.used f none refl (omega arith) refl
    (omega (arith, feeds.within, length-drop n bytes, f.inside))
    (takes_on d c.args.held.now.end now.held.end new bytes n c.loop-told-test.true fed step c.in-Ok.is feeds
    (HasToldAlone stops None) (HasToldAlone stops None) f.written (goes_on_untold stops step.event quiet) f.takes)
    (silent_before d c.args.held.now.end now.held.end new bytes n c.loop-told-test.true fed step c.in-Ok.is feeds)
    c.hand_out-in-Ok.ensures

pub loop-told-preserved-else-is_ending : goal.loop-told-preserved-else-is_ending
loop-told-preserved-else-is_ending g c =
    let d = driving g.R.Body.Code.rules g.R.Collector.Keep.keeper g.R.Reacts.does in
    let now = c.loop-told in
    let f = now.invariant in
    let stops = c.args.stops in
    let bytes = c.args.bytes.now in
    let n : ℕ = now.told.taken in
    let fed = c.feed-used.result in
    let step = c.in-Ok.step in
    let new = c.feed-used.new.self in
    let feeds = subst (λ (x : List ℕ). DriverFeeds d now.held.end x new fed) (rest_is bytes n) c.feed-used.ensures in
    let none = nothing_waits c.rest.result.now (waiting d now.held) c.rest.ensures.rest
    (sym c.is_empty.ensures ∙ c.if-not-is_empty.false) in
    let mid : Held d = record { end = new; reply = step.reply; sent = 0 } in
    let quiet : (stops && is_some step.event) ≡ false = sym c.is_ending.ensures ∙ c.if-is_ending.false in
    feeding_on d stops None c.args.held.now now.held mid c.hand_out-in-Ok.new.held bytes c.args.buffer.now now.buffer
    c.hand_out-in-Ok.new.buffer now.told _ c.hand_out-in-Ok.new.told fed.used f none refl (omega arith) refl
    (omega (arith, feeds.within, length-drop n bytes, f.inside))
    (takes_on d c.args.held.now.end now.held.end new bytes n c.loop-told-test.true fed step c.in-Ok.is feeds
    (HasToldAlone stops None) (HasToldAlone stops None) f.written (goes_on_untold stops step.event quiet) f.takes)
    (silent_before d c.args.held.now.end now.held.end new bytes n c.loop-told-test.true fed step c.in-Ok.is feeds)
    c.hand_out-in-Ok.ensures

pub returns-then-not-is_empty : goal.returns-then-not-is_empty
returns-then-not-is_empty g c =
    let d = driving g.R.Body.Code.rules g.R.Collector.Keep.keeper g.R.Reacts.does in
    let now = c.loop-told in
    let some = something_waits c.rest.result.now (waiting d now.held) c.rest.ensures.rest
    (sym c.is_empty.ensures ∙ c.if-not-is_empty.true) in
    ends_waiting d c.args.stops None c.args.held.now now.held c.args.bytes.now c.args.buffer.now now.buffer now.told
    now.invariant (λ _. refl) (λ told. absurd (cc told)) some

pub returns-then-buffer-told-lt-REPLY_ROOM : goal.returns-then-buffer-told-lt-REPLY_ROOM
returns-then-buffer-told-lt-REPLY_ROOM g c =
    let d = driving g.R.Body.Code.rules g.R.Collector.Keep.keeper g.R.Reacts.does in
    let now = c.loop-told in
    let f = now.invariant in
    let none = nothing_waits c.rest.result.now (waiting d now.held) c.rest.ensures.rest
    (sym c.is_empty.ensures ∙ c.if-not-is_empty.false) in
    ends_plainly d c.args.stops None c.args.held.now now.held c.args.bytes.now c.args.buffer.now now.buffer now.told
    f (λ _. refl) (λ told. absurd (cc told)) now.held NoRoom now.told none none f.inside refl
    (record {
      all = λ all_fed. absurd (omega (arith, all_fed, c.loop-told-test.true));
      tells = λ told. absurd (cc told);
      crowded = λ _ _ _. (refl, f.plain, refl);
      refused = λ _ _ enough. absurd (omega (arith, enough));
    })

pub returns-then-is_ending : goal.returns-then-is_ending
returns-then-is_ending g c =
    let d = driving g.R.Body.Code.rules g.R.Collector.Keep.keeper g.R.Reacts.does in
    let now = c.loop-told in
    let f = now.invariant in
    let stops = c.args.stops in
    let bytes = c.args.bytes.now in
    let n : ℕ = now.told.taken in
    let fed = c.feed-used.result in
    let step = c.in-Ok.step in
    let new = c.feed-used.new.self in
    let out = c.hand_out-in-Ok.new in
    let feeds = subst (λ (x : List ℕ). DriverFeeds d now.held.end x new fed) (rest_is bytes n) c.feed-used.ensures in
    let none = nothing_waits c.rest.result.now (waiting d now.held) c.rest.ensures.rest
    (sym c.is_empty.ensures ∙ c.if-not-is_empty.false) in
    let mid : Held d = record { end = new; reply = step.reply; sent = 0 } in
    let stop : (stops && is_some step.event) ≡ true = sym c.is_ending.ensures ∙ c.if-is_ending.true in
    let some = some_fed d c.args.held.now.end now.held.end new bytes n c.loop-told-test.true fed step c.in-Ok.is feeds in
    let on = feeding_on d stops step.event c.args.held.now now.held mid out.held bytes c.args.buffer.now now.buffer
    out.buffer now.told _ out.told fed.used f none refl (omega arith) refl
    (omega (arith, feeds.within, length-drop n bytes, f.inside))
    (takes_on d c.args.held.now.end now.held.end new bytes n c.loop-told-test.true fed step c.in-Ok.is feeds
    (HasToldAlone stops None) (HasToldAlone stops step.event) f.written (stops_told stops step.event stop) f.takes)
    (silent_before d c.args.held.now.end now.held.end new bytes n c.loop-told-test.true fed step c.in-Ok.is feeds)
    c.hand_out-in-Ok.ensures in
    ends_well d stops step.event c.args.held.now out.held bytes c.args.buffer.now out.buffer out.told on
    (stops_plain stops step.event stop)
    (λ _. omega (arith, some, ap (λ (t : PushedTold). t.taken) c.hand_out-in-Ok.ensures.counted))
    c.status_of.result c.status_of.ensures.done c.status_of.ensures.waits (inl (stops_some stops step.event stop))

pub returns-in-Err : goal.returns-in-Err
returns-in-Err g c =
    let d = driving g.R.Body.Code.rules g.R.Collector.Keep.keeper g.R.Reacts.does in
    let now = c.loop-told in
    let f = now.invariant in
    let bytes = c.args.bytes.now in
    let n : ℕ = now.told.taken in
    let fed = c.feed-used.result in
    let refusal = c.in-Err.refusal in
    let told = c.tell_push_refusal.new.told in
    let held = c.keep_nothing.new.held in
    let feeds = subst (λ (x : List ℕ). DriverFeeds d now.held.end x c.feed-used.new.self fed) (rest_is bytes n)
    c.feed-used.ensures in
    let none = nothing_waits c.rest.result.now (waiting d now.held) c.rest.ensures.rest
    (sym c.is_empty.ensures ∙ c.if-not-is_empty.false) in
    ends_plainly d c.args.stops None c.args.held.now now.held bytes c.args.buffer.now now.buffer now.told f (λ _. refl)
    (λ told. absurd (cc told)) held c.tell_push_refusal.result told none c.keep_nothing.ensures.none
    (omega (
      arith,
      c.tell_push_refusal.ensures.taken,
      c.saturating_sub.ensures,
      feeds.within,
      length-drop n bytes,
      f.inside,
    ))
    c.tell_push_refusal.ensures.replied
    (record {
      all = λ all_fed. absurd (omega (arith, all_fed, c.loop-told-test.true));
      tells = λ told. absurd (cc told);
      crowded = λ _ _ small. absurd (omega (arith, small, c.tell_push_refusal.ensures.replied));
      refused = λ _ _ _. (
        refusal,
        fed.used,
        rw (c.keep_nothing.ensures.end, sym (refused_fed fed refusal c.in-Err.is)) feeds,
        c.tell_push_refusal.ensures.taken ∙ ap (λ (m : ℕ). n + m) c.saturating_sub.ensures,
        c.tell_push_refusal.ensures.refused,
      );
    })

pub returns : goal.returns
returns g c =
    let d = driving g.R.Body.Code.rules g.R.Collector.Keep.keeper g.R.Reacts.does in
    let now = c.loop-told in
    ends_well d c.args.stops None c.args.held.now now.held c.args.bytes.now c.args.buffer.now now.buffer now.told
    now.invariant (λ _. refl) (λ told. absurd (cc told)) c.status_of-2.result c.status_of-2.ensures.done
    c.status_of-2.ensures.waits (inr (omega (arith, c.loop-told-test.false)))
