use Rattle.ws_lasting.proofs.Common as C
use C.{◌≡◌, ◌<◌, ◌+◌, ◌-◌, ◌^◌, Ok, length, ap, ◌∙◌, sym, subst, subst₂, arith, rules, inl, inr, Failed, Memory}
use C.{on_display, station_driving, LastingParts, IsRefusalPlaced, IsRefusalPlacedSo, IsWordHeard, IsTokenStep}
use C.{RecordCounts}
use Rattle.ws_lasting.proofs.Placing.{placed_on}
use Rattle.ws_lasting.proofs.Pushing.{pushed, refused}
use Rattle.ws_lasting.proofs.ReadingOn.{fits_so, heard, held_so, judged}
use Rattle.ws_lasting.proofs.Taking.{followed}
use Rattle.ws_lasting.proofs.lasting.LastingStation.read.Goals as goal

pub returns-in-Ok : goal.returns-in-Ok
returns-in-Ok g c =
    let rules_ = g.D.Commands.Code.rules in
    let does = g.D.StationDisplay.does in
    let on = on_display rules_ does in
    let code = g.met.D.Commands.Code in
    let old = c.args.self.now in
    let same = c.hear.ensures.same in
    let taken : c.hear.new.self.taken ≡ old.taken = ap (λ (z : LastingParts _ _). z.taken) same in
    let kept = followed on c.hear.new.self c.follow.new.self c.args.word c.in-Ok.step.reply c.follow.result
    c.follow.ensures in
    record {
      heard = λ at r step size passing works named. (
          let n = r.few in
          let few : length r.bytes + 1 < 2 ^ 64 = omega (arith, n, c.requires.counted, c.requires.few) in
          subst (λ (z : RecordCounts). IsWordHeard on z c.follow.new.self at (old.taken - 1) c.args.word
          (Ok c.follow.result))
          (ap (λ (z : LastingParts _ _). z.counts) same)
          (heard rules_ does code.prefix_free code.begins r.bytes r.items at
          (held_so rules_ does code.prefix_free code.begins g.met.D.Commands.Body.can_end old.station (old.taken - 1) at
          r) c.args.byte c.hear.new.self (ap (λ (z : LastingParts _ _). z.passing) same ∙ passing)
          (ap (λ (z : LastingParts _ _). z.ended) same ∙ works)
          (ap (λ (z : LastingParts _ _). z.environ) same ∙ named)
          (omega (arith, n, taken, c.requires.counted))
          (ap (λ (z : LastingParts _ _). z.size) same ∙ size) (old.taken - 1) c.in-Ok.step
          c.follow.new.self c.follow.result c.args.word
          (subst (λ x. IsTokenStep at.begun c.args.byte x c.args.word) (sym (ap (λ (z : LastingParts _ _). z.begun)
          same)) step)
          (pushed (station_driving on) old.station c.hear.new.self.station c.args.byte r.bytes r.items at.state
          r.reached few c.in-Ok.step c.in-Ok.ensures.heard) c.follow.ensures c.in_default.not-Bad));
      placed = λ none. subst (λ (z : LastingParts _ _). IsRefusalPlaced z (old.taken - 1) c.follow.new.self
          c.follow.result.event) same (placed_on on c.hear.new.self c.follow.new.self (old.taken - 1) c.args.word
          c.in-Ok.step.reply c.follow.result c.follow.ensures (ap (λ (z : LastingParts _ _). z.passing) same ∙ none)
          (omega (arith, c.requires.counted, taken, kept.1)));
      same = (kept.0 ∙ ap (λ (z : LastingParts _ _). z.begun) same, kept.1 ∙ taken);
      after = search rules;
      left = search rules;
    }

pub returns-in-Err-Failed : goal.returns-in-Err-Failed
returns-in-Err-Failed g c =
    let on = on_display g.D.Commands.Code.rules g.D.StationDisplay.does in
    record {
      heard = λ at r step size passing works named. absurd (refused (station_driving on) c.args.self.now.station
          c.hear.new.self.station c.args.byte r.bytes r.items at.state r.reached
          (let n = r.few in omega (arith, n, c.requires.counted, c.requires.few)) Failed
          (rw c.in-Err-Failed.field-0-is at c.in-Err-Failed.ensures.heard)).0;
      placed = search rules;
      same = search rules;
      after = search rules;
      left = search rules;
    }

pub returns-in-Err-Memory : goal.returns-in-Err-Memory
returns-in-Err-Memory g c =
    let on = on_display g.D.Commands.Code.rules g.D.StationDisplay.does in
    record {
      heard = λ at r step size passing works named. elim (refused (station_driving on) c.args.self.now.station
          c.hear.new.self.station c.args.byte r.bytes r.items at.state r.reached
          (let n = r.few in omega (arith, n, c.requires.counted, c.requires.few)) Memory
          (rw c.in-Err-Memory.field-0-is at c.in-Err-Memory.ensures.heard)).0 [
            | inl q ↦ (let never = q.0 in cc)
            | inr q ↦ absurd q.so.3
          ];
      placed = search rules;
      same = search rules;
      after = search rules;
      left = search rules;
    }

pub returns : goal.returns
returns g c =
    let rules_ = g.D.Commands.Code.rules in
    let does = g.D.StationDisplay.does in
    let on = on_display rules_ does in
    let code = g.met.D.Commands.Code in
    let old = c.args.self.now in
    let same = c.hear.ensures.same in
    let begun = ap (λ (z : LastingParts _ _). z.begun) same in
    let taken : c.hear.new.self.taken ≡ old.taken = ap (λ (z : LastingParts _ _). z.taken) same in
    let place : c.hear.new.self.taken - 1 ≡ old.taken - 1 = omega (arith, taken) in
    record {
      heard = λ at r step size passing works named. (
          let why = refused (station_driving on) old.station c.hear.new.self.station c.args.byte r.bytes r.items
          at.state r.reached (let n = r.few in omega (arith, n, c.requires.counted, c.requires.few)) _
          (rw c.in-Err-At.field-0-is at c.in-Err-At.ensures.heard) in
          subst₂ (λ (k : RecordCounts) n. IsWordHeard on k c.refuse.new.self at n c.args.word c.refuse.result)
          (ap (λ (z : LastingParts _ _). z.counts) same) place
          (c.refuse.ensures.heard at r.items c.args.byte c.args.word why.1
          (subst (λ x. IsTokenStep at.begun c.args.byte x c.args.word) (sym begun) step)
          (judged rules_ does code.prefix_free code.begins r.bytes r.items at
          (held_so rules_ does code.prefix_free code.begins g.met.D.Commands.Body.can_end old.station (old.taken - 1) at
          r) c.args.byte g.met.D.Commands.Body.can_end code.bytes c.in-Err-At.reason _ why.0
          (λ q. fits_so rules_ does code.prefix_free code.begins g.met.D.Commands.Body.can_end old.station
          (old.taken - 1) at r) old.begun c.args.word step c.in_default.not-Bad)
          c.is_end.ensures.yes c.is_end.ensures.no (ap (λ (z : LastingParts _ _). z.size) same ∙ size)
          (ap (λ (z : LastingParts _ _). z.ended) same ∙ works)
          (ap (λ (z : LastingParts _ _). z.environ) same ∙ named)));
      placed = λ none. subst (λ (z : LastingParts _ _). IsRefusalPlacedSo z (z.taken - 1) c.refuse.new.self
          c.refuse.result) same (c.refuse.ensures.placed (ap (λ (z : LastingParts _ _). z.passing) same ∙ none));
      same = (c.refuse.ensures.same.0 ∙ begun, c.refuse.ensures.same.1 ∙ taken);
      after = c.refuse.ensures.after;
      left = search rules;
    }
