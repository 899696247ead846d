use Rattle.ws_lasting.proofs.Common as C
use C.{rules, ◌≡◌, ◌∷◌, ◌∙◌, ◌-◌, [], None, Some, Ok, sym, ap, subst, subst₂, arith, true, false, ◌&&◌}
use C.{station_allows_records, on_display, ReachedOn, IsCounted, LastingParts, IsWordHeard, is_of_record, negative}
use C.{Station, RecordCounts, Refused, RefusedRecord}
use Rattle.ws_lasting.proofs.Placing.{placed_here}
use Rattle.ws_lasting.proofs.Refusing.{refused_at_end, refused_inside, refused_last}
use Rattle.ws_lasting.proofs.lasting.LastingStation.refuse.Goals as goal

pub returns-then-not-may_pass_over-clause-heard : goal.returns-then-not-may_pass_over-clause-heard
returns-then-not-may_pass_over-clause-heard g c = λ at items byte word stands step refused yes no size works named.
    let end = c.end in
    rw end.ensures.result (refused_last g.D.Commands.Code.rules g.D.StationDisplay.does at c.args.reason
    c.args.self.now.counts end.new.self word (c.args.self.now.taken - 1) refused
    (subst (λ o. (is_of_record c.args.reason && station_allows_records o) ≡ false) stands.options
    (sym c.may_pass_over.ensures ∙ search (rules, c.if-not-may_pass_over.true))))

pub returns-then-not-is_end-clause-heard : goal.returns-then-not-is_end-clause-heard
returns-then-not-is_end-clause-heard g c = λ at items byte word stands step refused yes no size works named.
    let on = on_display g.D.Commands.Code.rules g.D.StationDisplay.does in
    let new = c.pass_over.new.self in
    let same = c.pass_over.ensures ∙ ap (λ (z : LastingParts _ _). (record z {
      passing = Some c.refused_here-why.result;
      passing_from = z.taken - 1;
    })) c.revive.ensures.same in
    subst (λ (z : RecordCounts). IsWordHeard on z new at (c.args.self.now.taken - 1) word (Ok c.silence.result))
    (ap (λ (z : LastingParts _ _). z.counts) same)
    (refused_inside g.D.Commands.Code.rules g.D.StationDisplay.does at c.args.reason new
    (ap (λ (z : LastingParts _ _). z.ended) same ∙ works)
    (ap (λ (z : LastingParts _ _). z.environ) same ∙ named)
    (subst (λ x. ReachedOn on x [] [] at.state) (sym (ap (λ (z : LastingParts _ _). z.station) same))
    (c.revive.ensures.led items at.state stands))
    (subst (λ o. (is_of_record c.args.reason && station_allows_records o) ≡ true) stands.options
    (sym c.may_pass_over.ensures ∙ search (rules, c.if-not-may_pass_over.false)))
    (c.args.self.now.taken - 1) c.args.self.now.size size c.silence.result word
    (ap (λ (z : LastingParts _ _). z.passing) same ∙ ap (λ (w : RefusedRecord). Some w) c.refused_here-why.ensures)
    refused (no (search (rules, c.if-not-is_end.true))) (c.silence.ensures.written new) c.silence.ensures.told)

pub returns-clause-heard : goal.returns-clause-heard
returns-clause-heard g c = λ at items byte word stands step refused yes no size works named.
    let on = on_display g.D.Commands.Code.rules g.D.StationDisplay.does in
    let new = c.close.new.self in
    let same = c.pass_over.ensures ∙ ap (λ (z : LastingParts _ _). (record z {
      passing = Some c.refused_here-why.result;
      passing_from = z.taken - 1;
    })) c.revive.ensures.same in
    let closed = c.close.ensures.same in
    let is = yes (search (rules, c.if-not-is_end.false)) in
    let ends = rw is at step in
    rw is (refused_at_end g.D.Commands.Code.rules g.D.StationDisplay.does at c.args.reason new
    (ap (λ (z : LastingParts _ _). z.ended) closed ∙ ap (λ (z : LastingParts _ _). z.ended) same ∙ works)
    (ap (λ (z : LastingParts _ _). z.environ) closed ∙ ap (λ (z : LastingParts _ _). z.environ) same ∙ named)
    (subst (λ x. ReachedOn on x [] [] at.state)
    (sym (ap (λ (z : LastingParts _ _). z.station) closed ∙ ap (λ (z : LastingParts _ _). z.station)
    c.pass_over.ensures)) (c.revive.ensures.led items at.state stands))
    (subst (λ o. (is_of_record c.args.reason && station_allows_records o) ≡ true) stands.options
    (sym c.may_pass_over.ensures ∙ search (rules, c.if-not-may_pass_over.false)))
    (c.args.self.now.taken - 1) c.args.self.now.size size
    (record { reply = Station c.reply.result; event = Some (Refused c.refused_here-why.result) })
    g.met.D.Commands.Code.prefix_free g.met.D.Commands.Code.begins c.args.self.now.counts
    (ap (λ (z : LastingParts _ _). z.passing) closed)
    (ap (λ (z : LastingParts _ _). z.begun) closed ∙ ap (λ (z : LastingParts _ _). z.begun) same ∙ ends.0)
    (ap (λ (z : LastingParts _ _). z.size) closed) (rw is at refused)
    (c.reply.ensures.written _ ∙ c.negative.ensures ∙ ap (λ (w : RefusedRecord). negative w.reason)
    c.refused_here-why.ensures)
    (ap (λ (w : RefusedRecord). Some (Refused w)) c.refused_here-why.ensures)
    (subst₂ (λ (k : RecordCounts) (w : RefusedRecord). IsCounted k (Refused w ∷ []) new.counts)
    (ap (λ (z : LastingParts _ _). z.counts) same) c.refused_here-why.ensures c.close.ensures.counted))

pub returns-then-not-is_end-clause-placed : goal.returns-then-not-is_end-clause-placed
returns-then-not-is_end-clause-placed g c = λ none.
    let same = c.pass_over.ensures ∙ ap (λ (z : LastingParts _ _). (record z {
      passing = Some c.refused_here-why.result;
      passing_from = z.taken - 1;
    })) c.revive.ensures.same in
    rw c.silence.ensures.told (placed_here c.args.self.now c.pass_over.new.self (c.args.self.now.taken - 1) None none
    (omega (arith, c.requires, ap (λ (z : LastingParts _ _). z.taken) same))
    (λ some. ap (λ (z : LastingParts _ _). z.passing_from) same) (ap (λ (z : LastingParts _ _). z.refused_at) same))

pub returns-clause-placed : goal.returns-clause-placed
returns-clause-placed g c = λ none.
    let same = c.close.ensures.same ∙ ap (λ (z : LastingParts _ _). (record z {
      size = 0;
      passing = None;
      counts = c.close.new.self.counts;
      refused_at = Some z.passing_from;
    })) (c.pass_over.ensures ∙ ap (λ (z : LastingParts _ _). (record z {
      passing = Some c.refused_here-why.result;
      passing_from = z.taken - 1;
    })) c.revive.ensures.same) in
    placed_here c.args.self.now c.close.new.self (c.args.self.now.taken - 1) (Some (Refused c.refused_here-why.result))
    none (omega (arith, c.requires, ap (λ (z : LastingParts _ _). z.taken) same))
    (λ some. ap (λ (z : LastingParts _ _). z.passing_from) same) (ap (λ (z : LastingParts _ _). z.refused_at) same)
