use Rattle.ws_lasting.proofs.Common as C
use C.{rules, ◌≡◌, ◌+◌, ◌-◌, None, Some, Option, sym, ap, ◌∙◌, subst, subst₂, arith, on_display, LastingParts}
use C.{IsRefusalPlacedSo, ReadsOrPasses, IsReading, IsPassingOver, IsWordHeard, IsTokenStep, RecordCounts}
use C.{RefusedRecord}
use Rattle.ws_lasting.proofs.Taking.{taken_so}
use Rattle.ws_lasting.proofs.lasting.LastingStation.take_byte.Goals as goal

pub returns-in-None-clause-taken : goal.returns-in-None-clause-taken
returns-in-None-clause-taken g c = λ at st few.
    let on = on_display g.D.Commands.Code.rules g.D.StationDisplay.does in
    let same = c.count.ensures ∙ ap (λ (z : LastingParts _ _). (record z { taken = z.taken + 1 }))
    c.step-word.ensures.same in
    let passing : c.count.new.self.passing ≡ None = search (rules, c.in-None.is, c.self-2.view_is) in
    let passing_ : c.args.self.now.passing ≡ None = sym (ap (λ (z : LastingParts _ _). z.passing) same) ∙ passing in
    let taken : c.count.new.self.taken ≡ c.args.self.now.taken + 1 = ap (λ (z : LastingParts _ _). z.taken) same in
    let place : c.count.new.self.taken - 1 ≡ c.args.self.now.taken = omega (arith, taken) in
    let within = subst (λ (o : Option RefusedRecord). ReadsOrPasses on c.args.self.now at o) passing_ st.within in
    let step = subst₂ (λ x y. IsTokenStep x c.args.byte y c.step-word.result) st.is_begun (sym (ap (λ (z : LastingParts
    _ _). z.begun) c.count.ensures)) c.step-word.ensures.step in
    let heard = c.read.ensures.heard at
    (subst₂ (λ x n. IsReading on x n at) (sym (ap (λ (z : LastingParts _ _). z.station) same)) (sym place) within.0)
    step (ap (λ (z : LastingParts _ _). z.size) same ∙ within.1) passing
    (ap (λ (z : LastingParts _ _). z.ended) same ∙ st.works)
    (ap (λ (z : LastingParts _ _). z.environ) same ∙ st.is_environ) in
    taken_so on c.args.self.now c.read.new.self at c.args.byte c.step-word.result (c.read.ensures.same.1 ∙ taken)
    c.read.result
    (subst (λ x. IsTokenStep at.begun c.args.byte x c.step-word.result) (sym c.read.ensures.same.0) step)
    (subst₂ (λ (k : RecordCounts) n. IsWordHeard on k c.read.new.self at n c.step-word.result c.read.result) (ap (λ (z
    : LastingParts _ _). z.counts) same) place heard)

pub returns-in-Some-clause-taken : goal.returns-in-Some-clause-taken
returns-in-Some-clause-taken g c = λ at st few.
    let on = on_display g.D.Commands.Code.rules g.D.StationDisplay.does in
    let same = c.count.ensures ∙ ap (λ (z : LastingParts _ _). (record z { taken = z.taken + 1 }))
    c.step-word.ensures.same in
    let passing : c.count.new.self.passing ≡ Some c.in-Some.why = search (rules, c.in-Some.is, c.self-2.view_is) in
    let passing_ : c.args.self.now.passing ≡ Some c.in-Some.why = sym (ap (λ (z : LastingParts _ _). z.passing) same) ∙
    passing in
    let taken : c.count.new.self.taken ≡ c.args.self.now.taken + 1 = ap (λ (z : LastingParts _ _). z.taken) same in
    let place : c.count.new.self.taken - 1 ≡ c.args.self.now.taken = omega (arith, taken) in
    let within = subst (λ (o : Option RefusedRecord). ReadsOrPasses on c.args.self.now at o) passing_ st.within in
    let step = subst₂ (λ x y. IsTokenStep x c.args.byte y c.step-word.result) st.is_begun (sym (ap (λ (z : LastingParts
    _ _). z.begun) c.count.ensures)) c.step-word.ensures.step in
    let heard = c.pass.ensures.heard at c.args.byte
    (subst (λ x. IsPassingOver on x at c.in-Some.why) (sym (ap (λ (z : LastingParts _ _). z.station) same)) within)
    step passing (ap (λ (z : LastingParts _ _). z.ended) same ∙ st.works)
    (ap (λ (z : LastingParts _ _). z.environ) same ∙ st.is_environ) in
    taken_so on c.args.self.now c.pass.new.self at c.args.byte c.step-word.result (c.pass.ensures.same.1 ∙ taken)
    c.pass.result
    (subst (λ x. IsTokenStep at.begun c.args.byte x c.step-word.result) (sym c.pass.ensures.same.0) step)
    (subst₂ (λ (k : RecordCounts) n. IsWordHeard on k c.pass.new.self at n c.step-word.result c.pass.result) (ap (λ (z
    : LastingParts _ _). z.counts) same) place heard)

pub returns-in-None-clause-placed : goal.returns-in-None-clause-placed
returns-in-None-clause-placed g c =
    let same = c.count.ensures ∙ ap (λ (z : LastingParts _ _). (record z { taken = z.taken + 1 }))
    c.step-word.ensures.same in
    let passing : c.count.new.self.passing ≡ None = search (rules, c.in-None.is, c.self-2.view_is) in
    let taken : c.count.new.self.taken ≡ c.args.self.now.taken + 1 = ap (λ (z : LastingParts _ _). z.taken) same in
    let place : c.count.new.self.taken - 1 ≡ c.args.self.now.taken = omega (arith, taken) in
    subst₂ (λ (z : LastingParts _ _) n. IsRefusalPlacedSo z n c.read.new.self c.read.result) same place
    (c.read.ensures.placed passing)

pub returns-in-Some-clause-placed : goal.returns-in-Some-clause-placed
returns-in-Some-clause-placed g c =
    let same = c.count.ensures ∙ ap (λ (z : LastingParts _ _). (record z { taken = z.taken + 1 }))
    c.step-word.ensures.same in
    let passing : c.count.new.self.passing ≡ Some c.in-Some.why = search (rules, c.in-Some.is, c.self-2.view_is) in
    let taken : c.count.new.self.taken ≡ c.args.self.now.taken + 1 = ap (λ (z : LastingParts _ _). z.taken) same in
    let place : c.count.new.self.taken - 1 ≡ c.args.self.now.taken = omega (arith, taken) in
    subst₂ (λ (z : LastingParts _ _) n. IsRefusalPlacedSo z n c.pass.new.self c.pass.result) same place
    (c.pass.ensures.placed passing)
