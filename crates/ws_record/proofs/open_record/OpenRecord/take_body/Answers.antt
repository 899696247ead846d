use Rattle.ws_record.proofs.Common.{arith, common_steps}
use Rattle.ws_code.specs.declared.run.End.TheVariants as end
use Rattle.ws_record.proofs.OpenRecords.{reading_of, ready, taken}
use Rattle.ws_record.proofs.open_record.OpenRecord.take_body.Goals as goal

pub returns-in-More-clause-taken : goal.returns-in-More-clause-taken
returns-in-More-clause-taken g c = λ so_far r.
    let y = ready g.B.Code.rules c.args.values.now c.run-used.result.used c.self.view_is r c.self.invariant.behind
    c.requires.some c.requires.room c.run-used.ensures.used (λ i. omega (arith, c.type_inv.values i)) in
    taken _ g.K.Keep.keeper _ _ _ _ _ y g.met.B.Code.prefix_free g.met.B.Code.begins end.More _
    c.run-used.new.at _ c.took.new.self (rw c.in-More.is at c.run-used.ensures.run) c.took.ensures

pub returns-in-Enough-clause-taken : goal.returns-in-Enough-clause-taken
returns-in-Enough-clause-taken g c = λ so_far r.
    let y = ready g.B.Code.rules c.args.values.now c.run-used.result.used c.self.view_is r c.self.invariant.behind
    c.requires.some c.requires.room c.run-used.ensures.used (λ i. omega (arith, c.type_inv.values i)) in
    taken _ g.K.Keep.keeper _ _ _ _ _ y g.met.B.Code.prefix_free g.met.B.Code.begins end.Enough _
    c.run-used.new.at _ c.took.new.self (rw c.in-Enough.is at c.run-used.ensures.run) c.took.ensures

pub returns-in-NoMemory-clause-taken : goal.returns-in-NoMemory-clause-taken
returns-in-NoMemory-clause-taken g c = λ so_far r.
    let y = ready g.B.Code.rules c.args.values.now c.run-used.result.used c.self.view_is r c.self.invariant.behind
    c.requires.some c.requires.room c.run-used.ensures.used (λ i. omega (arith, c.type_inv.values i)) in
    taken _ g.K.Keep.keeper _ _ _ _ _ y g.met.B.Code.prefix_free g.met.B.Code.begins end.NoMemory
    (reading_of c.args.self.now) c.run-used.new.at _ c.took.new.self (rw c.in-NoMemory.is at c.run-used.ensures.run)
    c.took.ensures

pub returns-in-Bad-clause-taken : goal.returns-in-Bad-clause-taken
returns-in-Bad-clause-taken g c = λ so_far r.
    let y = ready g.B.Code.rules c.args.values.now c.run-used.result.used c.self.view_is r c.self.invariant.behind
    c.requires.some c.requires.room c.run-used.ensures.used (λ i. omega (arith, c.type_inv.values i)) in
    taken _ g.K.Keep.keeper _ _ _ _ _ y g.met.B.Code.prefix_free g.met.B.Code.begins (end.Bad
    c.in-Bad.reason) (reading_of c.args.self.now) c.run-used.new.at _ c.took.new.self (rw c.in-Bad.is at
    c.run-used.ensures.run) c.took.ensures

pub invariant_of-self : goal.invariant_of-self
invariant_of-self g c = grind (arith, common_steps)
