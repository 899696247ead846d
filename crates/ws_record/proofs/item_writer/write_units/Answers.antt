use Rattle.ws_record.proofs.Common.{flat_map, ◌∙◌, take_all, each_fails, each_more, doubled, doubled_each, handed_on}
use Rattle.ws_record.proofs.item_writer.write_units.Goals as goal

pub returns-in_err-write_doubled-clause-err : goal.returns-in_err-write_doubled-clause-err
returns-in_err-write_doubled-clause-err g c =
    rw (handed_on c.from_residual.result c.from_residual.ensures.1) (
      c.in_err-write_doubled.ensures.err.0,
      rw (doubled_each g.B.Code.rules.spelling c.args.units.now) (each_fails _
          (λ (u : g.row.B-Unit.Denot). flat_map doubled (g.B.Code.rules.spelling u)) _ _ _ c.loop-unit-test.true
          c.unit-item.is c.loop-unit.invariant
          (rw (c.as_slice.ensures.value ∙ c.spell.ensures) at c.in_err-write_doubled.ensures.err.1)),
    )

pub loop-unit-preserved : goal.loop-unit-preserved
loop-unit-preserved g c =
    each_more _ (λ (u : g.row.B-Unit.Denot). flat_map doubled (g.B.Code.rules.spelling u)) _ _ _
    c.loop-unit-test.true c.unit-item.is c.loop-unit.invariant
    (rw (c.as_slice.ensures.value ∙ c.spell.ensures) at c.in_ok-write_doubled.ensures.ok)

pub returns-clause-ok : goal.returns-clause-ok
returns-clause-ok g c = rw (doubled_each g.B.Code.rules.spelling c.args.units.now)
    (rw (take_all c.loop-unit.unit-index c.args.units.now c.loop-unit-test.false) at c.loop-unit.invariant)
