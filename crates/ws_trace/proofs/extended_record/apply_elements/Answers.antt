use Rattle.ws_record.proofs.Common.{handed_on}
use Rattle.ws_trace.proofs.ExtendedRecords.{all_carried, carried_none, carried_one, finds_open, refused_first}
use Rattle.ws_trace.proofs.extended_record.apply_elements.Goals as goal

pub loop-element-init : goal.loop-element-init
loop-element-init c = carried_none c.args.display.now c.args.elements.now c.requires.chain c.requires.closed

pub apply-requires : goal.apply-requires
apply-requires c =
    let l = c.loop-element in
    finds_open c.args.display.now l.display c.args.elements.now l.element-index c.element-item.result
    c.loop-element-test.true c.element-item.is l.invariant

pub returns-in_err-apply-clause-fault : goal.returns-in_err-apply-clause-fault
returns-in_err-apply-clause-fault c =
    let l = c.loop-element in
    rw (handed_on c.from_residual.result c.from_residual.ensures.1)
    (refused_first c.args.display.now l.display c.args.elements.now l.element-index c.element-item.result
    c.loop-element-test.true c.element-item.is l.invariant c.in_err-apply.field-0.0 c.in_err-apply.ensures.fault)

pub loop-element-preserved : goal.loop-element-preserved
loop-element-preserved c =
    let l = c.loop-element in
    carried_one c.args.display.now l.display c.args.elements.now l.element-index c.element-item.result
    c.loop-element-test.true c.element-item.is l.invariant c.apply.new.self c.in_ok-apply.ensures.fault
    c.in_ok-apply.ensures.after c.in_ok-apply.ensures.open_

pub returns-clause-fault : goal.returns-clause-fault
returns-clause-fault c = λ state shows.
    let l = c.loop-element in
    (all_carried c.args.display.now l.display c.args.elements.now l.element-index c.loop-element-test.false l.invariant
    state shows).0

pub returns-clause-after : goal.returns-clause-after
returns-clause-after c = λ state shows.
    let l = c.loop-element in
    (all_carried c.args.display.now l.display c.args.elements.now l.element-index c.loop-element-test.false l.invariant
    state shows).1
