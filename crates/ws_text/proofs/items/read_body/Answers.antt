use Rattle.std.proofs.Common.{◌∙◌, refl, []}
use Rattle.ws_text.proofs.LinesRead.{body_goes_on, bad_body, whole_body, none_so_far}
use Rattle.ws_text.proofs.LineWords.{is_nil_by}
use Rattle.ws_text.proofs.items.read_body.Goals as goal

pub loop-rest-init : goal.loop-rest-init
loop-rest-init g c = none_so_far c.begin-begun.result c.args.text.now [] c.begin-begun.ensures refl

pub loop-rest-preserved : goal.loop-rest-preserved
loop-rest-preserved g c =
    body_goes_on g.B.Code.rules g.B.Worded.wording c.args.opcode c.loop-rest.invariant
    c.first_line.ensures.line c.first_line.ensures.shorter c.if-not-put_line.ensures

pub returns-then-not-put_line-clause-fault : goal.returns-then-not-put_line-clause-fault
returns-then-not-put_line-clause-fault g c =
    bad_body g.B.Code.rules g.B.Worded.wording c.args.opcode c.put_line.new.begun c.loop-rest.invariant
    c.first_line.ensures.line c.if-not-put_line.ensures

pub returns-in-Some-clause-ok : goal.returns-in-Some-clause-ok
returns-in-Some-clause-ok g c =
    let so = c.loop-rest.invariant in
    rw (c.of.ensures ∙ c.in-Some.ensures so.made so.is.body)
    (whole_body g.B.Code.rules g.B.Worded.wording c.args.opcode so
    (is_nil_by c.loop-rest.rest.now _ c.is_empty.ensures c.loop-rest-test.false))

pub returns-in-None-clause-fault : goal.returns-in-None-clause-fault
returns-in-None-clause-fault g c = (
  _,
  whole_body g.B.Code.rules g.B.Worded.wording c.args.opcode c.loop-rest.invariant
      (is_nil_by c.loop-rest.rest.now _ c.is_empty.ensures c.loop-rest-test.false),
)
