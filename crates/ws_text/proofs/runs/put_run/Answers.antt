use Rattle.std.proofs.Common.{◌∙◌}
use Rattle.ws_text.proofs.BytesRead.{run_begun, run_more_by, next_of_run, whole_run}
use Rattle.ws_text.proofs.PartialRecords.{byte_put, byte_not_put, first_not_put}
use Rattle.ws_text.proofs.LineWords.{is_nil_by, not_nil_by}
use Rattle.ws_text.proofs.runs.put_run.Goals as goal

pub returns-then-not-put_first : goal.returns-then-not-put_first
returns-then-not-put_first g c = first_not_put g.B.Code.rules g.B.Worded.wording g.met.B.Worded.one_by_one c.args.run
    c.args.hex.now c.args.begun.now c.put_first.new.begun c.if-not-put_first.ensures

pub loop-rest-init : goal.loop-rest-init
loop-rest-init g c =
    let h = c.if-not-put_first.ensures in
    let so = run_begun g.B.Worded.wording c.args.run c.args.hex.now c.as_bytes-rest.result.now h.0
    c.as_bytes-rest.ensures.value h.1 in
    record { units = h.0; so = so; put = h.2 }

pub returns-then-not-put_byte : goal.returns-then-not-put_byte
returns-then-not-put_byte g c = λ r all is are.
    byte_not_put g.B.Code.rules g.B.Worded.wording g.met.B.Worded.one_by_one c.args.run c.put_byte.new.begun _
    c.loop-rest.invariant c.if-not-put_byte.ensures all
    (next_of_run g.B.Worded.wording c.args.run c.args.hex.now c.loop-rest.rest.now _
    (not_nil_by c.loop-rest.rest.now _ c.is_empty-in-loop-rest.ensures c.loop-rest-test.true)
    c.first_byte-byte.ensures.byte c.loop-rest.invariant.so are) r is

pub loop-rest-preserved : goal.loop-rest-preserved
loop-rest-preserved g c =
    byte_put g.B.Code.rules g.B.Worded.wording g.met.B.Worded.one_by_one c.args.run _ c.loop-rest.invariant
    c.if-not-put_byte.ensures
    (λ b read. run_more_by g.B.Worded.wording c.args.run _ b c.loop-rest.invariant.so c.first_byte-byte.ensures.byte
    read c.first_byte-byte.ensures.behind)

pub returns : goal.returns
returns g c =
    let so_far = c.loop-rest.invariant in
    let some = not_nil_by c.as_bytes-rest.result.now _ c.is_empty.ensures c.if-is_empty.false in
    let none = is_nil_by c.loop-rest.rest.now _ c.is_empty-in-loop-rest.ensures c.loop-rest-test.false in
    let run = whole_run g.B.Worded.wording c.args.run (λ e. some (c.as_bytes-rest.ensures.value ∙ e)) none so_far.so in
    (so_far.units, run, so_far.put)
