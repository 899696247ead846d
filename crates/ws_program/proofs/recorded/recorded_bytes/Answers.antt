use Rattle.std.proofs.Common.{◌≡◌, [], arith}
use Rattle.std.proofs.lemmas.Grind.{common_steps}
use Rattle.ws_program.specs.Recorded.{IsPieceLine}
use Rattle.ws_program.proofs.Recordings.{sent_more, some_sent}
use Rattle.ws_program.proofs.recorded.recorded_bytes.Goals as goal

pub loop-rest-preserved : goal.loop-rest-preserved
loop-rest-preserved c =
    let piece = c.in-Some.piece in
    let got = c.in-Some.ensures in
    let line : IsPieceLine c.first_line.result.0.now piece.sender got.3.0 = record {
      milliseconds = got.0;
      hex = piece.hex.now;
      time = got.1;
      said = got.2;
      spelled = got.3.1;
    } in
    sent_more c.args.end c.args.text.now c.loop-rest.rest.now c.first_line.result.1.now c.first_line.result.0.now
    c.loop-rest.number c.loop-rest.is_whole c.add_piece-is_whole.result c.loop-rest.sent.items c.add_piece-is_whole.new.sent.items
    piece.sender got.3.0 c.loop-rest.invariant c.first_line.ensures.line c.first_line.ensures.shorter line
    (λ h. c.add_piece-is_whole.ensures h got.3.0 got.3.1)

pub returns-else-is_whole-clause-fault : goal.returns-else-is_whole-clause-fault
returns-else-is_whole-clause-fault c =
    let none : c.loop-rest.rest.now ≡ [] = grind (arith, common_steps) in
    some_sent c.args.end c.args.text.now c.loop-rest.rest.now c.loop-rest.number c.loop-rest.is_whole
    c.loop-rest.sent.items c.loop-rest.invariant none
