use Rattle.ws_record.proofs.Common.{IsDoubling}
use Rattle.ws_record.proofs.record_writer.write_doubled.Given as goal

abbrev pub invariant-loop-at : goal.invariant-loop-at
invariant-loop-at g l = IsDoubling g.S.Sink.writer l.fn.sink l.sink l.bytes l.start l.at
