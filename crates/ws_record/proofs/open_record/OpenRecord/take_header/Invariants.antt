use Rattle.ws_record.proofs.Common.{◌≡◌, ◌++◌, take, ◌<◌, length, RecordSoFar, HasRead}
use Rattle.ws_record.proofs.open_record.OpenRecord.take_header.Given as goal

abbrev pub invariant-loop-index : goal.invariant-loop-index
invariant-loop-index g l = (l.self.left ≡ 0) × (0 < l.index → length l.self.header < 10)
    × ((so_far : RecordSoFar g.row.B-Unit.Denot) → HasRead g.B.Code.rules l.fn.self so_far
    → HasRead g.B.Code.rules l.self
    (record so_far { bytes = so_far.bytes ++ take l.index l.values }))
