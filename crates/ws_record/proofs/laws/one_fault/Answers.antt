use Rattle.ws_record.proofs.Faults.{one_refused, refused_or_truncated, open_before}
use Rattle.ws_record.proofs.laws.one_fault.Goals as goal

pub returns-clause-refused : goal.returns-clause-refused
returns-clause-refused g c = one_refused g.B.Code.rules g.met.B.Code.prefix_free

pub returns-clause-apart : goal.returns-clause-apart
returns-clause-apart g c = refused_or_truncated g.B.Code.rules

pub returns-clause-open_before : goal.returns-clause-open_before
returns-clause-open_before g c = open_before g.B.Code.rules
