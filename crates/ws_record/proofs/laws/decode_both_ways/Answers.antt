use Rattle.ws_record.proofs.Faults.{source_accepts, source_faults, both_ways}
use Rattle.ws_record.proofs.laws.decode_both_ways.Goals as goal

pub returns-clause-source_accepted : goal.returns-clause-source_accepted
returns-clause-source_accepted g c =
    source_accepts g.B.Code.rules c.decode_from-from_source.result (λ v. v.items) _
    _ _ c.new-source.ensures c.decode_from-from_source.ensures.accepted

pub returns-clause-source_fault : goal.returns-clause-source_fault
returns-clause-source_fault g c =
    source_faults g.B.Code.rules c.decode_from-from_source.result _ _ _
    c.new-source.ensures c.requires c.decode_from-from_source.ensures.fault

pub returns-clause-alike : goal.returns-clause-alike
returns-clause-alike g c =
    both_ways g.B.Code.rules g.met.B.Code.prefix_free g.met.B.Code.begins c.decode_all-at_once.result
    c.decode_from-from_source.result (λ v. v.items) c.args.bytes.now c.decode_all-at_once.ensures.accepted
    c.decode_all-at_once.ensures.fault (returns-clause-source_accepted g c) (returns-clause-source_fault g c)
