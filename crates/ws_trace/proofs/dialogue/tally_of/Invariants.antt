use Rattle.ws_trace.proofs.Common.{◌≡◌, ◌≤◌, take, end_records, end_refusals}
use Rattle.ws_trace.proofs.dialogue.tally_of.Given as goal

-- what is counted of the entries so far
abbrev pub invariant-loop-entry : goal.invariant-loop-entry
invariant-loop-entry l = (l.records ≡ end_records l.end (take l.entry-index l.entries))
    × (l.refusals ≡ end_refusals l.end (take l.entry-index l.entries))
    × (l.records ≤ l.entry-index) × (l.refusals ≤ l.entry-index)
