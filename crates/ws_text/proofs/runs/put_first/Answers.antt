use Rattle.ws_text.proofs.Common.{ap, ◌≡◌, [], behind_first}
use Rattle.ws_text.proofs.PartialRecords.{put_none}
use Rattle.ws_text.proofs.runs.put_first.Goals as goal

pub returns-in-Some : goal.returns-in-Some
returns-in-Some g c = rw (← c.in-Some.ensures) c.put_unit.ensures

pub returns-in-None : goal.returns-in-None
returns-in-None g c =
    let w = g.B.Worded.wording in
    let p = put_none g.B.Code.rules w g.met.B.Worded.one_by_one (λ us. us ≡ behind_first (w.first c.args.run) [])
    c.args.begun.now (ap (λ z. behind_first z []) c.in-None.ensures) in
    (p.units, p.so, p.put)
