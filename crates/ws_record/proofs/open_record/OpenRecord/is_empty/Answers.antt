use Rattle.ws_record.proofs.Common.{true, ◌≡◌, take, sym, ap, ◌∙◌, false, eqb-true, Bool, nil_from_length}
use Rattle.ws_record.proofs.OpenRecords.{reads_empty}
use Rattle.ws_record.proofs.open_record.OpenRecord.is_empty.Goals as goal

pub returns : goal.returns
returns g c = λ so_far r.
    let reads = rw (← c.self.view_is) at r in (
      λ e. reads_empty _ g.met.B.Code.prefix_free g.met.B.Code.begins _ _ reads
          (nil_from_length _ (eqb-true _ 0 (sym c.is_empty.ensures ∙ e))),
      λ e f. (let filled : ◌≡◌ {A = Bool} true false =
          rw (reads.header ∙ ap (take 10) f) at (sym c.is_empty.ensures ∙ e) in cc),
    )
