use Rattle.ws_record.proofs.Common.{true, ◌≡◌, sym, ap, ◌∙◌, false, arith, Bool, common_steps}
use Rattle.ws_record.proofs.OpenRecords.{ten_there, end_inside, end_whole}
use Rattle.ws_record.proofs.open_record.OpenRecord.end.Goals as goal
use Rattle.ws_record.proofs.open_record.OpenRecord.end.Goals.{then-self-via-then-self}
use Rattle.ws_record.proofs.open_record.OpenRecord.end.Goals.{then-self-via-else-self+then-not-may_end}

pub returns-then-self : goal.returns-then-self
returns-then-self g c = λ so_far r.
    let reads = rw (← c.self.view_is) at r in
    let stands = c.self.invariant.stands in
    end_inside _ reads (ten_there _ reads (omega (arith, c.len.ensures.value, c.if-len-lt10.false)))
    g.met.B.Code.prefix_free g.met.B.Code.begins (omega (arith, c.if-self-gt0.false))
    (λ e m. elim c.then-self.branch [
      | then-self-via-then-self w ↦ stands.inside (grind (arith, common_steps)) e
      | then-self-via-else-self+then-not-may_end w ↦ (let f : ◌≡◌ {A = Bool} true false =
          sym m ∙ rw (← stands.at_place, ← w.may_end.ensures) w.if-not-may_end.true in cc)
    ])

pub returns : goal.returns
returns g c =
    λ so_far r. let reads = rw (← c.self.view_is) at r in
    let stands = c.self.invariant.stands in
    end_whole _ reads (ten_there _ reads (omega (arith, c.len.ensures.value, c.if-len-lt10.false)))
    g.met.B.Code.begins _ c.head_of-head.result c.in-Some.opcode (omega (arith, c.if-self-gt0.false))
    (stands.between (grind (arith, common_steps)))
    (ap g.B.Code.rules.may_end (sym stands.at_place) ∙ sym c.may_end.ensures ∙ c.if-not-may_end.false)
    (rw (← c.as_slice-header.ensures.value) c.in-Some.ensures.some)
    (rw (← c.as_slice-header.ensures.value) c.head_of-head.ensures) c.clear.ensures
    c.begin_body.ensures.place c.begin_body.ensures.fresh
