use Rattle.ws_text.proofs.Common.{◌∙◌, ap, refl, sym, [], length, ◌∷◌, ◌+◌, false≢true}
use Rattle.ws_text.proofs.PartialRecords.{follows_more, no_follow, no_room, settled_unit}
use Rattle.ws_text.proofs.partial_items.put_unit.Goals as goal

pub returns-then-not-may_follow : goal.returns-then-not-may_follow
returns-then-not-may_follow g c = λ r units is e can.
    no_follow g.B.Code.rules c.args.begun.now r c.settle-unit.result (g.B.Worded.wording.behind r.body units)
    (λ may. false≢true (sym c.if-not-may_follow.true ∙ c.may_follow.ensures ∙ may)) is
    (ap (λ z. g.B.Worded.wording.behind r.body z) e ∙ c.settle-unit.ensures r.body is.follows.leads) can

pub returns-then-size-gt-MOST_BYTES : goal.returns-then-size-gt-MOST_BYTES
returns-then-size-gt-MOST_BYTES g c = λ r units is e can.
    no_room g.B.Code.rules c.args.begun.now r c.settle-unit.result (g.B.Worded.wording.behind r.body units) _
    (ap (λ n. c.args.begun.now.size + n) (c.len.ensures.value ∙ ap length c.spell.ensures))
    c.if-size-gt-MOST_BYTES.true is
    (ap (λ z. g.B.Worded.wording.behind r.body z) e ∙ c.settle-unit.ensures r.body is.follows.leads) can

pub returns : goal.returns
returns g c = (
  c.args.unit ∷ [],
  refl,
  λ r is. settled_unit g.B.Code.rules g.B.Worded.wording r c.args.unit c.settle-unit.result
      (c.settle-unit.ensures r.body is.follows.leads)
      (record {
        flags = is.flags;
        opcode = is.opcode;
        body = c.push.ensures r.body is.body;
        follows = follows_more g.B.Code.rules r.body c.settle-unit.result c.args.begun.now.place _
            c.args.begun.now.size _ is.follows
            (record { is_unit = c.known.ensures; may_follow = sym c.may_follow.ensures ∙ c.if-not-may_follow.false })
            (ap (λ n. c.args.begun.now.size + n) (c.len.ensures.value ∙ ap length c.spell.ensures))
            c.if-size-gt-MOST_BYTES.false c.after-begun.ensures;
      }),
)
