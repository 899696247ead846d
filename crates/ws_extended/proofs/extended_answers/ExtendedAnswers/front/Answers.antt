use Rattle.std.proofs.Common.{◌≡◌, ℕ, ap, ◌∙◌, arith, get_or, refl, take}
use Rattle.ws_extended.specs.ExtendedAnswerMachine.{reply_place}
use Rattle.ws_extended.specs.QueryReply.{reply_head}
use Rattle.ws_extended.proofs.AnswerSteps.{below, front_goes_on, part_more}
use Rattle.ws_extended.proofs.extended_answers.ExtendedAnswers.front.Goals as goal

pub returns : goal.returns
returns c =
    let next : c.args.byte ≡ get_or reply_head c.args.count 0 =
    c.if-byte-from.false ∙ ap (λ (n : ℕ). get_or reply_head n 0) c.from.ensures in
    let more : _ = front_goes_on c.args.again c.args.count c.args.byte
    (omega (arith, below c.args.again c.args.count c.requires, c.if-count-eq7.false)) next in
    part_more (take c.args.count reply_head) c.args.byte (reply_place c.args.again) _ _ _ _ _
    c.wait_for.ensures.more c.wait_for.ensures.waits refl more.0 more.1
