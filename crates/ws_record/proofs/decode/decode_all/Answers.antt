use Rattle.ws_record.proofs.Common.{[], refl, arith, handed_on}
use Rattle.ws_record.proofs.Faults.{feed_decodes, only_memory}
use Rattle.ws_record.proofs.Reading.{one_items}
use Rattle.ws_record.proofs.decode.decode_all.Goals as goal

pub returns-in_err-take_all : goal.returns-in_err-take_all
returns-in_err-take_all g c =
    let nothing = rw (← c.new-items.ensures.items) at c.new-receiver.ensures in
    let fault = feed_decodes _ _ _ (c.in_err-take_all.ensures.fault [] nothing (omega arith)) in
    rw (handed_on c.from_residual.result c.from_residual.ensures.1)
    (record { accepted = tt; fault = fault; only = λ items a. only_memory _ _ _ _ a fault })

pub returns-in_err-finish : goal.returns-in_err-finish
returns-in_err-finish g c =
    let nothing = rw (← c.new-items.ensures.items) at c.new-receiver.ensures in
    let cut = c.in_err-finish.ensures.truncated c.args.bytes.now _
    (c.in_ok-take_all.ensures.taken [] nothing (omega arith)) (omega arith) in
    rw (handed_on c.from_residual-in_err-finish.result c.from_residual-in_err-finish.ensures.1, cut.0) (record {
      accepted = tt;
      fault = (refl, cut.1);
      only = λ items a. absurd (cut.1.unfinished items a);
    })

pub returns : goal.returns
returns g c =
    let nothing = rw (← c.new-items.ensures.items) at c.new-receiver.ensures in
    let spelled = c.in_ok-finish.ensures.ok.1 c.args.bytes.now _
    (c.in_ok-take_all.ensures.taken [] nothing (omega arith)) in
    record {
      accepted = spelled;
      fault = tt;
      only = λ items a. one_items _ g.met.B.Code.prefix_free g.met.B.Code.begins spelled a;
    }
