use Rattle.ws_record.proofs.Common.{refl, sym, ◌∙◌, Ok, Err, append-nil, handed_on}
use Rattle.ws_record.proofs.Lives.{made_one}
use Rattle.ws_record.proofs.Receivers.{receives, item_given, front_takes}
use Rattle.ws_record.proofs.receiver.Receiver.take.Goals as goal

pub returns-then-goes_on-clause-taken : goal.returns-then-goes_on-clause-taken
returns-then-goes_on-clause-taken g c = λ bytes items t fits.
    let was = rw (← c.self.view_is) at t in
    rw (append-nil items) (receives _ c.advance-news.result.news refl (sym c.goes_on.ensures ∙ c.if-goes_on.true)
    (made_one _ c.args.byte c.advance-news.ensures was.leads.1 fits))

pub returns-clause-taken : goal.returns-clause-taken
returns-clause-taken g c = λ bytes items t fits.
    let was = rw (← c.self.view_is) at t in
    item_given g.B.Code.rules _ c.advance-news.result.news (Ok c.in_ok-item_of.field-0) refl
    (sym c.goes_on.ensures ∙ c.if-goes_on.false) (made_one _ c.args.byte c.advance-news.ensures was.leads.1 fits)
    c.in_ok-item_of.ensures.item

pub returns-in_err-item_of-clause-fault : goal.returns-in_err-item_of-clause-fault
returns-in_err-item_of-clause-fault g c =
    rw (handed_on c.from_residual.result c.from_residual.ensures.1) (λ bytes items t fits.
    let was = rw (← c.self.view_is) at t in
    front_takes g.B.Code.rules _ _ _ _ (item_given _ c.item_of.new.self c.advance-news.result.news
    (Err c.in_err-item_of.field-0.0) refl (sym c.goes_on.ensures ∙ c.if-goes_on.false)
    (made_one _ c.args.byte c.advance-news.ensures was.leads.1 fits) c.in_err-item_of.ensures.item))
