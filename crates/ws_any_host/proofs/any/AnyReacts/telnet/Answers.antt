use Rattle.std.proofs.Common.{ap, ◌∙◌}
use Rattle.ws_any_host.specs.AnyOptions.{any_answer}
use Rattle.ws_any_host.specs.AnyEndState.{any_ready}
use Rattle.ws_any_host.specs.contracts.any.Any.{the_view}
use Rattle.ws_any_host.proofs.AnySteps.{negotiated}
use Rattle.ws_any_host.proofs.any.AnyReacts.telnet.Goals as goal

pub returns-in-Ok-clause-reacted : goal.returns-in-Ok-clause-reacted
returns-in-Ok-clause-reacted c =
    let old = the_view c.self.inside in
    rw (← c.self.view_is) (λ items state h. rw (← h) (negotiated old c.answer.new.self items
    (any_answer old c.args.token.now) c.in-Ok.reply c.ready.result c.in-Ok.ensures.answer
    (c.ready.ensures ∙ ap (λ b. any_ready b c.answer.new.self) c.records_allowed-was_allowed.ensures)))
