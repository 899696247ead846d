use Rattle.ws_identity.proofs.Plain.{page_plain}
use Rattle.ws_identity.proofs.telling.push_page.Goals as goal

pub returns-clause-plain : goal.returns-clause-plain
returns-clause-plain c = page_plain c.args.identity.now c.keyboard_type.result.now c.keyboard_type.ensures.value
    c.keyboard_type.ensures.legal
