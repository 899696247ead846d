use Rattle.ws_keys.proofs.ArrowLaws.{led_to}
use Rattle.ws_keys.proofs.StrokeLaws.{eof_erased, eof_refused, field_emptied}
use Rattle.ws_keys.proofs.laws.strokes_lead.Goals as goal

pub returns-clause-to : goal.returns-clause-to
returns-clause-to c = led_to

pub returns-clause-erased : goal.returns-clause-erased
returns-clause-erased c = eof_erased

pub returns-clause-protected : goal.returns-clause-protected
returns-clause-protected c = eof_refused

pub returns-clause-emptied : goal.returns-clause-emptied
returns-clause-emptied c = field_emptied
