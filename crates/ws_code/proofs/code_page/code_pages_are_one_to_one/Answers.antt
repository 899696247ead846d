use Rattle.ws_code.proofs.PageLaws.{one_to_one}
use Rattle.ws_code.proofs.code_page.code_pages_are_one_to_one.Goals as goal

pub returns : goal.returns
returns c = one_to_one
