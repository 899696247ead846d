use Rattle.ws_printing.proofs.ScriptWords.{split_at_blank}
use Rattle.ws_any_host.proofs.any_line.split_word.Goals as goal

pub returns : goal.returns
returns c = split_at_blank c.args.text.now c.split_once.result c.split_once.ensures.cases
