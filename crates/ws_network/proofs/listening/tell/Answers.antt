use Rattle.ws_text.proofs.Prints.{whole_out}
use Rattle.ws_network.proofs.listening.tell.Goals as goal

pub returns-in-Open-clause-told : goal.returns-in-Open-clause-told
returns-in-Open-clause-told g c =
    rw c.in-Open.is at (c.hand_on.ensures.out c.args.out.now _ c.requires.empty (whole_out c.put_to-output.ensures))
