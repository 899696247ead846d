use Rattle.ws_text.proofs.Prints.{prints_both, prints_same}
use Rattle.ws_text.proofs.extended_text.ExtendedAnswerPartLined.put_line.Goals as goal

pub returns-in-QueryReply : goal.returns-in-QueryReply
returns-in-QueryReply g c = rw c.in-QueryReply.is
    (prints_both c.put_text-output.ensures (prints_same c.front.ensures c.put_text.ensures))

pub returns-in-AtOnce : goal.returns-in-AtOnce
returns-in-AtOnce g c = rw c.in-AtOnce.is c.put_place.ensures
