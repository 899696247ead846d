use Rattle.ws_record.proofs.Common.{refl, sub_of}
use Rattle.ws_record.proofs.live.Live.telnet.Goals as goal

pub returns-then-is_inside-clause-kept : goal.returns-then-is_inside-clause-kept
returns-then-is_inside-clause-kept g c = (c.args.self.now.sub, refl)

pub returns-clause-kept : goal.returns-clause-kept
returns-clause-kept g c = (
  sub_of c.telnet.new.self,
  rw (← c.self.view_is, c.telnet.ensures.between, c.is_inside.ensures.no c.if-is_inside.false),
)
