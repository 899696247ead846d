use Rattle.ws_end.proofs.Common.{rules}
use Rattle.ws_code.specs.Device.{on_devices}
use Rattle.ws_end.proofs.EndRequests.{request_led}
use Rattle.ws_end.proofs.attached.Attached.act.Goals as goal

pub returns-in_default : goal.returns-in_default
returns-in_default g c = record {
  done = request_led g.E.End.behaviour (on_devices g.K.Sink.writer g.S.Source.reader) c.args.self.now _ _ c.self.view_is
      c.args.request.now _ c.in-Ok.ensures.done (rw c.as_slice.ensures at c.in_default.ensures.ok);
  refused = tt;
  reported = tt;
  taken = rw (← c.self.view_is) c.in-Ok.ensures.taken;
  wanting = search rules;
  fault = λ works. tt;
  waiting = search rules;
  source = search rules;
  broken = search rules;
  works = search rules;
}
