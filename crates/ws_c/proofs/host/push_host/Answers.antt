use Rattle.std.proofs.Common.{Option, true, ap}
use Rattle.ws_keys.specs.declared.host_answer.HostAnswer.{HostAnswer}
use Rattle.ws_end.specs.host_end.HostReached.{host_driving}
use Rattle.ws_c.specs.Calls.{crossed}
use Rattle.ws_c.specs.declared.host.HeldHost.{HeldHost}
use Rattle.ws_c.proofs.HeldLaws.{stays_none}
use Rattle.ws_c.proofs.host.push_host.Goals as goal

pub returns : goal.returns
returns c =
    let p = c.push_all-status in
    let host : HeldHost = c.args.host.now in
    record {
      event = p.result.1;
      pushed = p.ensures;
      brief = stays_none host_driving true p.result.1 c.args.bytes.now
          (crossed c.args.buffer.now p.new.buffer p.result.0 p.new.told) host.held p.new.held p.ensures
          c.as_slice-brief.ensures.fits;
      event_is = c.tell_event.ensures.told;
      same = ap (λ (a : Option HostAnswer). record host { held = p.new.held; answer = a }) c.tell_event.ensures.kept;
    }
