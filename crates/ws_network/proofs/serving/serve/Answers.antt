use Rattle.std.specs.Option.{is_some}
use Rattle.std.proofs.lemmas.Result.{IfOk-weaker}
use Rattle.ws_network.specs.SessionPrinting.{AreScripted}
use Rattle.ws_network.proofs.SessionPrinted.{judged, served_well}
use Rattle.ws_network.proofs.serving.serve.Goals as goal

pub returns-clause-served : goal.returns-clause-served
returns-clause-served g c =
    let at = g.L.HostedLine.served in
    let carried = c.carry_at_host-outcome in
    judged _ _ carried.result _ (IfOk-weaker carried.result _ _ (λ all_well ran. (
      ran.0,
      ran.1,
      ran.2,
      record {
        host = c.open-host.result.0;
        opened = c.open-host.ensures.opened;
        sink = c.write_whole.new.sink;
        told = rw (c.new-sink.ensures, c.as_slice.ensures.value, c.open-host.ensures.told)
            at (rw c.in_default.is at c.write_whole.ensures.ok);
        to = carried.new.session;
        ran = rw (c.new-session.ensures, c.new-attached.ensures, c.new-source.ensures, c.new.ensures) at ran.3;
      },
      ran.4,
    )) (served_well at.runs c.args.asked.now.settings g.O.Sink.writer c.new-session.result carried.new.session
    (is_some c.args.script) c.args.out.now.sink carried.new.out.sink (AreScripted g.L.LiveLine.language c.args.asked.now.settings.ready c.args.script) at.await_next
    carried.result carried.ensures.printed)) c.judge-2.ensures
