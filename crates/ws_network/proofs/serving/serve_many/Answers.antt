use Rattle.std.proofs.Common.{◌≡◌, ◌&&◌, suc, ◌+◌, ◌++◌, refl, sym, subst, arith, append_assoc}
use Rattle.ws_code.proofs.DeviceLaws.{went_out_both}
use Rattle.ws_live.specs.live.LiveText.{account}
use Rattle.ws_network.specs.Listening.{listening_line}
use Rattle.ws_network.specs.ManySessions.{AreMany, session_line}
use Rattle.ws_network.specs.Sessions.{IsServed}
use Rattle.ws_network.proofs.serving.serve_many.Goals as goal

pub loop-number-preserved : goal.loop-number-preserved
loop-number-preserved g c =
    let so_far = c.loop-number.invariant in
    let number = c.loop-number.number in
    let came = c.in_ok-is_well.ensures.served in
    let line = session_line number in
    let next : number + 1 ≡ suc number = omega arith in
    let old = c.args.out.now.sink in
    let new = c.serve.new.out.sink in (
      so_far.0,
      so_far.1 ++ (line ++ came.1),
      subst (λ n. AreMany (IsServed g.L.HostedLine.served c.args.asked.now c.args.script.now) n
          (account (c.loop-number.all_well && c.in_ok-is_well.is_well) (so_far.1 ++ (line ++ came.1)))) (sym next) (
            account c.loop-number.all_well so_far.1,
            account c.in_ok-is_well.is_well came.1,
            so_far.2,
            rw came.2 at came.3,
            refl,
            refl,
          ),
      rw (← append_assoc (listening_line so_far.0) so_far.1 (line ++ came.1)) (went_out_both g.O.Sink.writer old c.loop-number.out.sink
          new (listening_line so_far.0 ++ so_far.1) (line ++ came.1) so_far.3 (went_out_both g.O.Sink.writer c.loop-number.out.sink
          c.put_session.new.out.sink new line came.1 c.in_ok-put_session.ensures.told came.4)),
      c.in_ok-is_well.ensures.held,
    )
