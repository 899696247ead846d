use Rattle.std.proofs.lemmas.Result.{IfOk-weaker}
use Rattle.ws_code.proofs.DeviceLaws.{went_out_both}
use Rattle.ws_network.proofs.serving.serve_one.Goals as goal

pub returns : goal.returns
returns g c =
    let told = c.in_ok-listener.ensures.told in
    IfOk-weaker c.serve.result _ _ (λ all_well came.
    (came.0, told.0, came.1, came.2, came.3, went_out_both _ _ _ _ _ _ told.1 came.4)) c.serve.ensures.served
