use Rattle.std.proofs.lemmas.Result.{err_from_is_err_and}
use Rattle.ws_extended_station.proofs.carrying_out.apply_spelled.Goals as goal

pub returns-in_err-front : goal.returns-in_err-front
returns-in_err-front c =
    let p = err_from_is_err_and c.from_residual.result c.from_residual.ensures.1 in
    rw (p.1, p.2) c.in_err-front.ensures.refused

pub returns : goal.returns
returns c = λ state body chain same shows.
    c.apply_rest.ensures state body (c.in_ok-front.ensures.carried state body chain same shows)
