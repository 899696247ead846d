use Rattle.ws_printing.proofs.Common.{inr}
use Rattle.ws_printing.proofs.CheckLemmas.{line_printed}
use Rattle.ws_printing.proofs.check.check_from.Goals as goal

pub returns : goal.returns
returns g c =
    let found = c.in_ok-verdict.ensures.given in
    inr (
      found.0,
      found.1,
      line_printed g.S.Sink.writer c.args.sink.now c.write_to.new.sink g.B.Code.rules found.0 c.in_ok-verdict.verdict
          found.2 c.in_ok-verdict.size found.3 c.write_to.result c.write_to.ensures.printed c.write_to.ensures.fault,
    )
