use Rattle.std.proofs.Common.{[]}
use Rattle.ws_extended.proofs.ToldLaws.{saved_fits, saved_whole}
use Rattle.ws_extended.proofs.telling.saved.saved_bytes.Goals as goal

pub returns-clause-bytes : goal.returns-clause-bytes
returns-clause-bytes c = saved_whole c.args.row c.args.screen.now c.put_image.new.keep c.known.ensures.legal
    (c.in-Ok.ensures.kept [] [] (λ _. c.new-saved.ensures))

pub returns-clause-fits : goal.returns-clause-fits
returns-clause-fits c = saved_fits c.args.row c.args.screen.now c.put_image.new.keep c.known.ensures.legal
    (c.in-Ok.ensures.kept [] [] (λ _. c.new-saved.ensures))
