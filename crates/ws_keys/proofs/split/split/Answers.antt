use Rattle.std.proofs.Common.{◌∷◌, ap, ◌∙◌}
use Rattle.ws_keys.proofs.FittingLaws.{fault_known}
use Rattle.ws_keys.proofs.split.split.Goals as goal

pub returns-in-Err-Memory : goal.returns-in-Err-Memory
returns-in-Err-Memory c =
    let rest = c.in-Some.rest.now in
    let parts = c.in-Some.ensures.cases.0 ∙ ap (λ part. part ∷ rest) c.in-Head.is in
    fault_known c.args.kind c.args.screen.now.fields c.args.parts.now rest c.in-Head.cursor c.in-Head.aid
    c.want_of_memory.result parts c.want_of_memory.ensures
