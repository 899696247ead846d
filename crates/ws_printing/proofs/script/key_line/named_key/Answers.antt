use Rattle.ws_printing.proofs.Common.{◌∷◌, [], refl, sym, ◌∙◌, handed_on, AreNamed}
use Rattle.ws_printing.proofs.Scripts.{only_memory}
use Rattle.ws_printing.proofs.script.key_line.named_key.Goals as goal

pub returns-in_err-add-clause-fault : goal.returns-in_err-add-clause-fault
returns-in_err-add-clause-fault g c =
    let key = c.in-Some.key in
    rw (handed_on c.from_residual.result c.from_residual.ensures.1) (only_memory (AreNamed g.Q.NamedKey.words c.args.name.now) _ c.in_err-add.ensures.fault
    (key ∷ [], (key, sym c.named.ensures ∙ c.in-Some.is, refl)))
