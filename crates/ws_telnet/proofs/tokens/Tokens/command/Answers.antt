use Rattle.std.proofs.Common.{◌∷◌, [], ℕ, List, ap}
use Rattle.ws_telnet.proofs.Unfinished.{negotiation_begins}
use Rattle.ws_telnet.proofs.tokens.Tokens.command.Goals as goal

pub returns-in-Some-verb_of : goal.returns-in-Some-verb_of
returns-in-Some-verb_of c =
    let h = c.in-Some-verb_of.ensures.some in
    (ap (λ (n : ℕ). let l : List ℕ = 255 ∷ n ∷ [] in l) h, rw h (negotiation_begins c.in-Some-verb_of.verb _ h))
