use Rattle.ws_end.proofs.Common.{◌≡◌, ◌∙◌, take, drop, ap, arith, length, length-drop, length-take-le}
use Rattle.ws_end.proofs.attached.waiting.Waiting.is_empty.Goals as goal

pub returns-then-self-clause-some : goal.returns-then-self-clause-some
returns-then-self-clause-some c = λ e h.
    let s = c.self.inside in
    let none : length (drop s.at (take s.till s.piece)) ≡ 0 = ap (λ z. length z) (c.self.view_is ∙ h) in
    omega (
      arith,
      none,
      length-drop s.at (take s.till s.piece),
      length-take-le s.till s.piece c.self.invariant.1,
      c.if-self.true,
    )
