use Rattle.ws_end.proofs.Common.{rules, [], ◌∷◌, Did}
use Rattle.ws_end.proofs.EndRequests.{refused_then, unmoved}
use Rattle.ws_end.proofs.attached.Attached.press.Goals as goal
use Rattle.ws_end.proofs.attached.Attachings.{has_led}

pub returns-in-Ok : goal.returns-in-Ok
returns-in-Ok g c = record {
  done = has_led _ _ c.args.self.now _ _ c.self.view_is (Did _ ∷ []) [] c.in-Ok.ensures.pressed;
  refused = refused_then c.in-Ok.acted c.in-Ok.ensures.refused
      (λ fault same. unmoved _ _ c.self.view_is _ _ same.0 same.1);
  reported = rw (← c.self.view_is) c.in-Ok.ensures.reported;
  taken = rw (← c.self.view_is) c.in-Ok.ensures.taken;
  wanting = search rules;
  fault = λ works. tt;
  waiting = search rules;
  source = search rules;
  broken = search rules;
  works = search rules;
}
