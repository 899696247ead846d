use Rattle.ws_lasting.proofs.lasting.LastingStation.is_silent.Goals as goal

pub returns-in-Ok-clause-silent : goal.returns-in-Ok-clause-silent
returns-in-Ok-clause-silent g c = λ yes. (
  c.in-Ok.step,
  c.in-Ok.is,
  (c.is_quiet.ensures.silent yes).0,
  (c.is_quiet.ensures.silent yes).1,
)
