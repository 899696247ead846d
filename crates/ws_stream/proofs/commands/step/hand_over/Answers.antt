use Rattle.ws_stream.proofs.commands.step.hand_over.Goals as goal

pub returns-in-GoOn : goal.returns-in-GoOn
returns-in-GoOn g c = λ machine behind. record {
  keeps = c.in-GoOn.ensures.kept;
  answer = c.in-GoOn.ensures.answer;
  behind = behind;
}

pub returns-in-Enough : goal.returns-in-Enough
returns-in-Enough g c = λ machine behind. record {
  keeps = c.in-Enough.ensures.kept;
  answer = c.in-Enough.ensures.answer;
  behind = behind;
}

pub returns-in-NoMemory : goal.returns-in-NoMemory
returns-in-NoMemory g c = λ machine behind. record {
  keeps = c.in-NoMemory.ensures.kept;
  answer = c.in-NoMemory.ensures.answer;
  behind = behind;
}
