use Rattle.std.proofs.Common.{refl, inl, inr}
use Rattle.ws_network.proofs.timed_source.is_want_of_time.Goals as goal

pub returns-in-WouldBlock : goal.returns-in-WouldBlock
returns-in-WouldBlock g = elim g.in-WouldBlock.is [
  | inl h ↦ rw h refl
  | inr h ↦ rw h refl
]
