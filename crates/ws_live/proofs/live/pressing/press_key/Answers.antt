use Rattle.std.proofs.Common.{inl}
use Rattle.ws_live.proofs.live.pressing.press_key.Goals as goal

pub returns-in-Ok-Done-clause-comes : goal.returns-in-Ok-Done-clause-comes
returns-in-Ok-Done-clause-comes g c =
    let typed = rw c.end-2.ensures at c.typed-typed.ensures in
    let follows = rw c.end.ensures at c.following-next.ensures in
    rw (← typed, ← follows) (inl (
      c.press.new.self,
      rw c.in-Ok-Done.field-0-is at c.in-Ok-Done.ensures,
      c.press_next.ensures.follows,
    ))
