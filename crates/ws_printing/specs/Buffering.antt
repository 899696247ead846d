-- A sink after a buffer: what the buffer holds hasn't gone out yet.

use Rattle.std.specs.Prelude.{◌≡◌, ℕ, List, [], ◌++◌, take, None, Some}
use Rattle.ws_code.specs.Device.{MayTake, Writer, WentOut, FailedWithin}

-- the sink, the bytes that are held back before it, and how often they couldn't be handed on
pub record Buffering (S : Type 0) : Type 0 where
  pub sink : S
  pub held : List ℕ
  pub failures : ℕ

-- A write takes some bytes, of some: the first of what was held and came are out, and the rest is held. It fails where
-- what was held doesn't go out, which is dropped.
abbrev pub buffered_takes : {S : Type 0} → Writer S → MayTake (Buffering S)
buffered_takes writer b bytes (Some count) b' = (out : List ℕ) × WentOut writer b.sink b'.sink out
    × (b.held ++ take count bytes ≡ out ++ b'.held) × (count ≡ 0 → bytes ≡ [])
buffered_takes writer b bytes None b' = FailedWithin writer b.sink b'.sink b.held × (b'.held ≡ [])

-- what a sink after a buffer does
abbrev pub buffered_writer : {S : Type 0} → Writer S → Writer (Buffering S)
buffered_writer writer = record { takes = buffered_takes writer; failures = λ b. b.failures }
