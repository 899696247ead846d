-- Handles: what C holds of ours, and may give back.

use Rattle.std.specs.Prelude.{Option, Some, None}
use base.Fml.{Fml, ftrue}
use denote.RattleType.{RattleType}
use denote.RawPtr.{Ptr}
use Rattle.std.specs.Box.Ownership.{box_owns}
use Rattle.std.specs.declared.alloc.Global.{Global}
use Rattle.std.specs.contracts.impls.GlobalAllocator.TheImpl.{ghosts}

-- What a handle owns: the box at its pointer, with the right to free it, where it holds one.
abbrev pub owned : Global → (R : RattleType) → Ptr → Option R.Denot → Fml
owned heap R at None = ftrue
owned heap R at (Some x) = box_owns (ghosts.dealloc_token heap) R at x
