-- What crosses a line: what its sink takes is to be read at its source.

use Rattle.std.specs.Prelude.{◌≡◌, ℕ, ◌+◌, ◌≤◌, List, [], ◌∷◌, ◌++◌, length, take, drop, flat_map}
use Rattle.std.specs.List.{AllByRecursion}
use Rattle.ws_code.specs.declared.fault.Fault.{Fault}
use Rattle.ws_code.specs.Device.{Devices}
use Rattle.ws_session.specs.declared.world.line.Line.{Line}
use Rattle.ws_session.specs.world.Carrying.{passage, IsCarried, IsCarryFault}

-- a piece of a stream: the bytes that went into the sink, and as many that the source gave next
pub record Crossing : Type 0 where
  pub sent : List ℕ
  pub read : List ℕ

-- what came out of the line is what went into it, piece by piece
abbrev pub AreFaithful : List Crossing → Type 0
AreFaithful crossings = AllByRecursion (λ (c : Crossing). c.read ≡ c.sent) crossings

-- all that went into the line, in order
abbrev pub all_sent : List Crossing → List ℕ
all_sent crossings = flat_map (λ (c : Crossing). c.sent) crossings

-- all that came out of it, in order
abbrev pub all_read : List Crossing → List ℕ
all_read crossings = flat_map (λ (c : Crossing). c.read) crossings

-- a piece in the place of as many bytes
abbrev pub with_piece_at : List ℕ → ℕ → List ℕ → List ℕ
with_piece_at bytes at piece = take at bytes ++ (piece ++ drop (at + length piece) bytes)

module _ {S R : Type 0} (devices : Devices R S) where
  -- the pieces, each of at most 4,096 bytes, crossed the line one after another
  abbrev pub HaveCrossed : Line S R → List Crossing → Line S R → Type 0
  HaveCrossed from [] to = from ≡ to
  HaveCrossed from (c ∷ crossings) to = (next : Line S R)
      × IsCarried (passage devices from next) c.sent c.read × (length c.sent ≤ 4096)
      × HaveCrossed next crossings to

  -- some pieces crossed the line, and the next one did not, for this fault
  pub record IsStopped (from to : Line S R) (fault : Fault) : Type 0 where
    pub crossings : List Crossing
    pub last : Line S R
    pub crossed : HaveCrossed from crossings last
    pub bytes : List ℕ
    pub slice : List ℕ
    pub failed : IsCarryFault (passage devices last to) bytes slice fault
