-- Readers of records.

use Rattle.std.specs.Prelude.{◌≡◌, ℕ, ◌<◌, List, length}
use Rattle.ws_code.specs.Code.{Rules}
use Rattle.ws_code.specs.Run.{Reading, IsAt}
use Rattle.ws_code.specs.declared.run.Standing.{Standing}
use Rattle.ws_record.specs.HeaderSoFar.{HeaderSoFar}

-- What holds of every reader of a record: its header is right so far, bytes are left only after a whole one, and it
-- knows where the unit stands that is read.
pub record IsReady {Place U : Type 0} (rules : Rules Place U) (header : List ℕ) (left : ℕ) (reading : Reading Place)
    (standing : Standing Place) : Type 0 where
  pub right : HeaderSoFar header
  pub behind : 0 < left → length header ≡ 10
  pub stands : IsAt rules reading standing
