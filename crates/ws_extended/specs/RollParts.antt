-- What a Roll says (SC30-3533, Roll command).
use Rattle.std.specs.Prelude.{ℕ, ◌≤◌, ◌<◌, ◌%◌, Bool, nat_le}
use Rattle.ws_code.specs.declared.address.TheConstants.{ROWS}

-- What a Roll says: which way and by how many rows, in one byte, and the first and the last of the rows that it moves
pub record RollParts : Type 0 where
  pub control : ℕ
  pub top : ℕ
  pub bottom : ℕ

-- what a Roll may say: bits 60 of the first byte are off, and its rows are 1 to 24, the first at most the last
pub record IsRoll (r : RollParts) : Type 0 where
  pub byte : r.control < 0x100
  pub unset : r.control % 0x80 < 0x20
  pub low : 1 ≤ r.top
  pub order : r.top ≤ r.bottom
  pub high : r.bottom ≤ ROWS

-- with 80 in its first byte a Roll moves rows down, else up
abbrev pub rolls_down : RollParts → Bool
rolls_down r = nat_le 0x80 r.control

-- by so many rows, the low five bits
abbrev pub roll_distance : RollParts → ℕ
roll_distance r = r.control % 0x20
