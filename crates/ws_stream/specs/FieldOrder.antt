-- The Start of Field order (SC30-3533, Start of Field).

use Rattle.std.specs.Prelude.{ℕ, ◌≡◌, ◌≤◌, ◌<◌, List, [], nat_le, nat_lt, ◌&&◌, Bool, true, Option, Some, None}
use Rattle.std.specs.List.{list_all}
use Rattle.ws_code.specs.FormatWord.{IsFfw}

-- What a Start of Field says (SC30-3533, Start of Field order)
pub record FieldOrder : Type 0 where
  pub format : Option ℕ
  pub controls : List ℕ
  pub attribute : ℕ
  pub length : ℕ

-- the first bit of a field control word is 1
abbrev pub is_control : ℕ → Bool
is_control w = nat_le 0x8000 w && nat_lt w 0x10000

-- an attribute is 20 to 3F, in a Start of Field and as a byte of a cell
abbrev pub is_attribute : ℕ → Bool
is_attribute b = nat_le 0x20 b && nat_lt b 0x40

-- control words stand only after a format word
abbrev pub HasFormat : Option ℕ → List ℕ → Type 0
HasFormat None controls = controls ≡ []
HasFormat (Some w) controls = IsFfw w

-- what a Start of Field may be: a format word before control words, at most eight of these, and an attribute
pub record IsFieldOrder (f : FieldOrder) : Type 0 where
  pub formatted : HasFormat f.format f.controls
  pub few : Rattle.std.specs.Prelude.length f.controls ≤ 8
  pub words : list_all is_control f.controls ≡ true
  pub low : 0x20 ≤ f.attribute
  pub high : f.attribute < 0x40
  pub short : f.length < 0x10000
