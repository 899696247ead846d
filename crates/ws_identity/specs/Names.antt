-- The names by which a display station is known to a host (RFC 4777).

use Rattle.std.specs.Prelude.{ℕ, List, [], ◌∷◌, Bool, false, ◌==◌, ◌&&◌, ◌||◌, nat_le, length, map}
use Rattle.std.specs.List.{list_all}
use Rattle.std.specs.Char.{to_ascii_uppercase}

-- the bytes with small letters as capitals
abbrev pub capitals : List ℕ → List ℕ
capitals bytes = map to_ascii_uppercase bytes

-- A to Z
abbrev pub is_capital : ℕ → Bool
is_capital c = nat_le 0x41 c && nat_le c 0x5A

-- 0 to 9
abbrev pub is_name_digit : ℕ → Bool
is_name_digit c = nat_le 0x30 c && nat_le c 0x39

-- what a device's name begins with: a capital or $ # @
abbrev pub begins_name : ℕ → Bool
begins_name c = is_capital c || (c == 0x24) || (c == 0x23) || (c == 0x40)

-- what follows in it: that too, or a digit or _ .
abbrev pub goes_on_name : ℕ → Bool
goes_on_name c = begins_name c || is_name_digit c || (c == 0x5F) || (c == 0x2E)

-- the first of the bytes may begin one
abbrev pub begins_as_name : List ℕ → Bool
begins_as_name [] = false
begins_as_name (first ∷ rest) = begins_name first

-- a device's name: 1 to 10 bytes of A to Z, 0 to 9, $ # @ _ and . , the first none of 0 to 9, _ and .
abbrev pub is_device_name : List ℕ → Bool
is_device_name bytes = nat_le (length bytes) 10 && begins_as_name bytes && list_all goes_on_name bytes

-- what a keyboard type consists of: capitals and digits
abbrev pub is_capital_or_digit : ℕ → Bool
is_capital_or_digit c = is_capital c || is_name_digit c

-- a keyboard type: three capitals and digits
abbrev pub is_keyboard_type : List ℕ → Bool
is_keyboard_type bytes = (length bytes == 3) && list_all is_capital_or_digit bytes
