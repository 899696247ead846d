-- Keys as C gives them: the number of a kind, and a value that says which character or attention key

use Rattle.std.specs.Prelude.{◌≡◌, ℕ, Option, Some, None, IfSome, IfNone, SomeIff}
use Rattle.std.specs.Char.{IsScalar}
use Rattle.ws_code.specs.Aid.{IsAid}
use Rattle.ws_keys.specs.declared.key.Key.{Key}
use Rattle.ws_keys.specs.declared.key.Key.TheVariants.{Char, Insert, Left, Right, Up, Down, Home, Tab, BackTab}
use Rattle.ws_keys.specs.declared.key.Key.TheVariants.{FieldExit, FieldMinus, Dup, Delete, EraseInput, Aid, Attention}
use Rattle.ws_keys.specs.declared.key.Key.TheVariants.{SystemRequest}
use Rattle.ws_keys.specs.declared.key.KeyRefusal.{KeyRefusal}
use Rattle.ws_keys.specs.declared.key.KeyRefusal.TheVariants.{Locked, Protected, WrongCharacter, DupNotAllowed, NoRoom}
use Rattle.ws_keys.specs.declared.key.KeyRefusal.TheVariants.{NoReadPending, MandatoryEnter, FieldExitRequired, MandatoryFill}
use Rattle.ws_c.specs.declared.key_kind.KeyKind.{KeyKind}
use Rattle.ws_c.specs.declared.key_kind.KeyKind.TheVariants.{Char as CharKind, Insert as InsertKind, Left as LeftKind}
use Rattle.ws_c.specs.declared.key_kind.KeyKind.TheVariants.{Right as RightKind, Up as UpKind, Down as DownKind}
use Rattle.ws_c.specs.declared.key_kind.KeyKind.TheVariants.{Home as HomeKind, Tab as TabKind, BackTab as BackTabKind}
use Rattle.ws_c.specs.declared.key_kind.KeyKind.TheVariants.{FieldExit as FieldExitKind, FieldMinus as FieldMinusKind}
use Rattle.ws_c.specs.declared.key_kind.KeyKind.TheVariants.{Dup as DupKind, Delete as DeleteKind}
use Rattle.ws_c.specs.declared.key_kind.KeyKind.TheVariants.{EraseInput as EraseInputKind, Aid as AidKind}
use Rattle.ws_c.specs.declared.key_kind.KeyKind.TheVariants.{Attention as AttentionKind}
use Rattle.ws_c.specs.declared.key_kind.KeyKind.TheVariants.{SystemRequest as SystemRequestKind}

-- the number of a kind
abbrev pub kind_number : KeyKind → ℕ
kind_number CharKind = 1
kind_number InsertKind = 2
kind_number LeftKind = 3
kind_number RightKind = 4
kind_number UpKind = 5
kind_number DownKind = 6
kind_number HomeKind = 7
kind_number TabKind = 8
kind_number BackTabKind = 9
kind_number FieldExitKind = 10
kind_number FieldMinusKind = 11
kind_number DupKind = 12
kind_number DeleteKind = 13
kind_number EraseInputKind = 14
kind_number AidKind = 15
kind_number AttentionKind = 16
kind_number SystemRequestKind = 17

-- the key of a kind and a value: a character by its Unicode scalar value, an attention key by its byte, and of the
-- others no value is read
abbrev pub IsKeyOf : KeyKind → ℕ → Option Key → Type 0
IsKeyOf CharKind value key = SomeIff key (IsScalar value) (Char value)
IsKeyOf InsertKind value key = SomeIff key (IsScalar value) (Insert value)
IsKeyOf LeftKind value key = key ≡ Some Left
IsKeyOf RightKind value key = key ≡ Some Right
IsKeyOf UpKind value key = key ≡ Some Up
IsKeyOf DownKind value key = key ≡ Some Down
IsKeyOf HomeKind value key = key ≡ Some Home
IsKeyOf TabKind value key = key ≡ Some Tab
IsKeyOf BackTabKind value key = key ≡ Some BackTab
IsKeyOf FieldExitKind value key = key ≡ Some FieldExit
IsKeyOf FieldMinusKind value key = key ≡ Some FieldMinus
IsKeyOf DupKind value key = key ≡ Some Dup
IsKeyOf DeleteKind value key = key ≡ Some Delete
IsKeyOf EraseInputKind value key = key ≡ Some EraseInput
IsKeyOf AidKind value key = SomeIff key (IsAid value) (Aid value)
IsKeyOf AttentionKind value key = key ≡ Some Attention
IsKeyOf SystemRequestKind value key = key ≡ Some SystemRequest

-- the key of a kind, where there is one, and a value
abbrev pub IsKeyOfKind : Option KeyKind → ℕ → Option Key → Type 0
IsKeyOfKind None value key = key ≡ None
IsKeyOfKind (Some named) value key = IsKeyOf named value key

-- the key of a kind's number and a value, where there is one
pub record IsKeyFrom (kind value : ℕ) (key : Option Key) : Type 0 where
  pub named : Option KeyKind
  pub some : IfSome named (λ k. kind_number k ≡ kind)
  pub none : IfNone named ((k : KeyKind) → kind_number k ≡ kind → ⊥)
  pub is_of : IsKeyOfKind named value key

-- the number of a key's refusal
abbrev pub refusal_number : KeyRefusal → ℕ
refusal_number Locked = 1
refusal_number Protected = 2
refusal_number WrongCharacter = 3
refusal_number DupNotAllowed = 4
refusal_number NoRoom = 5
refusal_number NoReadPending = 6
refusal_number MandatoryEnter = 7
refusal_number FieldExitRequired = 8
refusal_number MandatoryFill = 9
