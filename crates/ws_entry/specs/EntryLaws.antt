-- Where no field's format word asks for something beside the profile.
use Rattle.std.specs.Prelude.{◌≡◌, ℕ, Bool, false, ◌||◌}
use Rattle.std.specs.List.{list_any}
use Rattle.ws_screen.specs.ScreenParts.{ScreenParts}
use Rattle.ws_screen.specs.declared.field.Field.{Field}
use Rattle.ws_keys.specs.Keys.{of_open}
use Rattle.ws_keys.specs.declared.key.Key.{Key}
use Rattle.ws_keys.specs.declared.key.Key.TheVariants.{Insert}
use Rattle.ws_extended_station.specs.declared.extended_key.ExtendedKey.TheVariants.{Profile}
use Rattle.ws_entry.specs.EntryDisplays.{entered_key}
use Rattle.ws_entry.specs.EntryRules.{ends_blank, is_auto_enter, is_field_exit_required, is_mandatory_fill}
use Rattle.ws_entry.specs.EntryRules.{is_numeric_only}
use Rattle.ws_entry.specs.declared.typed_key.TypedKey.{TypedKey}

-- the format word asks for something beside the profile, whatever character is typed
abbrev pub asks_more : Field → Bool
asks_more f = is_field_exit_required f.format || is_auto_enter f.format || is_mandatory_fill f.format
    || is_numeric_only f.format

-- no field's word does so, the character that is entered is the one that is typed, and no insert finds a blank at the
-- end of its field
pub record AsksNoMore (s : ScreenParts) (k : TypedKey) : Type 0 where
  pub words : list_any asks_more s.fields ≡ false
  pub typed : (key : Key) → k.key ≡ Profile key → entered_key k.page s key ≡ key
  pub room : (c : ℕ) → k.key ≡ Profile (Insert c) → of_open s (ends_blank s) ≡ false
