-- The keys of a display, by the words of a script.

use Rattle.std.specs.Prelude.{◌≡◌, ℕ, List, [], ◌∷◌, Bool, true, Option, None, Some, map}
use Rattle.std.specs.Str.{all_scalars, encode_utf8_all}
use Rattle.ws_keys.specs.declared.key.Key.{Key}
use Rattle.ws_keys.specs.declared.key.Key.TheVariants.{Char, Insert}
use Rattle.ws_printing.specs.script.KeyNames.{key_named}
use Rattle.ws_printing.specs.script.Script.{typed_key}

-- a display's keys: the key of a name, a key of the profile as one of them, and the character that a key enters, where
-- it enters one
pub record KeyWords (Q : Type 0) : Type 0 where
  pub named : List ℕ → Option Q
  pub profile : Key → Q
  pub entered : Q → Option ℕ

-- the character that a key enters
abbrev pub entered_by : Key → Option ℕ
entered_by (Char character) = Some character
entered_by (Insert character) = Some character
entered_by key = None

-- the keys of the profile
abbrev pub profile_words : KeyWords Key
profile_words = record { named = key_named; profile = λ key. key; entered = entered_by }

module _ {Q : Type 0} (w : KeyWords Q) where
  -- a key for each character of a text in UTF-8
  pub record AreKeysOf (inserts : Bool) (text : List ℕ) (keys : List Q) : Type 0 where
    pub characters : List ℕ
    pub are : all_scalars characters ≡ true
    pub spelled : encode_utf8_all characters ≡ text
    pub typed : keys ≡ map (λ character. w.profile (typed_key inserts character)) characters

  -- the one key of a name
  abbrev pub AreNamed : List ℕ → List Q → Type 0
  AreNamed name keys = (key : Q) × (w.named name ≡ Some key) × (keys ≡ key ∷ [])
