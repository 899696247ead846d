-- The names of keys in a script.

use Rattle.std.specs.Prelude.{ℕ, List, [], ◌∷◌, Option, Some, None, codes}
use Rattle.std.specs.Option.{option_or}
use Rattle.ws_code.specs.Aid.{function_aid}
pub use Rattle.ws_text.specs.Names.{look_up}
use Rattle.ws_keys.specs.declared.key.Key.{Key}
use Rattle.ws_keys.specs.declared.key.Key.TheVariants.{Left, Right, Up, Down, Home, Tab, BackTab, FieldExit, FieldMinus}
use Rattle.ws_keys.specs.declared.key.Key.TheVariants.{Dup, Delete, EraseInput, Aid, Attention, SystemRequest}

-- the key that is function key n, 1 to 24
abbrev pub function_key : ℕ → Key
function_key n = Aid (function_aid n)

-- the keys that go over the screen and into fields, and those that signal the host
abbrev pub plain_keys : List (List ℕ × Key)
plain_keys = (codes "Left", Left) ∷ (codes "Right", Right) ∷ (codes "Up", Up) ∷ (codes "Down", Down)
    ∷ (codes "Home", Home) ∷ (codes "Tab", Tab) ∷ (codes "BackTab", BackTab)
    ∷ (codes "FieldExit", FieldExit) ∷ (codes "FieldMinus", FieldMinus) ∷ (codes "Dup", Dup) ∷ (codes "Delete", Delete)
    ∷ (codes "EraseInput", EraseInput)
    ∷ (codes "Attention", Attention) ∷ (codes "SystemRequest", SystemRequest) ∷ []

-- the keys that answer a read and have no number, with their AIDs (SC30-3533, attention identification codes)
abbrev pub answering_keys : List (List ℕ × Key)
answering_keys = (codes "Enter", Aid 0xf1) ∷ (codes "Clear", Aid 0xbd) ∷ (codes "Help", Aid 0xf3)
    ∷ (codes "RollDown", Aid 0xf4) ∷ (codes "RollUp", Aid 0xf5) ∷ (codes "Print", Aid 0xf6)
    ∷ (codes "RecordBackspace", Aid 0xf8) ∷ []

-- the names of the function keys, and their keys
abbrev pub function_keys : List (List ℕ × Key)
function_keys = (codes "F1", function_key 1) ∷ (codes "F2", function_key 2) ∷ (codes "F3", function_key 3)
    ∷ (codes "F4", function_key 4) ∷ (codes "F5", function_key 5) ∷ (codes "F6", function_key 6)
    ∷ (codes "F7", function_key 7) ∷ (codes "F8", function_key 8) ∷ (codes "F9", function_key 9)
    ∷ (codes "F10", function_key 10) ∷ (codes "F11", function_key 11) ∷ (codes "F12", function_key 12)
    ∷ (codes "F13", function_key 13) ∷ (codes "F14", function_key 14) ∷ (codes "F15", function_key 15)
    ∷ (codes "F16", function_key 16) ∷ (codes "F17", function_key 17) ∷ (codes "F18", function_key 18)
    ∷ (codes "F19", function_key 19) ∷ (codes "F20", function_key 20) ∷ (codes "F21", function_key 21)
    ∷ (codes "F22", function_key 22) ∷ (codes "F23", function_key 23) ∷ (codes "F24", function_key 24) ∷ []

-- the key of a name
abbrev pub key_named : List ℕ → Option Key
key_named name = option_or (option_or (look_up name plain_keys) (look_up name answering_keys))
    (look_up name function_keys)

-- the AID of a key, where it answers a read
abbrev pub aid_of : Option Key → Option ℕ
aid_of (Some (Aid aid)) = Some aid
aid_of key = None

-- the AID of the key of a name
abbrev pub aid_named : List ℕ → Option ℕ
aid_named name = aid_of (key_named name)
