-- The bytes of a saved screen while its elements come (SC30-3533, Save Screen and Restore Screen commands).
use Rattle.std.specs.Prelude.{ℕ, ◌≡◌, ◌≤◌, List, ◌∷◌, length}
use Rattle.ws_code.specs.Code.{spelling_of}
use Rattle.ws_stream.specs.Elements.{element_rules}
use Rattle.ws_stream.specs.declared.command_code.TheConstants.{ESCAPE, RESTORE_SCREEN}
use Rattle.ws_stream.specs.declared.element.Element.{Element}

-- the most bytes of an image
abbrev pub MOST_IMAGE_BYTES : ℕ
MOST_IMAGE_BYTES = 4252

-- as far as there is room for an image, these are a Restore Screen and the elements
abbrev pub IsSaving : List Element → List ℕ → Type 0
IsSaving es bytes = length (spelling_of element_rules es) ≤ MOST_IMAGE_BYTES
    → bytes ≡ ESCAPE ∷ RESTORE_SCREEN ∷ spelling_of element_rules es
