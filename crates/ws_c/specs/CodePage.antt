-- Code pages, as C sees them

use Rattle.std.specs.Prelude.{◌≡◌, ℕ, Option, Some, None, IfSome, IfNone}
use Rattle.ws_code.specs.CodePage.{byte_on, char_on, page_number}
use Rattle.ws_code.specs.declared.code_page.CodePage.{CodePage}
use Rattle.ws_c.specs.declared.status.Status.TheVariants.{Done, BadArgument}
use Rattle.ws_c.specs.Calls.{status_number}

-- the code page of a number, where there is one
pub record IsPageOf (number : ℕ) (page : Option CodePage) : Type 0 where
  pub some : IfSome page (λ p. page_number p ≡ number)
  pub none : IfNone page ((p : CodePage) → page_number p ≡ number → ⊥)

-- the character of a byte, on a page if there is one
abbrev pub char_on_some : Option CodePage → ℕ → Option ℕ
char_on_some None b = None
char_on_some (Some page) b = char_on page b

-- the byte of a character, on a page if there is one
abbrev pub byte_on_some : Option CodePage → ℕ → Option ℕ
byte_on_some None c = None
byte_on_some (Some page) c = byte_on page c

-- what is told of a byte's character, where it has one
abbrev pub IsCharacterTold : Option ℕ → ℕ → ℕ → Type 0
IsCharacterTold None status character = (status ≡ status_number BadArgument) × (character ≡ 0)
IsCharacterTold (Some c) status character = (status ≡ status_number Done) × (character ≡ c)

-- what is told of a character's byte, where it has one
abbrev pub IsByteTold : Option ℕ → ℕ → ℕ → Type 0
IsByteTold None status byte = (status ≡ status_number BadArgument) × (byte ≡ 0)
IsByteTold (Some b) status byte = (status ≡ status_number Done) × (byte ≡ b)
