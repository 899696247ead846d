use Rattle.std.proofs.Common.{◌≡◌, ℕ, Option, Some, sym, ◌∙◌}
use Rattle.ws_code.specs.CodePage.{national_char}
use Rattle.ws_code.specs.declared.country.Country.{Country}
use Rattle.ws_code.proofs.CountryPages.{national_byte, national_byte-some, national_byte-none, national_inverse}
use Rattle.ws_code.proofs.country.Country.from_char.Goals as goal

-- what the page's byte is, the answer is
inverse : (country : Country) (c : ℕ) (r : Option ℕ) → national_byte country c ≡ r → (b : ℕ)
    → (r ≡ Some b → national_char country b ≡ Some c) × (national_char country b ≡ Some c → r ≡ Some b)
inverse country c r is b =
    let both : _ = national_inverse country b c in
    ((λ e. both.0 (is ∙ e)), (λ e. sym is ∙ both.1 e))

pub returns-in-Some : goal.returns-in-Some
returns-in-Some c = inverse c.args.self c.args.character (Some c.in-Some.byte)
    (national_byte-some c.args.self c.args.character c.in-Some.byte (sym c.changed_byte.ensures ∙ c.in-Some.is))

pub returns-in-None : goal.returns-in-None
returns-in-None c = inverse c.args.self c.args.character c.from_char.result
    (national_byte-none c.args.self c.args.character (sym c.changed_byte.ensures ∙ c.in-None.is)
    ∙ sym c.from_char.ensures.value)
