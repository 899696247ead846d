use Rattle.std.proofs.Common.{sym, ◌∙◌}
use Rattle.ws_code.proofs.CountryPages.{national_char-some, national_char-none, national_bounds}
use Rattle.ws_code.proofs.country.Country.to_char.Goals as goal

pub returns-in-Some-clause-value : goal.returns-in-Some-clause-value
returns-in-Some-clause-value c = sym (national_char-some c.args.self c.args.byte c.in-Some.character
    (sym c.changed_char.ensures ∙ c.in-Some.is))

pub returns-in-Some-clause-latin : goal.returns-in-Some-clause-latin
returns-in-Some-clause-latin c = (national_bounds c.args.self c.args.byte c.in-Some.character
    (national_char-some c.args.self c.args.byte c.in-Some.character (sym c.changed_char.ensures ∙ c.in-Some.is))).2

pub returns-in-None-clause-value : goal.returns-in-None-clause-value
returns-in-None-clause-value c = c.to_char.ensures.value
    ∙ sym (national_char-none c.args.self c.args.byte (sym c.changed_char.ensures ∙ c.in-None.is))
