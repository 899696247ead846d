use Rattle.std.proofs.Common.{None, arith}
use Rattle.std.proofs.lemmas.Grind.{common_steps}
use Rattle.ws_code.proofs.PageLaws.{is_national_byte, is_page_byte-plain, is_page_byte-euro, is_page_byte-currency}
use Rattle.ws_code.proofs.PageLaws.{is_page_byte-other, inverse-from_page_byte, value-from_page_byte}
use Rattle.ws_code.proofs.code_page.CodePage.from_char.Goals as goal

pub returns-then-not-self-clause-inverse : goal.returns-then-not-self-clause-inverse
returns-then-not-self-clause-inverse c = inverse-from_page_byte c.args.self c.args.character c.from_char.result
    (is_page_byte-plain c.args.self c.args.character c.from_char.result c.if-not-self.true
    (is_national_byte c.args.self.country c.args.character c.from_char.result c.from_char.ensures))

pub returns-then-not-self-clause-value : goal.returns-then-not-self-clause-value
returns-then-not-self-clause-value c = value-from_page_byte c.args.self c.args.character c.from_char.result
    (is_page_byte-plain c.args.self c.args.character c.from_char.result c.if-not-self.true
    (is_national_byte c.args.self.country c.args.character c.from_char.result c.from_char.ensures))

pub returns-in-8364-clause-inverse : goal.returns-in-8364-clause-inverse
returns-in-8364-clause-inverse c = inverse-from_page_byte c.args.self c.args.character c.from_char-in-8364.result
    (is_page_byte-euro c.args.self c.args.character c.from_char-in-8364.result c.if-not-self.false c.in-8364.is
    (is_national_byte c.args.self.country 0xA4 c.from_char-in-8364.result c.from_char-in-8364.ensures))

pub returns-in-8364-clause-value : goal.returns-in-8364-clause-value
returns-in-8364-clause-value c = value-from_page_byte c.args.self c.args.character c.from_char-in-8364.result
    (is_page_byte-euro c.args.self c.args.character c.from_char-in-8364.result c.if-not-self.false c.in-8364.is
    (is_national_byte c.args.self.country 0xA4 c.from_char-in-8364.result c.from_char-in-8364.ensures))

pub returns-in-164-clause-inverse : goal.returns-in-164-clause-inverse
returns-in-164-clause-inverse c = inverse-from_page_byte c.args.self c.args.character None
    (is_page_byte-currency c.args.self c.args.character c.if-not-self.false c.in-164.is)

pub returns-in-164-clause-value : goal.returns-in-164-clause-value
returns-in-164-clause-value c = value-from_page_byte c.args.self c.args.character None
    (is_page_byte-currency c.args.self c.args.character c.if-not-self.false c.in-164.is)

pub returns-in_default-clause-inverse : goal.returns-in_default-clause-inverse
returns-in_default-clause-inverse c = inverse-from_page_byte c.args.self c.args.character c.from_char-in_default.result
    (is_page_byte-other c.args.self c.args.character c.from_char-in_default.result c.if-not-self.false
    (grind (arith, common_steps)) (grind (arith, common_steps))
    (is_national_byte c.args.self.country c.args.character c.from_char-in_default.result c.from_char-in_default.ensures))

pub returns-in_default-clause-value : goal.returns-in_default-clause-value
returns-in_default-clause-value c = value-from_page_byte c.args.self c.args.character c.from_char-in_default.result
    (is_page_byte-other c.args.self c.args.character c.from_char-in_default.result c.if-not-self.false
    (grind (arith, common_steps)) (grind (arith, common_steps))
    (is_national_byte c.args.self.country c.args.character c.from_char-in_default.result c.from_char-in_default.ensures))
