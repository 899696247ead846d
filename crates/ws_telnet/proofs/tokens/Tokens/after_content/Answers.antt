use Rattle.std.proofs.Common.{◌++◌, ℕ, List, refl, sym, ap, ne_eqb}
use Rattle.ws_telnet.specs.Machine.{sub_begun}
use Rattle.ws_telnet.specs.TokenLaws.{doubled_plain}
use Rattle.ws_telnet.proofs.Unfinished.{sub_so_far_content, sub_ends, content_even}
use Rattle.ws_telnet.proofs.tokens.Tokens.after_content.Goals as goal

pub returns-then-byte-eq-IAC : goal.returns-then-byte-eq-IAC
returns-then-byte-eq-IAC c =
    let option = c.args.self.now.option in
    let content = c.args.self.now.content.items in
    let known = sub_so_far_content option content (rw c.requires.phase at c.requires.begun) in
    rw (c.requires.phase, c.if-byte-eq-IAC.true)
    (refl, sub_ends option content known.option_fits known.length_fits known.bytes)

pub take_content-requires-clause-completes : goal.take_content-requires-clause-completes
take_content-requires-clause-completes c =
    let content = sub_begun c.args.self.now.option c.args.self.now.content.items in
    let plain = doubled_plain c.args.byte (ne_eqb c.args.byte 255 c.if-byte-eq-IAC.false) in
    rw c.requires.phase (ap (λ (l : List ℕ). content ++ l) (sym plain))

pub take_content-requires-clause-reason : goal.take_content-requires-clause-reason
take_content-requires-clause-reason c = rw (c.requires.phase, content_even c.args.self.now.content.items) refl
