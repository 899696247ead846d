use Rattle.std.proofs.Common.{◌∷◌, [], refl, append_assoc, ne_eqb}
use Rattle.ws_telnet.specs.Machine.{sub_begun}
use Rattle.ws_telnet.proofs.Unfinished.{sub_so_far, sub_goes_on, sub_bad, content_odd, sub_whole}
use Rattle.ws_telnet.proofs.tokens.Tokens.after_content_iac.Goals as goal

pub take_content-requires-clause-begun : goal.take_content-requires-clause-begun
take_content-requires-clause-begun c =
    let option = c.args.self.now.option in
    let content = c.args.self.now.content.items in
    let known = sub_so_far option content (0xff ∷ []) (rw c.requires.phase at c.requires.begun) in
    sub_goes_on option content known.option_fits known.length_fits known.bytes

pub take_content-requires-clause-completes : goal.take_content-requires-clause-completes
take_content-requires-clause-completes c =
    let content = sub_begun c.args.self.now.option c.args.self.now.content.items in
    rw (c.requires.phase, c.if-byte-eq-IAC.true) (append_assoc content (0xff ∷ []) (0xff ∷ []))

pub take_content-requires-clause-reason : goal.take_content-requires-clause-reason
take_content-requires-clause-reason c =
    rw (c.requires.phase, c.if-byte-eq-IAC.true, content_odd c.args.self.now.content.items) refl

pub returns-then-byte-eq-SE : goal.returns-then-byte-eq-SE
returns-then-byte-eq-SE c =
    let option = c.args.self.now.option in
    let content = c.args.self.now.content.items in
    let known = sub_so_far option content (0xff ∷ []) (rw c.requires.phase at c.requires.begun) in
    rw (c.requires.phase, c.if-byte-eq-SE.true) (sub_whole option content known, refl)

pub returns-else-byte-eq-SE : goal.returns-else-byte-eq-SE
returns-else-byte-eq-SE c =
    let content = c.args.self.now.content.items in
    rw c.requires.phase (
      sub_bad c.args.self.now.option content c.args.byte c.if-byte-eq-IAC.false c.if-byte-eq-SE.false,
      rw (content_odd content, ne_eqb c.args.byte 255 c.if-byte-eq-IAC.false) refl,
      refl,
    )
