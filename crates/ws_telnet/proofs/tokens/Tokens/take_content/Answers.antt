use Rattle.std.proofs.Common.{◌≡◌, ◌≢◌, ◌++◌, ◌∷◌, [], ℕ, List, ◌≤◌, length, refl, sym, ap, ◌∙◌, arith, eqb-true}
use Rattle.std.proofs.Common.{length-append}
use Rattle.std.proofs.lemmas.Bool.{eqb-false}
use Rattle.ws_code.specs.Code.{AreBytes}
use Rattle.ws_telnet.specs.Machine.{sub_begun}
use Rattle.ws_telnet.specs.Token.{doubled}
use Rattle.ws_telnet.proofs.Unfinished.{sub_goes_on, sub_so_far_content, IsSubSoFar, sub_full, content_more, bytes_more}
use Rattle.ws_telnet.proofs.tokens.Tokens.take_content.Goals as goal

pub returns-then-is_full : goal.returns-then-is_full
returns-then-is_full c =
    let option = c.args.self.now.option in
    let content = c.args.self.now.content.items in
    let full = eqb-true (length content) 64 (sym c.is_full.ensures.value ∙ c.if-is_full.true) in
    (rw c.requires.completes (sub_full option content c.args.byte full), sym c.requires.reason, refl)

pub returns : goal.returns
returns c =
    let option = c.args.self.now.option in
    let content = c.args.self.now.content.items in
    let more = content ++ c.args.byte ∷ [] in
    let known : IsSubSoFar option content = sub_so_far_content option content c.requires.begun in
    let room : length content ≢ 64 = eqb-false (length content) 64 (sym c.is_full.ensures.value ∙ c.if-is_full.false) in
    let fits : length more ≤ 64 = omega (arith, length-append content (c.args.byte ∷ []), known.length_fits) in
    let bytes : AreBytes more = bytes_more content c.args.byte known.bytes (omega arith) in
    let spelled : sub_begun option more ≡ sub_begun option content ++ doubled c.args.byte =
    ap (λ (l : List ℕ). let m : List ℕ = 0xff ∷ 0xfa ∷ option ∷ l in m) (content_more content c.args.byte) in
    rw c.push.ensures.items
    (spelled ∙ sym c.requires.completes, sub_goes_on option more known.option_fits fits bytes)
