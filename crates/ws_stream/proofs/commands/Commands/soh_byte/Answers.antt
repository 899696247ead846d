use Rattle.std.proofs.Common.{◌≡◌, length, refl, sym, ap, ◌∙◌, arith, inl, inr}
use Rattle.std.proofs.lemmas.Grind.{common_steps}
use Rattle.ws_stream.specs.Machine.{unfinished_in}
use Rattle.ws_stream.specs.declared.commands.phase.Phase.{Phase}
use Rattle.ws_stream.specs.declared.element.Element.TheVariants.{Soh}
use Rattle.ws_stream.proofs.UnfinishedHeader.{soh_more, soh_whole}
use Rattle.ws_stream.proofs.commands.Commands.soh_byte.Goals as goal
use Rattle.ws_stream.proofs.commands.Commands.soh_byte.Goals.{else-len-eq2-via-then-len-eq2+else-byte-ne0}
use Rattle.ws_stream.proofs.commands.Commands.soh_byte.Goals.{else-len-eq2-via-else-len-eq2}

pub returns-then-len-count : goal.returns-then-len-count
returns-then-len-count g c =
    let old = c.args.self.now in
    let third : length old.bytes ≡ 2 → c.args.byte ≡ 0 = elim c.else-len-eq2.branch [
      | else-len-eq2-via-then-len-eq2+else-byte-ne0 w ↦ λ _. w.if-byte-ne0.false
      | else-len-eq2-via-else-len-eq2 w ↦ λ e. absurd (w.if-len-eq2.false (c.len.ensures.value ∙ e))
    ] in
    let counted = sym c.len-2.ensures.value ∙ c.if-len-count.true in
    let spelled = soh_whole old.place c.args.count old.bytes c.push.new.self c.of.result c.args.byte c.requires.begun
    third (omega arith) c.push.ensures counted (cc) in
    inr (Soh c.of.result, spelled, c.complete.ensures)

pub returns : goal.returns
returns g c =
    let old = c.args.self.now in
    let bytes = c.push.new.self in
    let third : length old.bytes ≡ 2 → c.args.byte ≡ 0 = elim c.else-len-eq2.branch [
      | else-len-eq2-via-then-len-eq2+else-byte-ne0 w ↦ λ _. w.if-byte-ne0.false
      | else-len-eq2-via-else-len-eq2 w ↦ λ e. absurd (w.if-len-eq2.false (c.len.ensures.value ∙ e))
    ] in
    let few = λ (e : length bytes ≡ c.args.count). c.if-len-count.false (c.len-2.ensures.value ∙ e) in
    let found = soh_more old.place c.args.count old.bytes bytes c.args.byte c.requires.begun third (omega arith)
    c.push.ensures few in
    let begun = ap (λ (p : Phase). unfinished_in p bytes old.kinds old.controls) c.requires.phase in
    inl ((refl, begun ∙ found.0, found.1), refl)

pub returns-then-byte-ne0 : goal.returns-then-byte-ne0
returns-then-byte-ne0 c = grind (arith, common_steps)
