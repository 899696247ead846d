use Rattle.std.proofs.Common.{◌≡◌, true, length, refl, sym, ap, ◌∙◌, inl, inr}
use Rattle.ws_stream.specs.Machine.{unfinished_in}
use Rattle.ws_stream.specs.Parts.{is_kind}
use Rattle.ws_stream.specs.declared.commands.phase.Phase.{Phase}
use Rattle.ws_stream.specs.declared.element.Element.TheVariants.{Ea}
use Rattle.ws_stream.proofs.UnfinishedAddress.{erase_more, erase_whole}
use Rattle.ws_stream.proofs.commands.Commands.erase_kind.Goals as goal
use Rattle.ws_stream.proofs.commands.Commands.erase_kind.Goals.{else-byte-ne0-via-then-byte-ne0+else-byte-ne255}
use Rattle.ws_stream.proofs.commands.Commands.erase_kind.Goals.{else-byte-ne0-via-else-byte-ne0}

pub returns : goal.returns
returns g c =
    let old = c.args.self.now in
    let kinds = c.push.new.self in
    let kind : is_kind c.args.byte ≡ true = elim c.else-byte-ne0.branch [
      | else-byte-ne0-via-then-byte-ne0+else-byte-ne255 w ↦ ap is_kind w.if-byte-ne255.false
      | else-byte-ne0-via-else-byte-ne0 w ↦ ap is_kind w.if-byte-ne0.false
    ] in
    let few = λ (e : length kinds ≡ c.args.count). c.if-len-count.false (c.len.ensures.value ∙ e) in
    let found = erase_more old.place c.args.to c.args.count old.kinds kinds c.args.byte c.requires.begun kind
    c.push.ensures few in
    let begun = ap (λ (p : Phase). unfinished_in p old.bytes kinds old.controls) c.requires.phase in
    inl ((refl, begun ∙ found.0, found.1), refl)

pub returns-then-len-count : goal.returns-then-len-count
returns-then-len-count g c =
    let old = c.args.self.now in
    let kind : is_kind c.args.byte ≡ true = elim c.else-byte-ne0.branch [
      | else-byte-ne0-via-then-byte-ne0+else-byte-ne255 w ↦ ap is_kind w.if-byte-ne255.false
      | else-byte-ne0-via-else-byte-ne0 w ↦ ap is_kind w.if-byte-ne0.false
    ] in
    let counted = sym c.len.ensures.value ∙ c.if-len-count.true in
    let spelled = erase_whole old.place c.args.to c.args.count old.kinds c.push.new.self c.of-kinds.result c.args.byte
    c.requires.begun kind c.push.ensures counted (cc) in
    inr (Ea c.args.to c.of-kinds.result, spelled, c.complete.ensures)
