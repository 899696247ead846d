use Rattle.std.proofs.Common.{[], ◌∷◌, arith, refl, inl, inr, rules}
use Rattle.std.proofs.lemmas.Grind.{common_steps}
use Rattle.ws_stream.specs.declared.element.Element.TheVariants.{Soh}
use Rattle.ws_stream.proofs.Unfinished.{waits}
use Rattle.ws_stream.proofs.UnfinishedHeader.{soh_counted}
use Rattle.ws_stream.proofs.commands.Commands.soh_length.Goals as goal

pub returns : goal.returns
returns g c =
    let found = soh_counted c.args.self.now.place c.args.byte c.clear.new.self c.requires (omega arith)
    c.if-byte-eq0.false c.clear.ensures in
    inl (waits (0x01 ∷ []) c.args.byte c.wait_for.ensures found.0 found.1, refl)

pub returns-then-byte-eq0 : goal.returns-then-byte-eq0
returns-then-byte-eq0 g c =
    inr (Soh c.of.result, first_of (search rules, grind (arith, common_steps)), c.complete.ensures)
