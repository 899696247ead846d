use Rattle.std.proofs.Common.{[], refl, inl, inr, rules}
use Rattle.ws_code.proofs.RunLaws.{same_reading}
use Rattle.ws_stream.specs.declared.element.Element.TheVariants.{Put}
use Rattle.ws_stream.proofs.Unfinished.{waits, escape_begins}
use Rattle.ws_stream.proofs.commands.Commands.begin.Goals as goal

pub returns-then-byte-eq-ESCAPE : goal.returns-then-byte-eq-ESCAPE
returns-then-byte-eq-ESCAPE g c =
    inl (rw c.if-byte-eq-ESCAPE.true (waits [] 0x04 c.wait_for.ensures refl (escape_begins _)), refl)

pub returns-in-Some : goal.returns-in-Some
returns-in-Some g c =
    let behind = same_reading _ _ _ _ c.in-Anything.is c.requires in
    inr (Put c.in-Some.byte, rw c.in-Anything.is (search rules), c.hand_over.ensures c.args.self.now behind)
