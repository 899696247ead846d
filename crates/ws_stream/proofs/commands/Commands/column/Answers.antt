use Rattle.std.proofs.Common.{[], ◌∷◌, refl, inl, inr, rules, arith}
use Rattle.std.proofs.lemmas.Grind.{common_steps}
use Rattle.ws_stream.specs.Machine.{order_byte}
use Rattle.ws_stream.specs.declared.element.Element.TheVariants.{Sba, Ic, Mc}
use Rattle.ws_stream.proofs.Unfinished.{waits}
use Rattle.ws_stream.proofs.UnfinishedAddress.{column_repeat, column_erase}
use Rattle.ws_stream.proofs.commands.Commands.column.Goals as goal

pub returns-in-Ra : goal.returns-in-Ra
returns-in-Ra g c =
    let o = c.args.order in
    let at = c.in-Some.ensures in
    let found = column_repeat _ o c.args.row c.args.byte c.in-Some.to c.in-Ra.is at.0 at.1 c.requires in
    inl (waits (order_byte o ∷ c.args.row ∷ []) c.args.byte c.wait_for.ensures found.0 found.1, refl)

pub returns-in-Ea : goal.returns-in-Ea
returns-in-Ea g c =
    let o = c.args.order in
    let at = c.in-Some.ensures in
    let found = column_erase _ o c.args.row c.args.byte c.in-Some.to c.in-Ea.is at.0 at.1 c.requires in
    inl (waits (order_byte o ∷ c.args.row ∷ []) c.args.byte c.wait_for-in-Ea.ensures found.0 found.1, refl)

pub returns-in-Sba : goal.returns-in-Sba
returns-in-Sba g c = inr (Sba c.in-Some.to, first_of (search rules, grind (arith, common_steps)), c.complete.ensures)

pub returns-in-Ic : goal.returns-in-Ic
returns-in-Ic g c = inr
    (Ic c.in-Some.to, first_of (search rules, grind (arith, common_steps)), c.complete-in-Ic.ensures)

pub returns-in-Mc : goal.returns-in-Mc
returns-in-Mc g c = inr
    (Mc c.in-Some.to, first_of (search rules, grind (arith, common_steps)), c.complete-in-Mc.ensures)
