use Rattle.std.specs.Prelude.{None}
use Rattle.std.proofs.Common.{ℕ, [], ◌∷◌, ◌*◌, not, refl, arith, ap, ◌∙◌, subst}
use Rattle.ws_code.specs.FormatWord.{IsFfw}
use Rattle.ws_stream.proofs.Unfinished.{waits, order_allowed}
use Rattle.ws_stream.proofs.UnfinishedField.{attribute_goes_on, format_begins, some_passed}
use Rattle.ws_stream.proofs.commands.Commands.field_first.Goals as goal

pub returns-in-32-to-63 : goal.returns-in-32-to-63
returns-in-32-to-63 c =
    let place = c.args.self.now.place in
    let allowed = order_allowed place 0x1D [] (omega arith) c.requires in
    waits (0x1D ∷ []) c.args.byte c.wait_for.ensures refl
    (attribute_goes_on place None [] c.args.byte allowed
    (record { formatted = refl; few = omega arith; words = refl }) (omega arith) (omega arith))

pub returns-else-is_none : goal.returns-else-is_none
returns-else-is_none c =
    let place = c.args.self.now.place in
    let allowed = order_allowed place 0x1D [] (omega arith) c.requires in
    let passed : IsFfw (c.from.result * 256) =
    some_passed c.new.result (IsFfw (c.from.result * 256)) (c.from.result * 256)
    (c.is_none.ensures ∙ ap not c.if-is_none.false) c.new.ensures in
    let legal : IsFfw (c.args.byte * 256) = subst (λ (n : ℕ). IsFfw (n * 256)) c.from.ensures passed in
    waits (0x1D ∷ []) c.args.byte c.wait_for-in-64-to-127.ensures refl (format_begins place c.args.byte allowed legal)
