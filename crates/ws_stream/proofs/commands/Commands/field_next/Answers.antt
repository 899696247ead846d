use Rattle.std.specs.List.{list_all}
use Rattle.std.specs.Prelude.{Some, nat_le}
use Rattle.std.proofs.Common.{◌≡◌, ◌<◌, ◌∷◌, length, refl, arith, sym, ◌∙◌}
use Rattle.std.proofs.lemmas.Bool.{and_parts, leb-true, eqb-true, eqb-false}
use Rattle.ws_stream.specs.FieldOrder.{is_control}
use Rattle.ws_stream.specs.Machine.{words_bytes}
use Rattle.ws_stream.proofs.Unfinished.{waits, order_allowed}
use Rattle.ws_stream.proofs.UnfinishedField.{attribute_goes_on, control_goes_on_word, bad_part, bad_next, many_reason}
use Rattle.ws_stream.proofs.UnfinishedField.{words_known, follows_here}
use Rattle.ws_stream.proofs.commands.Commands.field_next.Goals as goal

pub returns-then-is_full : goal.returns-then-is_full
returns-then-is_full c =
    let w = c.args.format in
    let controls = c.args.self.now.controls in
    let parts = and_parts (nat_le 0x4000 w) (list_all is_control controls) c.requires.words in
    let format = leb-true 0x4000 w parts.0 in
    let full : length controls ≡ 8 = eqb-true (length controls) 8 (sym c.is_full.ensures.value ∙ c.if-is_full.true) in (
      bad_part c.args.self.now.place w controls c.args.byte format parts.1 (λ h. omega (arith, h.1))
          (λ h. omega (arith, h.1, full)),
      many_reason c.args.self.now.place w controls c.args.byte (omega arith),
    )

pub returns-in-32-to-63 : goal.returns-in-32-to-63
returns-in-32-to-63 c =
    let w = c.args.format in
    let controls = c.args.self.now.controls in
    let parts = and_parts (nat_le 0x4000 w) (list_all is_control controls) c.requires.words in
    let format = leb-true 0x4000 w parts.0 in
    let place = c.args.self.now.place in
    let known = words_known w controls _ parts.1 (follows_here place w controls format parts.1 c.requires.begun) in
    waits (0x1D ∷ words_bytes c.args.format c.args.self.now.controls) c.args.byte c.wait_for.ensures refl
    (attribute_goes_on place (Some w) controls c.args.byte
    (order_allowed place 0x1D _ (omega arith) c.requires.begun) known (omega arith) (omega arith))

pub returns-else-is_full : goal.returns-else-is_full
returns-else-is_full c =
    let w = c.args.format in
    let controls = c.args.self.now.controls in
    let parts = and_parts (nat_le 0x4000 w) (list_all is_control controls) c.requires.words in
    let format = leb-true 0x4000 w parts.0 in
    let place = c.args.self.now.place in
    let known = words_known w controls _ parts.1 (follows_here place w controls format parts.1 c.requires.begun) in
    let room = eqb-false (length controls) 8 (sym c.is_full.ensures.value ∙ c.if-is_full.false) in
    let few : length controls < 8 = omega (arith, known.few, room) in
    waits (0x1D ∷ words_bytes c.args.format c.args.self.now.controls) c.args.byte c.wait_for-in-128-to-255.ensures refl
    (control_goes_on_word place w controls c.args.byte (order_allowed place 0x1D _ (omega arith) c.requires.begun)
    known few (omega arith) (omega arith))

pub returns-in_default : goal.returns-in_default
returns-in_default c =
    bad_next c.args.self.now.place c.args.format c.args.self.now.controls c.args.byte c.requires.words
    (λ h. omega (arith, h.0, h.1)) (omega arith)

pub returns-in_default-2 : goal.returns-in_default-2
returns-in_default-2 c =
    bad_next c.args.self.now.place c.args.format c.args.self.now.controls c.args.byte c.requires.words
    (λ h. omega (arith, h.0, h.1)) (omega arith)
