use Rattle.std.proofs.Common.{◌≡◌, sym, subst, arith}
use Rattle.std.proofs.lemmas.Grind.{common_steps}
use Rattle.ws_screen.specs.declared.read_kind.ReadKind.{ReadKind}
use Rattle.ws_keys.specs.Contents.{answer_bytes}
use Rattle.ws_keys.proofs.AnswerLemmas.{input_body, modified_body, not_input}
use Rattle.ws_keys.proofs.answer.spell_with_data.Goals as goal

pub returns-in-Input : goal.returns-in-Input
returns-in-Input c =
    subst (λ (k : ReadKind). c.spell_input.new.into.items ≡ answer_bytes k c.args.screen.now c.args.key)
    (sym c.in-Input.is)
    (input_body c.args.screen.now c.args.key c.head-bytes.result.items c.spell_input.new.into.items
    c.requires c.head-bytes.ensures.items c.spell_input.ensures)

pub returns-in-Mdt : goal.returns-in-Mdt
returns-in-Mdt c =
    modified_body c.args.kind c.args.screen.now c.args.key c.head-bytes.result.items c.spell_modified.new.into.items
    (not_input c.args.kind c.in-Mdt.is) c.requires
    c.head-bytes.ensures.items c.spell_modified.ensures

pub spell_input-requires-clause-fields : goal.spell_input-requires-clause-fields
spell_input-requires-clause-fields c = grind (arith, common_steps)

pub spell_modified-requires : goal.spell_modified-requires
spell_modified-requires c = grind (arith, common_steps)
