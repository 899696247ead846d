use Rattle.std.proofs.Common.{sym, ◌∙◌, subst}
use Rattle.ws_c.specs.Calls.{crossed}
use Rattle.ws_c.specs.Texts.{IsFieldTextTold}
use Rattle.ws_c.proofs.FieldsWithin.{ends_within}
use Rattle.ws_c.proofs.field_text.tell_text.Goals as goal

pub put_field-requires : goal.put_field-requires
put_field-requires c = ends_within 0 c.args.screen.now.fields c.args.index c.in-Some.field c.known.ensures.legal.apart
    (sym c.field_at.ensures ∙ c.in-Some.is)

pub returns-in-Some : goal.returns-in-Some
returns-in-Some c = let k = c.put_field.ensures in
    subst (λ o. IsFieldTextTold o c.args.page c.args.screen.now
    (crossed c.args.buffer.now c.put_field.new.buffer c.put_field.result c.put_field.new.told))
    (sym (sym c.field_at.ensures ∙ c.in-Some.is))
    (record { state = k.state; room = k.room; put = k.put })
