use Rattle.std.proofs.Common.{sym, ◌∙◌}
use Rattle.ws_screen.proofs.EditLemmas.{open_within}
use Rattle.ws_keys.proofs.field_keys.entered_field.Goals as goal

pub returns-in-Some : goal.returns-in-Some
returns-in-Some c =
    let open_ = sym c.open_field.ensures.value ∙ c.in-Some.is in
    let within = open_within c.args.screen.now c.in-Some.field c.open_field.ensures.legal open_ in
    (sym c.locked.ensures ∙ c.if-locked.false, open_, within.0, within.1)
