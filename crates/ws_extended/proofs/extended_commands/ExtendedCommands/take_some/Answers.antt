use Rattle.std.proofs.Common.{List, ℕ, subst, sym}
use Rattle.std.proofs.lemmas.List.{take_more}
use Rattle.ws_code.specs.Run.{IsRunOfValues, intake, with_keep}
use Rattle.ws_extended.specs.ExtendedElements.{extended_rules}
use Rattle.ws_extended.specs.ExtendedRuns.{reading_by}
use Rattle.ws_extended.proofs.extended_commands.ExtendedCommands.take_some.Goals as goal

pub returns-clause-run : goal.returns-clause-run
returns-clause-run g c =
    let values = c.args.values.now in
    subst (λ (xs : List ℕ). IsRunOfValues (intake extended_rules g.K.Keep.keeper)
    (with_keep (reading_by c.args.self.now) c.args.keep.now) xs
    (with_keep (reading_by c.take_byte-end.new.self) c.take_byte-end.new.keep) c.take_byte-end.new.at
    c.take_byte-end.result) (sym (take_more values 0 0 c.requires.some)) c.take_byte-end.ensures
