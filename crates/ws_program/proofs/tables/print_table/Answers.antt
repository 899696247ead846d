use Rattle.std.proofs.Common.{refl, inr, subst}
use Rattle.ws_text.specs.Printing.{IsOut}
use Rattle.ws_text.specs.declared.output.Output.{Output}
use Rattle.ws_text.proofs.Prints.{whole_out}
use Rattle.ws_program.specs.Tables.{table_text}
use Rattle.ws_program.proofs.tables.print_table.Goals as goal

pub returns-in-Open-clause-done : goal.returns-in-Open-clause-done
returns-in-Open-clause-done g c =
    let text = table_text c.args.table in (
      refl,
      c.if-not-has_output.false,
      subst (λ (o : Output). IsOut g.S.Sink.writer c.args.sink.now.sink c.hand_on.new.out.sink o text) c.in-Open.is
          (c.hand_on.ensures.out c.args.sink.now text c.requires.empty (whole_out c.put_to-output.ensures)),
    )

pub returns-in-Failed-clause-fault : goal.returns-in-Failed-clause-fault
returns-in-Failed-clause-fault g c =
    let text = table_text c.args.table in (
      refl,
      inr (
        c.if-not-has_output.false,
        subst (λ (o : Output). IsOut g.S.Sink.writer c.args.sink.now.sink c.hand_on.new.out.sink o text)
            c.in-Failed.is
            (c.hand_on.ensures.out c.args.sink.now text c.requires.empty (whole_out c.put_to-output.ensures)),
      ),
    )
