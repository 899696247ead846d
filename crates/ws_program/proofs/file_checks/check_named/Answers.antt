use Rattle.std.proofs.Common.{refl, inl, inr, subst}
use Rattle.std.proofs.lemmas.Result.{err_from_is_err_and}
use Rattle.ws_text.specs.Printing.{IsOut}
use Rattle.ws_text.specs.declared.output.Output.{Output}
use Rattle.ws_text.proofs.Prints.{whole_out}
use Rattle.ws_program.specs.FileChecks.{named_line}
use Rattle.ws_program.proofs.file_checks.check_named.Goals as goal

pub returns-in_err-verdict-clause-checked : goal.returns-in_err-verdict-clause-checked
returns-in_err-verdict-clause-checked g c =
    let p = err_from_is_err_and c.from_residual.result c.from_residual.ensures.1 in
    rw (p.1, p.2) (inl (refl, inl c.in_err-verdict.ensures.fault))

pub returns-in-Open-clause-checked : goal.returns-in-Open-clause-checked
returns-in-Open-clause-checked g c =
    let f = c.in_ok-verdict.ensures.found in
    let line = named_line c.args.file.now c.in_ok-verdict.verdict c.in_ok-verdict.size in (
      record { name = c.args.file.now; bytes = f.0; verdict = c.in_ok-verdict.verdict },
      refl,
      f.1,
      c.is_accepted.ensures,
      rw f.2 at (subst (λ (o : Output). IsOut g.S.Sink.writer c.args.sink.now.sink c.hand_on.new.out.sink o line)
          c.in-Open.is (c.hand_on.ensures.out c.args.sink.now line c.requires.empty (whole_out c.put_to-output.ensures))),
    )

pub returns-in-Failed-clause-checked : goal.returns-in-Failed-clause-checked
returns-in-Failed-clause-checked g c =
    let f = c.in_ok-verdict.ensures.found in
    let line = named_line c.args.file.now c.in_ok-verdict.verdict c.in_ok-verdict.size in
    inr (
      refl,
      (
        record { name = c.args.file.now; bytes = f.0; verdict = c.in_ok-verdict.verdict },
        rw f.2 at (subst (λ (o : Output). IsOut g.S.Sink.writer c.args.sink.now.sink c.hand_on.new.out.sink o line)
            c.in-Failed.is (c.hand_on.ensures.out c.args.sink.now line c.requires.empty (whole_out
            c.put_to-output.ensures))),
      ),
    )
