use Rattle.std.specs.Prelude.{Ok, Err}
use Rattle.std.proofs.Common.{◌≡◌, length, false, true, refl, subst}
use Rattle.std.proofs.lemmas.Result.{err_from_is_err_and}
use Rattle.ws_code.specs.declared.fault.Fault.TheVariants as faults
use Rattle.ws_text.specs.Printing.{IsOut}
use Rattle.ws_text.specs.declared.output.Output.{Output}
use Rattle.ws_text.proofs.Prints.{whole_out}
use Rattle.ws_printing.specs.declared.verdict.Verdict.TheVariants.{Truncated}
use Rattle.ws_program.proofs.Shows.{ends_accepted, ends_early, lines_out, printed_behind}
use Rattle.ws_program.proofs.show.write_end.Goals as goal

pub returns-in_err-verdict_by_fault : goal.returns-in_err-verdict_by_fault
returns-in_err-verdict_by_fault g c = λ from bytes h fits.
    let early = c.in-Err.ensures.truncated bytes _ h.received fits in
    let none = rw early.0 at c.in_err-verdict_by_fault.ensures in cc

pub returns-in-Err : goal.returns-in-Err
returns-in-Err g c = λ from bytes h fits.
    let early = c.in-Err.ensures.truncated bytes _ h.received fits in
    let told = rw early.0 at c.in_ok-verdict_by_fault.ensures in
    let same : c.in_ok-verdict_by_fault.field-0 ≡ Truncated (length bytes) = cc in
    printed_behind g.S.Sink.writer from c.args.sink.now c.write_to.new.sink _ bytes false
    (lines_out h) _ h.went_out
    (ends_early h early.1) c.write_to.result
    (rw same at c.write_to.ensures.printed) (rw same at c.write_to.ensures.fault)

pub returns-in-Open : goal.returns-in-Open
returns-in-Open g c = λ from bytes h fits.
    let put = c.put_end.ensures in
    printed_behind g.S.Sink.writer from c.args.sink.now c.put_end.new.sink _ bytes true
    (lines_out h) put.0 h.went_out
    (ends_accepted h (c.in_default.ensures.ok.1 bytes _ h.received) put.0 put.1)
    (Ok true) (
      refl,
      subst (λ (o : Output). IsOut g.S.Sink.writer c.args.sink.now c.put_end.new.sink o put.0)
          c.in-Open.is (whole_out put.2),
    ) tt

pub returns-in-Failed : goal.returns-in-Failed
returns-in-Failed g c = λ from bytes h fits.
    let put = c.put_end.ensures in
    printed_behind g.S.Sink.writer from c.args.sink.now c.put_end.new.sink _ bytes true
    (lines_out h) put.0 h.went_out
    (ends_accepted h (c.in_default.ensures.ok.1 bytes _ h.received) put.0 put.1)
    (Err faults.Write) tt (
      refl,
      subst (λ (o : Output). IsOut g.S.Sink.writer c.args.sink.now c.put_end.new.sink o put.0)
          c.in-Failed.is (whole_out put.2),
    )
