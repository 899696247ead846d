use Rattle.std.proofs.Common.{◌++◌, ap, ◌∙◌, length}
use Rattle.std.proofs.lemmas.Result.{err_from_is_err_and}
use Rattle.ws_program.specs.AllTold.{IsCheckedEnd, checked_line, file_head, refusals_told}
use Rattle.ws_program.specs.declared.all_told.AllCounts.{AllCounts}
use Rattle.ws_program.proofs.AllLines.{end_cut, end_out}
use Rattle.ws_program.proofs.check_all.check_all_to.Goals as goal

pub returns-in_err-print : goal.returns-in_err-print
returns-in_err-print g c =
    let p = err_from_is_err_and c.from_residual-in_err-print.result c.from_residual-in_err-print.ensures.1 in
    let e = c.in_err-print.ensures.fault in
    let h = c.in_ok-counts.ensures.told in
    let head = file_head c.args.head.0 in
    rw (p.1, p.2 ∙ e.0) (end_cut g.B.Code.rules (refusals_told head) g.S.Sink.writer c.args.sink.now
    c.tell_all.new.sink c.print.new.sink c.args.bytes.now c.in_ok-counts.counts c.in_ok-counts.is_whole _ h
    (IsCheckedEnd head) _ (ap (λ (n : AllCounts). head ++ checked_line n c.in_ok-counts.is_whole
    (length c.args.bytes.now)) h.counted) e.1)

pub returns : goal.returns
returns g c =
    let h = c.in_ok-counts.ensures.told in
    let head = file_head c.args.head.0 in
    end_out g.B.Code.rules (refusals_told head) g.S.Sink.writer c.args.sink.now c.tell_all.new.sink
    c.print.new.sink c.args.bytes.now c.in_ok-counts.counts c.in_ok-counts.is_whole _ h (IsCheckedEnd head) _
    (ap (λ (n : AllCounts). head ++ checked_line n c.in_ok-counts.is_whole (length c.args.bytes.now)) h.counted)
    c.are_accepted.result c.are_accepted.ensures c.in_ok-print.ensures.ok
