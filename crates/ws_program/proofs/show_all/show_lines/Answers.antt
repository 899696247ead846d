use Rattle.std.proofs.Common.{refl}
use Rattle.ws_text.proofs.Prints.{prints_both, whole_out}
use Rattle.ws_program.specs.AllTold.{IsShownEnd, told_in}
use Rattle.ws_program.specs.declared.all_told.Way.TheVariants.{Lines}
use Rattle.ws_program.proofs.AllLines.{end_cut, end_out}
use Rattle.ws_program.proofs.show_all.show_lines.Goals as goal

pub returns-in-Open : goal.returns-in-Open
returns-in-Open g c =
    let h = c.in_ok-counts.ensures.told in
    let put = c.put_end-output.ensures in
    end_out g.B.Code.rules (told_in Lines g.B.Unit.Listed.lines_of g.B.Shown.view) g.S.Sink.writer c.args.sink.now
    c.tell_all.new.sink c.put_early.new.sink c.args.bytes.now c.in_ok-counts.counts c.in_ok-counts.is_whole _ h
    (IsShownEnd (g.B.Shown.Ends c.args.look)) _ (put.0, put.1 h.first.next.state h.made, refl) c.are_accepted.result
    c.are_accepted.ensures (rw c.in-Open.is at (whole_out (prints_both put.2 c.put_early.ensures)))

pub returns : goal.returns
returns g c =
    let h = c.in_ok-counts.ensures.told in
    let put = c.put_end-output.ensures in
    end_cut g.B.Code.rules (told_in Lines g.B.Unit.Listed.lines_of g.B.Shown.view) g.S.Sink.writer c.args.sink.now
    c.tell_all.new.sink c.put_early.new.sink c.args.bytes.now c.in_ok-counts.counts c.in_ok-counts.is_whole _ h
    (IsShownEnd (g.B.Shown.Ends c.args.look)) _ (put.0, put.1 h.first.next.state h.made, refl)
    (rw c.in-Failed.is at (whole_out (prints_both put.2 c.put_early.ensures)))
