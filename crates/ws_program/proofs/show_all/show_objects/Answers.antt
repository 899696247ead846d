use Rattle.std.proofs.Common.{refl}
use Rattle.ws_text.proofs.Prints.{whole_out}
use Rattle.ws_program.specs.AllTold.{IsObjectsEnd, told_in}
use Rattle.ws_program.specs.declared.all_told.Way.TheVariants.{Objects}
use Rattle.ws_program.proofs.AllLines.{end_cut, end_out}
use Rattle.ws_program.proofs.show_all.show_objects.Goals as goal

pub returns-in-Open : goal.returns-in-Open
returns-in-Open g c =
    end_out g.B.Code.rules (told_in Objects g.B.Unit.Listed.lines_of g.B.Shown.view) g.S.Sink.writer c.args.sink.now
    c.tell_all.new.sink c.put_early_object.new.sink c.args.bytes.now c.in_ok-counts.counts c.in_ok-counts.is_whole _
    c.in_ok-counts.ensures.told IsObjectsEnd _ refl c.are_accepted-accepted.result c.are_accepted-accepted.ensures
    (rw c.in-Open.is at (whole_out c.put_early_object.ensures))

pub returns : goal.returns
returns g c =
    end_cut g.B.Code.rules (told_in Objects g.B.Unit.Listed.lines_of g.B.Shown.view) g.S.Sink.writer c.args.sink.now
    c.tell_all.new.sink c.put_early_object.new.sink c.args.bytes.now c.in_ok-counts.counts c.in_ok-counts.is_whole _
    c.in_ok-counts.ensures.told IsObjectsEnd _ refl (rw c.in-Failed.is at (whole_out c.put_early_object.ensures))
