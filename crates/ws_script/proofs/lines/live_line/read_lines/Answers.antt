use Rattle.std.specs.Prelude.{if◌then◌else◌, Some}
use Rattle.std.proofs.Common.{◌+◌, ◌++◌, ◌∷◌, [], Bool, not, ap, refl, ◌∙◌}
use Rattle.ws_script.specs.declared.lines.live_line.NumberedLine.{NumberedLine}
use Rattle.ws_script.proofs.LiveScripts.{reads_more}
use Rattle.ws_script.proofs.lines.live_line.read_lines.Goals as goal

pub loop-rest-preserved : goal.loop-rest-preserved
loop-rest-preserved g c =
    let read = c.loop-rest.read.items in
    let x : NumberedLine g.row.L.Denot = record { number = Some (c.loop-rest.number + 1); line = c.in-Ok.line } in
    reads_more g.L.LiveLine.language c.args.text.now c.loop-rest.rest.now c.first_line.result.1.now
    c.inside_of-inside.result.behind.now c.first_line.result.0.now c.inside_of-inside.result.text.now read
    c.push.new.self.items x c.loop-rest.number c.inside_of-inside.result.count c.loop-rest.invariant
    c.first_line.ensures.line c.first_line.ensures.shorter c.inside_of-inside.ensures c.in-Ok.ensures.line refl
    (c.push.ensures.items ∙ ap (λ (b : Bool). if b then (read ++ x ∷ []) else read)
    (c.is_err.ensures.negation ∙ ap not c.if-is_err.false))
