use Rattle.std.proofs.Common.{refl, sym, subst, ◌∙◌}
use Rattle.ws_script.specs.lines.LiveScript.{BeginsFlush}
use Rattle.ws_script.proofs.LiveScripts.{gathers_none, gathers_more, gathered}
use Rattle.ws_script.proofs.lines.live_line.indented_front.Goals as goal

pub loop-line-init : goal.loop-line-init
loop-line-init c = gathers_none c.args.text.now

pub returns-then-not-is_indented : goal.returns-then-not-is_indented
returns-then-not-is_indented c =
    gathered c.args.text.now c.loop-line.rest.now _ c.loop-line.count c.loop-line.invariant refl
    (subst BeginsFlush (sym c.first_line.ensures.line) (sym c.is_indented.ensures ∙ c.if-not-is_indented.true))

pub loop-line-preserved : goal.loop-line-preserved
loop-line-preserved c =
    gathers_more c.args.text.now c.loop-line.rest.now c.first_line.result.1.now c.first_line.result.0.now
    c.loop-line.count c.loop-line.invariant c.first_line.ensures.line c.first_line.ensures.cut
    c.first_line.ensures.shorter (sym c.is_indented.ensures ∙ c.if-not-is_indented.false)
