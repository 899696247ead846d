use Rattle.ws_printing.proofs.Common.{◌≡◌, ◌++◌, ℕ, List, [], length, ap, sym, ◌∙◌, arith, rules, append_assoc}
use Rattle.ws_printing.proofs.Common.{append-nil, length-append, nil_from_length, refused_append}
use Rattle.ws_printing.proofs.check.verdict_of.Goals as goal

-- a piece of what is left goes on after what was before
parts : (bytes before rest piece left : List ℕ) → before ++ rest ≡ bytes → rest ≡ piece ++ left
    → (before ++ piece) ++ left ≡ bytes
parts bytes before rest piece left e f = append_assoc before piece left ∙ ap (λ (l : List ℕ). before ++ l) (sym f) ∙ e

pub loop-piece-init : goal.loop-piece-init
loop-piece-init g c = (search rules, tt, search rules, [], search rules, search rules)

pub returns-in-Some-take : goal.returns-in-Some-take
returns-in-Some-take g c =
    let bytes = c.args.bytes.now in
    let before = c.loop-piece.invariant.3 in
    let piece = c.in-Some.piece.now in
    let all = parts bytes before _ piece _ c.loop-piece.invariant.5 c.in-Some.ensures.steps.1.0 in
    rw (← all) (refused_append g.B.Code.rules (before ++ piece) _ _ _
    (c.in-Some-take.ensures before c.loop-piece.invariant.4 (omega (arith, simp length-append at (ap length all)))))

pub loop-piece-preserved : goal.loop-piece-preserved
loop-piece-preserved g c =
    let bytes = c.args.bytes.now in
    let before = c.loop-piece.invariant.3 in
    let piece = c.in-Some.piece.now in
    let all = parts bytes before _ piece _ c.loop-piece.invariant.5 c.in-Some.ensures.steps.1.0 in (
      search rules,
      tt,
      c.in-Some.ensures.steps.0 ∙ c.loop-piece.invariant.2,
      before ++ piece,
      c.in-None-take.ensures before c.loop-piece.invariant.4 (omega (arith, simp length-append at (ap length all))),
      all,
    )

pub returns : goal.returns
returns g c =
    let i = c.loop-piece.invariant in
    rw (← i.5, nil_from_length _ c.in-None.ensures.steps.1.0, append-nil i.3)
    (c.finish.ensures i.3 i.4 (omega (arith, simp length-append at (ap length i.5))))
