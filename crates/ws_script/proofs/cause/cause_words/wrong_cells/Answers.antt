use Rattle.std.proofs.Common.{◌≡◌, ◌++◌, ◌∙◌, List, ℕ, take, drop, sym, ap, append_assoc, rules}
use Rattle.std.proofs.lemmas.List.{take-append-drop}
use Rattle.ws_script.proofs.CauseTexts.{stands_both}
use Rattle.ws_script.proofs.cause.cause_words.wrong_cells.Goals as goal

-- what two parts of a text are
in_two : (rest pair behind : List ℕ) → pair ≡ take 2 rest → behind ≡ drop 2 rest → rest ≡ pair ++ behind
in_two rest pair behind front back = sym (take-append-drop 2 rest)
    ∙ (ap (λ z. z ++ drop 2 rest) (sym front) ∙ ap (λ z. pair ++ z) (sym back))

pub returns-in-Some-wrong_value : goal.returns-in-Some-wrong_value
returns-in-Some-wrong_value c = λ vocabulary line stands.
    let so_far = c.loop-pair.invariant.1 in
    let pair = c.in-Some.pair.now in
    let behind = c.in-Some.behind.now in
    let left = in_two c.loop-pair.rest.now pair behind c.in-Some.ensures.front c.in-Some.ensures.back in
    c.in-Some-wrong_value.ensures vocabulary line (stands_both line c.args.word.now pair stands
    (so_far.0, behind, so_far.1 ∙ ap (λ z. so_far.0 ++ z) left))

pub loop-pair-preserved : goal.loop-pair-preserved
loop-pair-preserved c =
    let so_far = c.loop-pair.invariant.1 in
    let pair = c.in-Some.pair.now in
    let behind = c.in-Some.behind.now in
    let left = in_two c.loop-pair.rest.now pair behind c.in-Some.ensures.front c.in-Some.ensures.back in (
      search rules,
      (so_far.0 ++ pair, so_far.1 ∙ (ap (λ z. so_far.0 ++ z) left ∙ sym (append_assoc so_far.0 pair behind))),
    )
