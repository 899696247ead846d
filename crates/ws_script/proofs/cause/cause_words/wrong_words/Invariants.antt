use Rattle.std.proofs.Common.{ℕ, List}
use denote.Shadow.{shadow}
use denote.Text.{Utf8}
use Rattle.ws_script.specs.cause.Causes.{IsLeft}
use Rattle.ws_script.proofs.cause.cause_words.wrong_words.Given as goal

-- what is left of a line after the words so far
abbrev pub invariant-loop-kind : goal.invariant-loop-kind
invariant-loop-kind l = shadow (Utf8 l.last)
    × ((line : List ℕ) → IsLeft line l.fn.first l.fn.behind → IsLeft line l.last l.rest)
