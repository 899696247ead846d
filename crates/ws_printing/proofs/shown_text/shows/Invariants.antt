use Rattle.ws_printing.proofs.Common.{HasSubslice, ◌≤◌, ◌<◌, ℕ, row_on_page, text_of_shown}
use Rattle.ws_printing.proofs.shown_text.shows.Given as goal

-- no row so far has the text
abbrev pub invariant-loop-row : goal.invariant-loop-row
invariant-loop-row l = (row : ℕ) → row < l.row → 1 ≤ row
    → HasSubslice (text_of_shown (row_on_page l.page l.screen.cells row)) l.text → ⊥
