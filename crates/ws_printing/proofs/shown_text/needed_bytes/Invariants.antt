use Rattle.ws_printing.proofs.Common.{All, IsNeededBy}
use Rattle.ws_printing.proofs.shown_text.needed_bytes.Given as goal

-- the bytes so far
abbrev pub invariant-loop-character : goal.invariant-loop-character
invariant-loop-character l = All (IsNeededBy l.page l.text) l.needed.items
