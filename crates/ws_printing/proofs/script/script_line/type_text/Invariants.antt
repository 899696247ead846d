use Rattle.ws_printing.proofs.Common.{◌≡◌, ◌++◌, map, Press, typed_key}
use Rattle.ws_printing.proofs.script.script_line.type_text.Given as goal

-- a key for each character so far
abbrev pub invariant-loop-character : goal.invariant-loop-character
invariant-loop-character l = l.moves.items ≡ l.fn.moves.items ++ map (λ c. Press (typed_key l.inserts c)) l.yielded
