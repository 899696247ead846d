use Rattle.ws_printing.proofs.Common.{◌≡◌, map, typed_key}
use Rattle.ws_printing.proofs.script.key_line.typed_keys.Given as goal

-- a key for each character so far
abbrev pub invariant-loop-character : goal.invariant-loop-character
invariant-loop-character g l = l.keys.items
    ≡ map (λ character. g.Q.NamedKey.words.profile (typed_key l.inserts character)) l.yielded
