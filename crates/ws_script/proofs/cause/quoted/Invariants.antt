use Rattle.std.proofs.Common.{◌≡◌, ◌++◌, codes, flat_map, string_bytes}
use Rattle.ws_script.specs.cause.CauseTexts.{shown_character}
use Rattle.ws_script.proofs.cause.quoted.Given as goal

-- each character so far is shown
abbrev pub invariant-loop-character : goal.invariant-loop-character
invariant-loop-character l = string_bytes l.shown ≡ codes " `" ++ flat_map shown_character l.yielded
