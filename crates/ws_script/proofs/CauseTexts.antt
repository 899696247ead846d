-- Where words stand in a line.

use Rattle.std.specs.Prelude.{Option, None, Some}
use Rattle.std.proofs.Common.{◌≡◌, ◌++◌, ◌∷◌, [], List, ℕ, true, sym, ap, ◌∙◌, inl, inr, append_assoc, Bor, zero, suc, drop}
use Rattle.std.proofs.lemmas.List.{append-nil}
use Rattle.ws_script.specs.cause.Causes.{behind_word, BeginsWith, StandsIn, EndsWith, IsLeft, IsTrueOf, IsCause}
use Rattle.ws_script.specs.declared.cause.Cause.{Cause}
use Rattle.ws_script.specs.declared.cause.Cause.TheVariants as a_cause
use Rattle.ws_script.specs.declared.cause.vocabulary.Vocabulary.{Vocabulary}
use Rattle.ws_printing.specs.script.ScriptFaults.{has_no_blank}

-- what stands after a blank at a line's end stands at its end
pub behind_blank : (line words : List ℕ) → EndsWith line (32 ∷ words) → EndsWith line words
behind_blank line words e = (e.0 ++ (32 ∷ []), e.1 ∙ sym (append_assoc e.0 (32 ∷ []) words))

-- a word in a text at a line's end, and what is left after it
pub stands_at : (line text word behind : List ℕ) → EndsWith line text → text ≡ word ++ behind → StandsIn line word
stands_at line text word behind e is = (e.0, behind, e.1 ∙ ap (λ z. e.0 ++ z) is)

pub left_by : (line text word : List ℕ) (behind : Option (Bor (List ℕ))) → EndsWith line text
    → text ≡ word ++ behind_word behind → IsLeft line word behind
left_by line text word None e is = (e.0, e.1 ∙ ap (λ z. e.0 ++ z) (is ∙ append-nil word))
left_by line text word (Some b) e is =
    (e.0 ++ word, e.1 ∙ ap (λ z. e.0 ++ z) is ∙ sym (append_assoc e.0 word (32 ∷ b.now)))

pub begins_with : (text word : List ℕ) (behind : Option (Bor (List ℕ))) → has_no_blank word ≡ true
    → text ≡ word ++ behind_word behind → BeginsWith text word
begins_with text word None free is = (free, inl (is ∙ append-nil word))
begins_with text word (Some b) free is = (free, inr (b.now, is))

-- a word of a line's word stands in the line
pub stands_both : (line word part : List ℕ) → StandsIn line word → StandsIn word part → StandsIn line part
stands_both line word part o i =
    (o.0 ++ i.0, i.1 ++ o.1, o.2 ∙ (ap (λ z. o.0 ++ (z ++ o.1)) i.2 ∙ simp append_assoc))

-- what is true of a word of a line is true of the line
pub of_line : (v : Vocabulary) (line : List ℕ) (cause : Cause) → IsTrueOf v line cause → IsCause v line cause
of_line v line a_cause.NotUtf8 h = absurd h
of_line v line a_cause.BlankInFront h = absurd h
of_line v line (a_cause.UnknownWord word known) h = absurd h
of_line v line (a_cause.Misplaced word) h = absurd h
of_line v line a_cause.Apart h = absurd h
of_line v line cause h = h

-- the lines after so many, and one more
pub drop_next : (i : ℕ) (lines : List (List ℕ)) (line : List ℕ) (behind : List (List ℕ))
    → drop i lines ≡ line ∷ behind → drop (suc i) lines ≡ behind
drop_next zero [] line behind e = cc
drop_next zero (x ∷ lines) line behind e = cc
drop_next (suc i) [] line behind e = cc
drop_next (suc i) (x ∷ lines) line behind e = drop_next i lines line behind e
