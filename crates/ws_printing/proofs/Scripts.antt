-- The lines of a script, and their moves.

use Rattle.ws_record.specs.declared.opcode.Opcode.{Opcode}
use Rattle.ws_session.specs.declared.world.Move.{Move}
use Rattle.ws_printing.proofs.Common as C
use C.{length-append, scalars-chars, encodes-chars, AreTypedMoves, append_assoc, on_ok_weaker, IfErr-weaker}
use C.{IsSendOpcode, IsRecordText, IsScriptLine, ScriptFault, false≢true, append-nil, IsBodyText, MeansMoves, ToStation}
use C.{typed_key, key_named, bytes_eq, AreLines, inserted, Element, IsCount, comment, Result, IsUtf8, length, Cancel}
use C.{ToHost, Memory, IsMove, settle, codes, IfErr, chars, lines, false, arith, Press, empty, typed, Some, OnOk, List, Ok, Err}
use C.{◌++◌, Bool, true, refl, Send, Line, Key, map, ◌≡◌, ◌≢◌, ◌+◌, ◌<◌, ◌≤◌, ◌∷◌, inl, inr, sym, ◌∙◌, one, [], ap, ℕ}
use Rattle.ws_printing.specs.script.ScriptFaults.{AreAdded, IsNoComment, IsLineFault, IsGoodSoFar, has_no_blank}
use Rattle.ws_printing.proofs.ScriptWords.{differ, blank_inside, split_unique, digits_have_no_blank}

-- a fault of a part, as one of what holds the part
pub fault_on : {X Y A B : Type 0} (P : X → Type 0) (Q : Y → Type 0) (fault : ScriptFault)
    → (((x : X) → P x → ⊥) → (y : Y) → Q y → ⊥) → (A → B) → IsLineFault P A fault → IsLineFault Q B fault
fault_on P Q (Line at) f good h = (h.0, f h.1)
fault_on P Q Memory f good h = good h

-- a growth was refused, where what was read is good
pub only_memory : {X A : Type 0} (P : X → Type 0) (fault : ScriptFault) → fault ≡ Memory → A → IsLineFault P A fault
only_memory P fault e good = rw e good

-- moves are added, or a growth was refused
pub adds : {A : Type 0} (old new : List Move) (P : List Move → Type 0) (result : Result (Unit {0}) ScriptFault)
    (given : List Move) → P given → A → OnOk result (new ≡ old ++ given) → IfErr result (λ fault. fault ≡ Memory)
    → AreAdded P A old new result
adds old new P (Ok done) given is good ok err = (given, is, ok)
adds old new P (Err fault) given is good ok err = only_memory P fault err good

-- a line that is a text in UTF-8 means what the text means
pub line_added : {text line : List ℕ} (old new : List Move) (result : Result (Unit {0}) ScriptFault) → text ≡ line
    → IsUtf8 line → AreAdded (MeansMoves text) (IsGoodSoFar text) old new result
    → AreAdded (IsScriptLine line) (IsUtf8 line × IsGoodSoFar line) old new result
line_added old new (Ok done) same is h = (h.0, (is, rw same at h.1), h.2)
line_added {text} {line} old new (Err fault) same is h = fault_on (MeansMoves text) (IsScriptLine line) fault
    (λ refused moves l. refused moves (rw same l.1)) (λ (good : IsGoodSoFar text). (is, rw same at good)) h

-- a line more, and its moves
are_lines_more : (before : List (List ℕ)) (moves : List Move) (line : List ℕ) (given : List Move)
    → AreLines before moves → IsScriptLine line given → AreLines (before ++ line ∷ []) (moves ++ given)
are_lines_more [] moves line given e l = (given, [], l, refl, ap (λ z. z ++ given) e ∙ sym (append-nil given))
are_lines_more (first ∷ before) moves line given h l = (
  h.0,
  h.1 ++ given,
  h.2,
  are_lines_more before h.1 line given h.3 l,
  ap (λ z. z ++ given) h.4
      ∙ append_assoc h.0 h.1 given,
)

-- so many lines of a text are read, and their moves; the rest is behind them
pub record Reads (text rest : List ℕ) (moves : List Move) (number : ℕ) : Type 0 where
  pub before : List (List ℕ)
  pub split : lines text ≡ before ++ lines rest
  pub good : AreLines before moves
  pub counted : number ≡ length before
  pub few : length before + length rest ≤ length text

pub reads_more : (text rest behind line : List ℕ) (moves given next : List Move) (number : ℕ)
    → Reads text rest moves number → lines rest ≡ line ∷ lines behind → length behind < length rest → IsScriptLine line given
    → next ≡ moves ++ given → Reads text behind next (number + 1)
reads_more text rest behind line moves given next number r e shorter l is = record {
  before = r.before ++ line ∷ [];
  split = r.split ∙ ap (λ z. r.before ++ z) e ∙ sym (append_assoc r.before (line ∷ []) (lines behind));
  good = rw is (are_lines_more r.before moves line given r.good l);
  counted = omega (arith, r.counted, length-append r.before (line ∷ []));
  few = omega (arith, r.few, length-append r.before (line ∷ []));
}

-- keys for any text
typed_any : (inserts : Bool) (text : List ℕ) → IsUtf8 text → (moves : List Move) × AreTypedMoves inserts text moves
typed_any inserts text is = (
  map (λ x. Press (typed_key inserts x)) (chars text),
  record { characters = chars text; are = scalars-chars text is; spelled = encodes-chars text is; typed = refl },
)

-- keys for a text are added as what this line means
pub adds_keys : (old new : List Move) (inserts : Bool) (text line : List ℕ) (result : Result (Unit {0}) ScriptFault)
    → IsUtf8 text → ((moves : List Move) → AreTypedMoves inserts text moves → MeansMoves line moves)
    → OnOk result ((given : List Move) × AreTypedMoves inserts text given × (new ≡ old ++ given))
    → IfErr result (λ fault. fault ≡ Memory) → AreAdded (MeansMoves line) (IsGoodSoFar line) old new result
adds_keys old new inserts text line (Ok done) is means ok err = (ok.0, means ok.0 ok.1, ok.2)
adds_keys old new inserts text line (Err fault) is means ok err =
    let any = typed_any inserts text is in only_memory (MeansMoves line) fault err (inl (any.0, means any.0 any.1))

-- WHAT NO LINE MEANS

no_word_moves : (word : List ℕ) → has_no_blank word ≡ true → (word ≡ codes "cancel" → ⊥) → (step : Move)
    → IsMove word step → ⊥
no_word_moves word free other Cancel m = other m
no_word_moves word free other step m = false≢true (ap has_no_blank (sym m.1) ∙ free)

-- a word is `cancel` or `settle`
pub no_word : (word : List ℕ) → 0 < length word → has_no_blank word ≡ true → IsNoComment word
    → (word ≡ codes "cancel" → ⊥) → (word ≡ codes "settle" → ⊥) → (moves : List Move) → MeansMoves word moves → ⊥
no_word word some free plain other another moves (empty e z) = absurd (omega (arith, ap length e))
no_word word some free plain other another moves (comment text e z) = plain text e
no_word word some free plain other another moves (one step m z) = no_word_moves word free other step m
no_word word some free plain other another moves (settle e z) = another e
no_word word some free plain other another moves (typed text e t) = false≢true (ap has_no_blank (sym e) ∙ free)
no_word word some free plain other another moves (inserted text e t) = false≢true (ap has_no_blank (sym e) ∙ free)

-- a command that types nothing is one move
pub no_command : (command words : List ℕ) → has_no_blank command ≡ true → IsNoComment ((command ++ codes " ") ++ words)
    → (command ≡ codes "type" → ⊥) → (command ≡ codes "insert" → ⊥)
    → ((step : Move) → IsMove ((command ++ codes " ") ++ words) step → ⊥) → (moves : List Move)
    → MeansMoves ((command ++ codes " ") ++ words) moves → ⊥
no_command command words free plain other another none_is moves (empty e z) = blank_inside command words
    (ap has_no_blank e)
no_command command words free plain other another none_is moves (comment text e z) = plain text e
no_command command words free plain other another none_is moves (one step m z) = none_is step m
no_command command words free plain other another none_is moves (settle e z) = blank_inside command words
    (ap has_no_blank e)
no_command command words free plain other another none_is moves (typed text e t) =
    other (split_unique command (codes "type") words text free refl e).0
no_command command words free plain other another none_is moves (inserted text e t) =
    another (split_unique command (codes "insert") words text free refl e).0

-- a word isn't two words
pub not_both : {A : Type 0} {command : List ℕ} (a b : List ℕ) → bytes_eq a b ≡ false → command ≡ a → command ≡ b → A
not_both a b f d e = absurd (differ a b f (sym d ∙ e))

-- a first word and what stands after it are no move where none of the four commands with such words is meant
pub no_move : (command words : List ℕ) → has_no_blank command ≡ true
    → (command ≡ codes "send" → (opcode : Opcode) (body : List Element) → IsRecordText words opcode body → ⊥)
    → (command ≡ codes "down" → (n : ℕ) → IsCount words n → ⊥) → (command ≡ codes "up" → (n : ℕ) → IsCount words n → ⊥)
    → (command ≡ codes "key" → (name : Key) → key_named words ≡ Some name → ⊥) → (step : Move)
    → IsMove ((command ++ codes " ") ++ words) step → ⊥
no_move command words free send down up key (Send opcode body) m =
    let u = split_unique command (codes "send") words m.0 free refl m.1 in send u.0 opcode body (rw u.1 m.2)
no_move command words free send down up key Cancel m = blank_inside command words (ap has_no_blank m)
no_move command words free send down up key (ToStation n) m =
    let u = split_unique command (codes "down") words m.0 free refl m.1 in down u.0 n (rw u.1 m.2)
no_move command words free send down up key (ToHost n) m =
    let u = split_unique command (codes "up") words m.0 free refl m.1 in up u.0 n (rw u.1 m.2)
no_move command words free send down up key (Press name) m =
    let u = split_unique command (codes "key") words m.0 free refl m.1 in key u.0 name (rw u.1 m.2)

-- two are an opcode and a body
pub record_parts : (number hex : List ℕ) → has_no_blank number ≡ true → (opcode : Opcode) (body : List Element)
    → IsRecordText ((number ++ codes " ") ++ hex) opcode body → IsSendOpcode number opcode × (hex ≢ [])
    × IsBodyText hex body
record_parts number hex free opcode body r = elim r.rest [
  | inl p ↦ absurd (blank_inside number hex (ap has_no_blank p.0 ∙ digits_have_no_blank r.number r.sent.0.0.1))
  | inr p ↦ (
      let u = split_unique number r.number hex p.0 free (digits_have_no_blank r.number r.sent.0.0.1) p.1 in
      (rw u.0 r.sent, rw u.1 p.2, rw u.1 p.3))
]

pub no_send : (words number hex : List ℕ) → words ≡ (number ++ codes " ") ++ hex → has_no_blank number ≡ true
    → ((opcode : Opcode) (body : List Element) → IsSendOpcode number opcode → hex ≢ [] → IsBodyText hex body → ⊥)
    → (step : Move) → IsMove (codes "send " ++ words) step → ⊥
no_send words number hex e free none_is = no_move (codes "send") words refl (λ same opcode body r.
    let parts = record_parts number hex free opcode body (rw e at r) in
    none_is opcode body parts.0 parts.1 parts.2) (not_both (codes "send") (codes "down") refl refl)
    (not_both (codes "send") (codes "up") refl refl) (not_both (codes "send") (codes "key") refl refl)
