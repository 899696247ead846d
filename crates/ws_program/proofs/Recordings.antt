use Rattle.std.specs.Char.{is_ascii_digit}
use Rattle.std.specs.List.{list_all, position_or_len}
use Rattle.std.specs.Prelude.{codes, IsErr}
use Rattle.std.specs.Str.Lines.{lines}
use Rattle.std.proofs.Common.{◌≡◌, ℕ, suc, ◌+◌, ◌<◌, ◌≤◌, List, [], ◌∷◌, ◌++◌, Bool, true, false, cond, not, ◌&&◌}
use Rattle.std.proofs.Common.{length, take, drop, refl, sym, ap, ◌∙◌, subst, arith, append_assoc, length-append}
use Rattle.std.proofs.Common.{take-append-drop, length-take, Result, Ok, Err}
use Rattle.std.proofs.Math.Seq.{take-append_seam, drop-append_seam}
use Rattle.std.proofs.lemmas.Bool.{and_parts, and_from}
use Rattle.std.proofs.lemmas.List.{append-nil, append_cancel_left}
use Rattle.hex.specs.Hex.{decode_of}
use Rattle.hex.specs.declared.error.FromHexError.{FromHexError}
use Rattle.ws_program.specs.HexText.{without_blanks}
use Rattle.ws_program.specs.Recorded.{IsPieceLine, IsOtherLine, AreSent, IsSentIn, end_word, piece_of}
use Rattle.ws_program.specs.declared.words.command_line.RecordedEnd.{RecordedEnd}
use Rattle.ws_program.specs.declared.words.command_line.RecordedEnd.TheVariants.{Host, Station}

-- The lines of a recording.

abbrev pub is_other : ℕ → Bool
is_other b = not (is_ascii_digit b)

-- digits up to a blank are those that a text begins with
time_end : (time rest : List ℕ) → list_all is_ascii_digit time ≡ true
    → position_or_len is_other (time ++ 32 ∷ rest) ≡ length time
time_end [] rest h = refl
time_end (x ∷ time) rest h =
    let both = and_parts (is_ascii_digit x) (list_all is_ascii_digit time) h in
    let more = time_end time rest both.1 in
    let longer : 1 + position_or_len is_other (time ++ 32 ∷ rest) ≡ length (x ∷ time) = omega (arith, more) in
    ap (λ b. cond (not (not b)) (1 + position_or_len is_other (time ++ 32 ∷ rest)) 0) both.0 ∙ longer

digit_first : (x : ℕ) (line : List ℕ) (b : Bool) → is_ascii_digit x ≡ b
    → list_all is_ascii_digit (take (position_or_len is_other line) line) ≡ true
    → list_all is_ascii_digit (take (cond (not (not b)) (1 + position_or_len is_other line) 0) (x ∷ line)) ≡ true
digit_first x line false e h = refl
digit_first x line true e h =
    let on : suc (position_or_len is_other line) ≡ 1 + position_or_len is_other line = omega arith in
    subst (λ n. list_all is_ascii_digit (take n (x ∷ line)) ≡ true) on
    (and_from (is_ascii_digit x) (list_all is_ascii_digit (take (position_or_len is_other line) line)) e h)

-- the digits that a text begins with
pub front_digits : (line : List ℕ) → list_all is_ascii_digit (take (position_or_len is_other line) line) ≡ true
front_digits [] = refl
front_digits (x ∷ line) = digit_first x line (is_ascii_digit x) refl (front_digits line)

-- what stands behind a time begins with a blank
word_begins : (sender : RecordedEnd) (hex : List ℕ) → (rest : List ℕ) × (end_word sender ++ hex ≡ 32 ∷ rest)
word_begins Host hex = (drop 1 (codes " host ") ++ hex, refl)
word_begins Station hex = (drop 1 (codes " station ") ++ hex, refl)

-- the parts of a line
cut_time : (line time rest : List ℕ) → line ≡ time ++ (32 ∷ rest) → list_all is_ascii_digit time ≡ true
    → (take (position_or_len is_other line) line ≡ time) × (drop (position_or_len is_other line) line ≡ 32 ∷ rest)
cut_time line time rest e h =
    let at : position_or_len is_other line ≡ length time = ap (position_or_len is_other) e ∙ time_end time rest h in (
      ap (λ n. take n line) at ∙ ap (take (length time)) e ∙ take-append_seam time (32 ∷ rest),
      ap (λ n. drop n line) at ∙ ap (drop (length time)) e ∙ drop-append_seam time (32 ∷ rest),
    )

pub line_parts : (line : List ℕ) (sender : RecordedEnd) (bytes : List ℕ) (p : IsPieceLine line sender bytes)
    → (take (position_or_len is_other line) line ≡ p.milliseconds)
    × (drop (position_or_len is_other line) line ≡ end_word sender ++ p.hex)
line_parts line sender bytes p =
    let word = word_begins sender p.hex in
    let c = cut_time line p.milliseconds word.0 (p.said ∙ ap (λ z. p.milliseconds ++ z) word.1) p.time.1 in
    (c.0, c.1 ∙ sym word.1)

-- WHAT NO LINE IS

pub timeless : (line : List ℕ) → position_or_len is_other line ≡ 0 → IsOtherLine line
timeless line none = λ sender bytes p.
    let parts = line_parts line sender bytes p in
    absurd (omega (arith, none, p.time.0, ap length parts.0, length-take (position_or_len is_other line) line))

pub wordless : (line rest : List ℕ) → rest ≡ drop (position_or_len is_other line) line
    → ((sender : RecordedEnd) (hex : List ℕ) → rest ≡ end_word sender ++ hex → ⊥) → IsOtherLine line
wordless line rest e none = λ sender bytes p. none sender p.hex (e ∙ (line_parts line sender bytes p).1)

-- a word and what stands behind it
same_hex : (a b : RecordedEnd) (x y : List ℕ) → end_word a ++ x ≡ end_word b ++ y → x ≡ y
same_hex Host Host x y e = append_cancel_left (codes " host ") x y e
same_hex Station Station x y e = append_cancel_left (codes " station ") x y e
same_hex Host Station x y e =
    let h : ℕ = 104 in
    let s : ℕ = 115 in
    let two : h ≡ s = cc in absurd (omega (arith, two))
same_hex Station Host x y e =
    let h : ℕ = 104 in
    let s : ℕ = 115 in
    let two : s ≡ h = cc in absurd (omega (arith, two))

no_bytes : (r : Result (List ℕ) FromHexError) (bytes : List ℕ) → IsErr r → r ≡ Ok bytes → ⊥
no_bytes (Ok found) bytes none e = let two : false ≡ true = none in cc
no_bytes (Err fault) bytes none e = cc

pub hexless : (line rest hex : List ℕ) (sender : RecordedEnd) → rest ≡ drop (position_or_len is_other line) line
    → rest ≡ end_word sender ++ hex → IsErr (decode_of (without_blanks hex)) → IsOtherLine line
hexless line rest hex sender e word none = λ s bytes p.
    let parts = line_parts line s bytes p in
    let same : hex ≡ p.hex = same_hex sender s hex p.hex (sym word ∙ e ∙ parts.1) in
    no_bytes (decode_of (without_blanks p.hex)) bytes
    (subst (λ (z : List ℕ). IsErr (decode_of (without_blanks z))) same none) p.spelled

-- and what one is
pub pieced : (line rest hex : List ℕ) (sender : RecordedEnd) → rest ≡ drop (position_or_len is_other line) line
    → rest ≡ end_word sender ++ hex
    → line ≡ take (position_or_len is_other line) line ++ (end_word sender ++ hex)
pieced line rest hex sender e word =
    sym (take-append-drop (position_or_len is_other line) line)
    ∙ ap (λ z. take (position_or_len is_other line) line ++ z) (sym e ∙ word)

-- WHAT AN END SENT

-- a line more
pub are_sent_more : (end : RecordedEnd) (before : List (List ℕ)) (sent line : List ℕ) (sender : RecordedEnd)
    (piece : List ℕ) → AreSent end before sent → IsPieceLine line sender piece
    → AreSent end (before ++ line ∷ []) (sent ++ piece_of end sender piece)
are_sent_more end [] sent line sender piece e l = (
  sender,
  piece,
  [],
  l,
  refl,
  ap (λ z. z ++ piece_of end sender piece) e ∙ sym (append-nil
      (piece_of end sender piece)),
)
are_sent_more end (first ∷ before) sent line sender piece h l = (
  h.0,
  h.1,
  h.2 ++ piece_of end sender piece,
  h.3,
  are_sent_more end before h.2 line sender piece h.4 l,
  ap (λ z. z ++ piece_of end sender piece) h.5
      ∙ append_assoc (piece_of end h.0 h.1) h.2 (piece_of end sender piece),
)

-- so many lines of a text are read; what an end sent by them is held, unless a growth was refused
pub record SentSoFar (end : RecordedEnd) (text rest : List ℕ) (number : ℕ) (is_whole : Bool) (held : List ℕ)
    : Type 0 where
  pub before : List (List ℕ)
  pub split : lines text ≡ before ++ lines rest
  pub sent : (any : RecordedEnd) → (bytes : List ℕ) × AreSent any before bytes
  pub holds : is_whole ≡ true → AreSent end before held
  pub counted : number ≡ length before
  pub few : length before + length rest ≤ length text

pub sent_more : (end : RecordedEnd) (text rest behind line : List ℕ) (number : ℕ) (is_whole is_added : Bool)
    (held next : List ℕ) (sender : RecordedEnd) (piece : List ℕ) → SentSoFar end text rest number is_whole held
    → lines rest ≡ line ∷ lines behind → length behind < length rest → IsPieceLine line sender piece
    → (is_added ≡ true → next ≡ held ++ piece_of end sender piece)
    → SentSoFar end text behind (number + 1) (is_whole && is_added) next
sent_more end text rest behind line number is_whole is_added held next sender piece s e shorter l added = record {
  before = s.before ++ line ∷ [];
  split = s.split ∙ ap (λ z. s.before ++ z) e ∙ sym (append_assoc s.before (line ∷ []) (lines behind));
  sent = λ any.
      let so_far = s.sent any in
      (so_far.0 ++ piece_of any sender piece, are_sent_more any s.before so_far.0 line sender piece so_far.1 l);
  holds = λ h.
      let both = and_parts is_whole is_added h in
      subst (λ (z : List ℕ). AreSent end (s.before ++ line ∷ []) z) (sym (added both.1))
      (are_sent_more end s.before held line sender piece (s.holds both.0) l);
  counted = omega (arith, s.counted, length-append s.before (line ∷ []));
  few = omega (arith, s.few, length-append s.before (line ∷ []));
}

-- all are read
all_read : (end : RecordedEnd) (text rest : List ℕ) (number : ℕ) (is_whole : Bool) (held : List ℕ)
    (s : SentSoFar end text rest number is_whole held) → rest ≡ [] → lines text ≡ s.before
all_read end text rest number is_whole held s e = s.split ∙ ap (λ z. s.before ++ lines z) e ∙ append-nil s.before

pub some_sent : (end : RecordedEnd) (text rest : List ℕ) (number : ℕ) (is_whole : Bool) (held : List ℕ)
    → SentSoFar end text rest number is_whole held → rest ≡ [] → (bytes : List ℕ) × IsSentIn end bytes text
some_sent end text rest number is_whole held s e =
    let so_far = s.sent end in (
      so_far.0,
      subst (λ (z : List (List ℕ)). AreSent end z so_far.0) (sym (all_read end text rest number is_whole held s e))
          so_far.1,
    )
