-- What a field's format word asks of an operator beside the profile (SC30-3533, field format word): which keys are held
-- up, what the others set, and after which of them Enter follows.
use Rattle.std.specs.Prelude.{ℕ, ◌-◌, ◌/◌, ◌%◌, List, [], ◌∷◌, ◌++◌, Bool, false, Option, Some, None, length}
use Rattle.std.specs.Prelude.{◌==◌, ◌&&◌, ◌||◌, not, is_some, slice_index, unwrap_or, if◌then◌else◌}
use Rattle.std.specs.List.{list_any}
use Rattle.ws_code.specs.CodePage.{byte_on, page_number}
use Rattle.ws_code.specs.Ebcdic.{char_of}
use Rattle.ws_code.specs.FormatWord.{is_modified, is_monocase, shift_number}
use Rattle.ws_code.specs.declared.code_page.CodePage.{CodePage}
use Rattle.ws_screen.specs.Events.{Edit}
use Rattle.ws_screen.specs.Keyed.{cells_of, open_field, returns_data}
use Rattle.ws_screen.specs.ScreenParts.{ScreenParts, is_non_bypass}
use Rattle.ws_screen.specs.declared.field.Field.{Field}
use Rattle.ws_keys.specs.Contents.{is_signed}
use Rattle.ws_keys.specs.Edits.{after_exit, after_insert, digits_of, is_signed_word, with_byte_at}
use Rattle.ws_keys.specs.Keys.{after_character, between, byte_entered, forbids, in_open_field, lacks_entry}
use Rattle.ws_keys.specs.Keys.{last_entry_cell, locked_refusal, next_field, of_open, protected_refusal, refusals}
use Rattle.ws_keys.specs.declared.key.Key.{Key}
use Rattle.ws_keys.specs.declared.key.Key.TheVariants.{Char, Insert, FieldExit, FieldMinus, Dup, Aid, Attention}
use Rattle.ws_keys.specs.declared.key.Key.TheVariants.{SystemRequest}
use Rattle.ws_keys.specs.declared.key.KeyRefusal.{KeyRefusal}
use Rattle.ws_keys.specs.declared.key.KeyRefusal.TheVariants.{FieldExitRequired, MandatoryEnter, MandatoryFill, NoRoom}
use Rattle.ws_keys.specs.declared.key.KeyRefusal.TheVariants.{WrongCharacter}
use Rattle.ws_entry.specs.declared.entering.Entering.{Entering}
use Rattle.ws_entry.specs.declared.entering.Entering.TheVariants.{Char as CharThere, Insert as InsertThere, Minus}
use Rattle.ws_entry.specs.declared.entering.Entering.TheVariants.{FullExit, FullMinus}

-- FORMAT WORDS

-- bit 0040 of a format word: a key has to leave the field
abbrev pub is_field_exit_required : ℕ → Bool
is_field_exit_required w = w / 0x40 % 2 == 1

-- bit 0080 of a format word: Enter follows once the field is full, or left by a key
abbrev pub is_auto_enter : ℕ → Bool
is_auto_enter w = w / 0x80 % 2 == 1

-- the low three bits of a format word are 7: the field has to be filled
abbrev pub is_mandatory_fill : ℕ → Bool
is_mandatory_fill w = w % 8 == 7

-- the shift of a format word is 3
abbrev pub is_numeric_only : ℕ → Bool
is_numeric_only w = shift_number w == 3

-- CHARACTERS

-- the capital of a small letter beyond a to z, which each code page has; else the character. Those of a to z come with
-- the profile's key
abbrev pub capital : ℕ → ℕ
capital c = if between 0xE0 0xFE c && not (c == 0xF7) then c - 0x20 else c

-- the character that code page 037 has for a byte; for none 0, which has no byte there
abbrev pub char_by : Option ℕ → ℕ
char_by None = 0
char_by (Some b) = unwrap_or (char_of b) 0

-- the character that code page 037 has for the byte that a page has for a character
abbrev pub by_page : CodePage → ℕ → ℕ
by_page page c = if page_number page == 37 then c else char_by (byte_on page c)

-- the character that is entered for one that is typed: in a monocase field its capital, by its byte on the code page
abbrev pub as_typed : CodePage → ScreenParts → ℕ → ℕ
as_typed page s c = by_page page (if of_open s (λ f. is_monocase f.format) then capital c else c)

-- WHAT HOLDS A KEY UP

-- keys enter the field, and its MDT is on
abbrev pub is_entered : Field → Bool
is_entered f = is_non_bypass f && is_modified f.format

-- the bytes are both 00 and others
abbrev pub are_mixed : List ℕ → Bool
are_mixed x = list_any (λ b. b == 0) x && list_any (λ b. not (b == 0)) x

-- the field has to be filled, and holds, entered, both 00 and other bytes
abbrev pub is_partly_filled : ScreenParts → Field → Bool
is_partly_filled s f = is_mandatory_fill f.format && (is_entered f && are_mixed (cells_of s f))

-- some field is so
abbrev pub lacks_bytes : ScreenParts → Bool
lacks_bytes s = list_any (is_partly_filled s) s.fields

-- why a key is held up at an unlocked keyboard, if it is, by whether the open field is full: a character by a full
-- field; Field Exit, Field Minus and a key whose answer has data by one that is partly filled (their order: own choice)
abbrev pub held_up : ScreenParts → Bool → Key → Option KeyRefusal
held_up s full (Char c) = if full then Some FieldExitRequired else None
held_up s full (Insert c) = if full then Some FieldExitRequired else None
held_up s full FieldExit = if is_some (open_field s) && lacks_bytes s then Some MandatoryFill else None
held_up s full FieldMinus = if is_some (open_field s) && lacks_bytes s then Some MandatoryFill else None
held_up s full (Aid aid) =
    if (is_some s.pending && returns_data s aid) && lacks_bytes s then Some MandatoryFill else None
held_up s full key = None

-- the field lacks what a refusal tells
abbrev pub lacks : ScreenParts → KeyRefusal → Field → Bool
lacks s MandatoryEnter f = lacks_entry f
lacks s MandatoryFill f = is_partly_filled s f
lacks s refusal f = false

-- WHAT KEYS SET

-- the cursor stands in the last cell that characters are entered in, of a field that a key has to leave
abbrev pub fills : ScreenParts → Field → Bool
fills s f = is_field_exit_required f.format && (s.cursor == last_entry_cell f)

-- where the cursor goes after a character: it stays where the field is full
abbrev pub after_entry : ScreenParts → Field → ℕ
after_entry s f = if fills s f then s.cursor else after_character s f

-- the last cell that characters are entered in holds a blank
abbrev pub ends_blank : ScreenParts → Field → Bool
ends_blank s f = slice_index s.cells (last_entry_cell f) == 0x40

-- an insert has room: that cell holds a blank or 00
abbrev pub has_room : ScreenParts → Field → Bool
has_room s f = ends_blank s f || (slice_index s.cells (last_entry_cell f) == 0)

-- a digit with a minus, D0 to D9 for F0 to F9; any other byte as it is
abbrev pub negative_digit : ℕ → ℕ
negative_digit b = if between 0xF0 0xF9 b then b - 0x20 else b

-- the cells x with a minus at the last of their first n bytes, if there is one
abbrev pub minus_before : List ℕ → ℕ → List ℕ
minus_before x n = if n == 0 then x else with_byte_at x (n - 1) (negative_digit (slice_index x (n - 1)))

-- the field is numeric only, and the last of the first n bytes of its cells x is a digit, if there is one
abbrev pub takes_minus : Field → List ℕ → ℕ → Bool
takes_minus f x n = is_numeric_only f.format && ((n == 0) || between 0xF0 0xF9 (slice_index x (n - 1)))

-- the cells of a full field that is left, all of which stay; a sign cell then holds this sign (own choice)
abbrev pub left_full : ℕ → ℕ → List ℕ → List ℕ
left_full w sign x = if is_signed_word w then digits_of x ++ sign ∷ [] else x

-- the same by Field Minus
abbrev pub left_full_with_minus : ℕ → List ℕ → List ℕ
left_full_with_minus w x = if is_signed_word w then left_full w 0x60 x else minus_before x (length x)

-- the keys that a format word changes, in place of the profile's: a character that fills a field, an insert that fills
-- one or finds a blank at its end, Field Minus in a numeric only field, Field Exit and Field Minus in a full one
abbrev pub entering : ScreenParts → Bool → Key → Option Entering
entering s full (Char c) = if of_open s (fills s) then Some (CharThere c) else None
entering s full (Insert c) =
    if of_open s (fills s) || of_open s (ends_blank s) then Some (InsertThere c) else None
entering s full FieldExit = if full then Some FullExit else None
entering s full FieldMinus =
    if full then Some FullMinus else (if of_open s (λ f. is_numeric_only f.format) then Some Minus else None)
entering s full key = None

-- why they are refused
abbrev pub entering_refusals : Entering → ScreenParts → List (Bool × KeyRefusal)
entering_refusals (CharThere c) s = refusals s (Char c)
entering_refusals (InsertThere c) s = locked_refusal s ∷ protected_refusal s
    ∷ (of_open s (forbids s c), WrongCharacter) ∷ (of_open s (λ f. not (has_room s f)), NoRoom) ∷ []
entering_refusals Minus s = locked_refusal s ∷ protected_refusal s
    ∷ (of_open s (λ f. not (takes_minus f (cells_of s f) (s.cursor - f.start))), WrongCharacter) ∷ []
entering_refusals FullExit s = refusals s FieldExit
entering_refusals FullMinus s = locked_refusal s ∷ protected_refusal s
    ∷ (of_open s (λ f. not (is_signed f || takes_minus f (cells_of s f) f.length)), WrongCharacter) ∷ []

-- what they set
abbrev pub entering_edit : Entering → ScreenParts → Edit
entering_edit (CharThere c) s = in_open_field s (λ f x i. with_byte_at x i (byte_entered f c)) (after_entry s)
entering_edit (InsertThere c) s =
    in_open_field s (λ f x i. after_insert f.format x i (byte_entered f c)) (after_entry s)
entering_edit Minus s = in_open_field s (λ f x i. after_exit f.format (minus_before x i) i) (λ f. next_field s)
entering_edit FullExit s = in_open_field s (λ f x i. left_full f.format 0x40 x) (λ f. next_field s)
entering_edit FullMinus s = in_open_field s (λ f x i. left_full_with_minus f.format x) (λ f. next_field s)

-- AFTER A KEY

-- the open field is full after a key that was carried out: a character has filled it; a key that sends leaves it so
abbrev pub full_after : ScreenParts → Bool → Key → Bool
full_after s full (Char c) = of_open s (fills s)
full_after s full (Insert c) = of_open s (fills s)
full_after s full (Aid aid) = full
full_after s full Attention = full
full_after s full SystemRequest = full
full_after s full key = false

-- no key has to leave the field, and no sign comes
abbrev pub ends_by_itself : Field → Bool
ends_by_itself f = not (is_field_exit_required f.format) && not (is_signed f)

-- Enter follows a character at the cursor, which is the field's last cell
abbrev pub enters_full : ScreenParts → Field → Bool
enters_full s f = is_auto_enter f.format && (ends_by_itself f && (s.cursor == last_entry_cell f))

-- Enter follows a key that was carried out
abbrev pub is_followed : ScreenParts → Key → Bool
is_followed s (Char c) = of_open s (enters_full s)
is_followed s (Insert c) = of_open s (enters_full s)
is_followed s FieldExit = of_open s (λ f. is_auto_enter f.format)
is_followed s FieldMinus = of_open s (λ f. is_auto_enter f.format)
is_followed s Dup = of_open s (λ f. is_auto_enter f.format)
is_followed s key = false
