-- Why a line is no line of a script or of items as text.

use Rattle.std.specs.Prelude.{◌≡◌, ◌≢◌, ◌⊎◌, ◌≤◌, ℕ, List, [], ◌∷◌, ◌++◌, Bool, true, false, ◌&&◌, Option, None, MatchOption}
use Rattle.std.specs.Prelude.{IfSome, Some, length, drop, map, ◌<◌, ◌-◌, ◌==◌, ◌/◌, ◌%◌}
use Rattle.std.specs.Borrow.{Bor}
use Rattle.std.specs.List.{list_all}
use Rattle.std.specs.Option.{is_some}
use Rattle.std.specs.Str.{IsUtf8, chars}
use Rattle.strsim.specs.Edits.{osa_table}
use Rattle.std.specs.Char.{is_ascii_hexdigit, to_ascii_lowercase}
use Rattle.ws_code.specs.Aid.{IsAid}
use Rattle.ws_code.specs.DataByte.{IsData}
use Rattle.ws_code.specs.Ebcdic.{byte_of}
use Rattle.ws_stream.specs.FieldOrder.{is_attribute}
use Rattle.ws_printing.specs.script.ExtendedKeyNames.{extended_key_named}
use Rattle.ws_printing.specs.script.KeyNames.{key_named, aid_named}
use Rattle.ws_printing.specs.script.ScriptFaults.{has_no_blank}
use Rattle.ws_script.specs.cause.Vocabularies.{is_first, wider}
use Rattle.ws_script.specs.declared.cause.Cause.{Cause}
use Rattle.ws_script.specs.declared.cause.Cause.TheVariants.{NotUtf8, Tab, TwoBlanks, BlankInFront, BlankAtEnd, UnknownWord}
use Rattle.ws_script.specs.declared.cause.Cause.TheVariants.{Unexpected, UnknownKey, NoNumber, OutOfRange, NoHex}
use Rattle.ws_script.specs.declared.cause.Cause.TheVariants.{OtherLength, NoByte, Missing, TooMany, Misplaced, Apart, Other}
use Rattle.ws_script.specs.declared.cause.Cause.TheVariants.{Illegal, NoBody}
use Rattle.ws_script.specs.declared.cause.AskedByte.{AskedByte}
use Rattle.ws_script.specs.declared.cause.AskedByte.TheVariants.{CellByte, Attribute, Key}
use Rattle.ws_script.specs.declared.cause.Known.{Known}
use Rattle.ws_script.specs.declared.cause.Known.TheVariants.{Near, With}
use Rattle.ws_script.specs.declared.cause.vocabulary.Switch.{Switch}
use Rattle.ws_script.specs.declared.cause.vocabulary.Switch.TheVariants.{Extended, Any}
use Rattle.ws_script.specs.declared.cause.vocabulary.Vocabulary.{Vocabulary}
use Rattle.ws_script.specs.declared.cause.vocabulary.Vocabulary.TheVariants.{Station, ExtendedStation, Host, AnyHost}
use Rattle.ws_script.specs.declared.cause.vocabulary.Vocabulary.TheVariants.{Items, Elements}
use Rattle.ws_script.specs.declared.asked.sender.Sender.{Sender}
use Rattle.ws_script.specs.declared.asked.sender.Sender.TheVariants as sender
use Rattle.ws_text.specs.AnswerWords.{answer_wording}
use Rattle.ws_text.specs.ElementWords.{element_wording}
use Rattle.ws_text.specs.ExtendedAnswerWords.{told_wording}
use Rattle.ws_text.specs.ExtendedWords.{extended_wording}
use Rattle.ws_text.specs.Found.{FindsUnits}
use Rattle.ws_text.specs.Words.{IsHexByte, IsNumber}

-- a word stands in a line
abbrev pub StandsIn : List ℕ → List ℕ → Type 0
StandsIn line word = (front : List ℕ) × (back : List ℕ) × (line ≡ front ++ (word ++ back))

-- a line ends with a text
abbrev pub EndsWith : List ℕ → List ℕ → Type 0
EndsWith line text = (front : List ℕ) × (line ≡ front ++ text)

-- what stands after a word: nothing, or a blank and the words after it
abbrev pub behind_word : Option (Bor (List ℕ)) → List ℕ
behind_word None = []
behind_word (Some words) = 32 ∷ words.now

-- a line whose words up to this one were looked at: it ends with that word, or with a blank and the words after it
abbrev pub IsLeft : List ℕ → List ℕ → Option (Bor (List ℕ)) → Type 0
IsLeft line last rest = MatchOption rest (EndsWith line last) (λ words. EndsWith line (32 ∷ words.now))

-- a line begins with a word, up to a blank or the line's end
abbrev pub BeginsWith : List ℕ → List ℕ → Type 0
BeginsWith line word = (has_no_blank word ≡ true) × ((line ≡ word) ⊎ ((behind : List ℕ) × (line ≡ word ++ (32 ∷ behind))))

-- what stands before the first word of a line of this kind: before that of a unit two blanks
abbrev pub front_of : Vocabulary → List ℕ
front_of (Elements sent switch) = 32 ∷ 32 ∷ []
front_of vocabulary = []

-- the text of a line of this kind, from its first word on
abbrev pub IsTextOf : Vocabulary → List ℕ → List ℕ → Type 0
IsTextOf vocabulary line text = line ≡ front_of vocabulary ++ text

-- the first word of a line of this kind
abbrev pub HasFirst : Vocabulary → List ℕ → List ℕ → Type 0
HasFirst vocabulary line word = (text : List ℕ) × IsTextOf vocabulary line text × BeginsWith text word

-- a word is bytes in hex digits, two a byte
abbrev pub is_hex_text : List ℕ → Bool
is_hex_text word = list_all is_ascii_hexdigit word && (length word % 2 == 0)

-- no key has this name where a line of this kind names one: at a host, none that answers
abbrev pub has_key : Vocabulary → List ℕ → Bool
has_key Station name = is_some (key_named name)
has_key ExtendedStation name = is_some (extended_key_named name)
has_key vocabulary name = is_some (aid_named name)

-- a byte is what is asked
abbrev pub IsAsked : AskedByte → ℕ → Type 0
IsAsked CellByte byte = IsData byte
IsAsked Attribute byte = is_attribute byte ≡ true
IsAsked Key byte = IsAid byte

-- the reader of a sender's units finds some in a line, wherever they can stand
abbrev pub SaysUnits : Sender → List ℕ → Type 0
SaysUnits sender.Host line = FindsUnits element_wording line
SaysUnits sender.ExtendedHost line = FindsUnits extended_wording line
SaysUnits sender.Station line = FindsUnits answer_wording line
SaysUnits sender.ExtendedStation line = FindsUnits told_wording line

-- a line of this kind says units
abbrev pub IsUnitLine : Vocabulary → List ℕ → Type 0
IsUnitLine (Elements sent switch) line = SaysUnits sent line
IsUnitLine vocabulary line = ⊥

-- what a cause tells of a word of a line of this kind, or of what stands between two, is true
abbrev pub IsTrueOf : Vocabulary → List ℕ → Cause → Type 0
IsTrueOf vocabulary line TwoBlanks = StandsIn line (32 ∷ 32 ∷ [])
IsTrueOf vocabulary line BlankAtEnd = EndsWith line (32 ∷ [])
IsTrueOf vocabulary line Tab = StandsIn line (9 ∷ [])
IsTrueOf vocabulary line (Unexpected word) = StandsIn line word.now
IsTrueOf vocabulary line (UnknownKey word) = StandsIn line word.now × (has_key vocabulary word.now ≡ false)
IsTrueOf vocabulary line (NoNumber word) = StandsIn line word.now × ((n : ℕ) → IsNumber word.now n → ⊥)
IsTrueOf vocabulary line (OutOfRange word least most) = StandsIn line word.now
    × ((n : ℕ) → IsNumber word.now n → least ≤ n → n ≤ most → ⊥)
IsTrueOf vocabulary line (NoHex word) = StandsIn line word.now × (is_hex_text word.now ≡ false)
IsTrueOf vocabulary line (OtherLength word digits) = StandsIn line word.now × (length word.now ≢ digits)
IsTrueOf vocabulary line (Illegal word asked) = StandsIn line word.now
    × ((byte : ℕ) → IsHexByte word.now byte → IsAsked asked byte → ⊥)
IsTrueOf vocabulary line (NoByte character) = byte_of character ≡ None
IsTrueOf vocabulary line (NoBody hex) = EndsWith line (32 ∷ hex.now) × (is_hex_text hex.now ≡ true)
IsTrueOf vocabulary line (Missing word) = EndsWith line word.now
IsTrueOf vocabulary line (TooMany word) = StandsIn line word.now
IsTrueOf vocabulary line Other = Unit {0}
IsTrueOf vocabulary line cause = ⊥

-- lines of this kind are units, and with their switch one begins with a word
abbrev pub IsReadWith : Vocabulary → Switch → List ℕ → Type 0
IsReadWith (Elements sent switch) told word = (told ≡ switch)
    × (is_first (wider (Elements sent switch)) word ≡ true)
IsReadWith vocabulary told word = ⊥

-- how many characters of a word are put in, left out or others than those of a known one, letter case aside; two that
-- are swapped count once (optimal string alignment)
abbrev pub apart : List ℕ → List ℕ → ℕ
apart word known = (osa_table (chars (map to_ascii_lowercase word)) (chars (map to_ascii_lowercase known))).last_row
    (length (chars (map to_ascii_lowercase known)))

-- what is known of a word that no line of this kind begins with: the switch with which one does; or else, where it has
-- at most 36 characters, the nearest that one begins with, if it is apart from it in at most a third of these
abbrev pub IsKnown : Vocabulary → List ℕ → Option Known → Type 0
IsKnown vocabulary word (Some (With switch)) = IsReadWith vocabulary switch word
IsKnown vocabulary word (Some (Near near)) = (length (chars word) ≤ 36) × (is_first vocabulary near.now ≡ true)
    × (apart word near.now ≤ length (chars word) / 3)
    × ((known : List ℕ) → is_first vocabulary known ≡ true → apart word near.now ≤ apart word known)
IsKnown vocabulary word None = (36 < length (chars word))
    ⊎ ((known : List ℕ) → is_first vocabulary known ≡ true → length (chars word) / 3 < apart word known)

-- the units of a record in lines of this kind, and the switch with which their command reads more
abbrev pub units_of : Vocabulary → Option Vocabulary
units_of Host = Some (Elements sender.Host Any)
units_of AnyHost = Some (Elements sender.ExtendedHost Any)
units_of (Items sent) = Some (Elements sent Extended)
units_of vocabulary = None

-- what a cause tells of a line of this kind is true
abbrev pub IsCause : Vocabulary → List ℕ → Cause → Type 0
IsCause vocabulary line NotUtf8 = IsUtf8 line → ⊥
IsCause vocabulary line BlankInFront = (rest : List ℕ) × IsTextOf vocabulary line (32 ∷ rest)
IsCause vocabulary line (UnknownWord word of) = (of ≡ vocabulary) × HasFirst vocabulary line word.now
    × (is_first vocabulary word.now ≡ false)
IsCause vocabulary line (Misplaced word) = HasFirst vocabulary line word.now × IsUnitLine vocabulary line
IsCause vocabulary line Apart = (units_of vocabulary ≡ None) × ((rest : List ℕ) × (line ≡ 32 ∷ (32 ∷ rest)))
IsCause vocabulary line cause = IsTrueOf vocabulary line cause

-- the same, or of a unit of a record in such lines
abbrev pub IsCauseOf : Vocabulary → List ℕ → Cause → Type 0
IsCauseOf vocabulary line cause = IsCause vocabulary line cause
    ⊎ IfSome (units_of vocabulary) (λ units. IsCause units line cause)

-- What a cause tells of the line of a number, counted from 1, is true: of a line of this kind, or of a unit of a record.
abbrev pub IsCauseAt : Vocabulary → List (List ℕ) → ℕ → Cause → Type 0
IsCauseAt vocabulary lines number cause = (cause ≡ Other) ⊎ ((line : List ℕ) × (behind : List (List ℕ))
    × (drop (number - 1) lines ≡ line ∷ behind) × IsCauseOf vocabulary line cause)
