-- A cause in words.

use Rattle.std.specs.Prelude.{◌≡◌, ◌⊎◌, ℕ, List, [], ◌∷◌, ◌++◌, ◌||◌, ◌==◌, Option, None, Some, codes, take}
use Rattle.std.specs.Prelude.{if◌then◌else◌}
use Rattle.std.specs.Char.{encode_utf8, is_control}
use Rattle.std.specs.Fmt.{decimal}
use Rattle.std.specs.List.{flat_map}
use Rattle.std.specs.Str.{chars}
use Rattle.hex.specs.Hex.{encode_upper}
use Rattle.ws_code.specs.Reason.{text_of}
use Rattle.ws_code.specs.declared.reason.Reason.{Reason}
use Rattle.ws_script.specs.cause.BodyRefusals.{IsHexRefused}
use Rattle.ws_script.specs.cause.Causes.{IsKnown}
use Rattle.ws_script.specs.declared.cause.Cause.{Cause}
use Rattle.ws_script.specs.declared.cause.Cause.TheVariants.{NotUtf8, Tab, TwoBlanks, BlankInFront, BlankAtEnd, UnknownWord}
use Rattle.ws_script.specs.declared.cause.Cause.TheVariants.{Unexpected, UnknownKey, NoNumber, OutOfRange, NoHex}
use Rattle.ws_script.specs.declared.cause.Cause.TheVariants.{OtherLength, NoByte, Missing, TooMany, Misplaced, Apart, Other}
use Rattle.ws_script.specs.declared.cause.Cause.TheVariants.{Illegal, NoBody}
use Rattle.ws_script.specs.declared.cause.AskedByte.TheVariants.{CellByte, Attribute, Key}
use Rattle.ws_script.specs.declared.cause.Known.{Known}
use Rattle.ws_script.specs.declared.cause.Known.TheVariants.{Near, With}
use Rattle.ws_script.specs.declared.cause.vocabulary.Switch.TheVariants.{Extended, Any}

-- what is said, before the word at fault and numbers
abbrev pub saying : Cause → List ℕ
saying NotUtf8 = codes "not UTF-8"
saying Tab = codes "a tab"
saying TwoBlanks = codes "two blanks between words"
saying BlankInFront = codes "a blank in front"
saying BlankAtEnd = codes "a blank at the end"
saying (UnknownWord word vocabulary) = codes "unknown word"
saying (Unexpected word) = codes "unexpected word"
saying (UnknownKey word) = codes "unknown key"
saying (NoNumber word) = codes "no number:"
saying (NoHex word) = codes "no hex:"
saying (Illegal word CellByte) = codes "an order's code:"
saying (Illegal word Attribute) = codes "no attribute, 20 to 3F:"
saying (Illegal word Key) = codes "no key:"
saying (NoByte character) = codes "no byte in code page 037 for"
saying (NoBody hex) = codes "no body"
saying (Missing word) = codes "a word is missing after"
saying (TooMany word) = codes "one word too many:"
saying (Misplaced word) = codes "it can't stand there:"
saying Apart = codes "two blanks in front"
saying (OutOfRange word least most) = codes "not from "
saying (OtherLength word digits) = codes "not "
saying Other = codes "it isn't a line of this script"

-- what is said of what is known
abbrev pub saying_known : Option Known → List ℕ
saying_known None = []
saying_known (Some (Near word)) = codes ", did you mean `" ++ word.now ++ codes "`?"
saying_known (Some (With Extended)) = codes ", it is read with --extended"
saying_known (Some (With Any)) = codes ", it is read with --any"

-- what is known of a cause's word
abbrev pub IsKnownOf : Cause → Option Known → Type 0
IsKnownOf (UnknownWord word vocabulary) known = IsKnown vocabulary word.now known
IsKnownOf cause known = known ≡ None

-- a character as it is shown: a control character and `\` by two hex digits after a `\`
abbrev pub shown_character : ℕ → List ℕ
shown_character character = if is_control character || (character == 92)
    then 92 ∷ encode_upper (character ∷ []) else encode_utf8 character

-- the first 60 characters of a word, in quotes after a blank
abbrev pub quoted : List ℕ → List ℕ
quoted word = codes " `" ++ flat_map shown_character (take 60 (chars word)) ++ codes "`"

-- a refusal at this byte with this sentence
abbrev pub refusal_text : ℕ → List ℕ → List ℕ
refusal_text place sentence = codes ", refused at " ++ (decimal place ++ (codes ", " ++ sentence))

-- the byte at which a body is refused, and the reason's sentence, where it is refused
abbrev pub IsRefusalShown : List ℕ → List ℕ → Type 0
IsRefusalShown hex shown = (shown ≡ []) ⊎ ((place : ℕ) × (reason : Reason) × IsHexRefused hex place reason
    × (shown ≡ refusal_text place (text_of reason)))

-- what is shown of the word at fault, with what it should be before it
abbrev pub IsWordShown : Cause → List ℕ → Type 0
IsWordShown (UnknownWord word vocabulary) shown = shown ≡ quoted word.now
IsWordShown (Unexpected word) shown = shown ≡ quoted word.now
IsWordShown (UnknownKey word) shown = shown ≡ quoted word.now
IsWordShown (NoNumber word) shown = shown ≡ quoted word.now
IsWordShown (NoHex word) shown = shown ≡ quoted word.now
IsWordShown (Missing word) shown = shown ≡ quoted word.now
IsWordShown (TooMany word) shown = shown ≡ quoted word.now
IsWordShown (Illegal word asked) shown = shown ≡ quoted word.now
IsWordShown (Misplaced word) shown = shown ≡ quoted word.now
IsWordShown (OutOfRange word least most) shown =
    shown ≡ decimal least ++ (codes " to " ++ (decimal most ++ (codes ":" ++ quoted word.now)))
IsWordShown (OtherLength word digits) shown = shown ≡ decimal digits ++ (codes " hex digits:" ++ quoted word.now)
IsWordShown (NoByte character) shown = shown ≡ quoted (encode_utf8 character)
IsWordShown (NoBody hex) shown = IsRefusalShown hex.now shown
IsWordShown cause shown = shown ≡ []

-- a cause in words
abbrev pub IsCauseText : Cause → List ℕ → Type 0
IsCauseText cause text = (shown : List ℕ) × (known : Option Known) × IsWordShown cause shown × IsKnownOf cause known
    × (text ≡ saying cause ++ shown ++ saying_known known)
