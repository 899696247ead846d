-- The tables that the program prints: the reasons of refusals, and the keys by their names in scripts.

use Rattle.std.specs.Prelude.{◌≡◌, ℕ, List, [], ◌∷◌, ◌++◌, Bool, true, false, Option, None, Some, codes, drop, map, not, ◌⊎◌}
use Rattle.std.specs.Char.{is_ascii_digit}
use Rattle.std.specs.Fmt.{decimal}
use Rattle.std.specs.List.{flat_map, position_or_len}
use Rattle.hex.specs.Hex.{encode_upper}
use Rattle.ws_code.specs.Device.{FailedWithin}
use Rattle.ws_code.specs.Reason.{number_of, name_of, text_of}
use Rattle.ws_code.specs.declared.reason.Reason.{Reason}
use Rattle.ws_code.specs.declared.reason.Reason.TheVariants as because
use Rattle.ws_printing.specs.script.KeyNames.{aid_named, answering_keys, function_keys, plain_keys}
use Rattle.ws_printing.specs.Printouts.{IsPrintedOut, Printout}
use Rattle.ws_program.specs.declared.command_fault.CommandFault.{CommandFault}
use Rattle.ws_program.specs.declared.command_fault.CommandFault.TheVariants.{Unwritten}
use Rattle.ws_program.specs.declared.tables.Table.{Table}
use Rattle.ws_program.specs.declared.tables.Table.TheVariants as table

-- every reason, by its number
abbrev pub all_reasons : List Reason
all_reasons = because.BadCommand ∷ because.StraySe ∷ because.BadSub ∷ because.SubTooLong ∷ because.LengthBelowHeader
    ∷ because.BadType ∷ because.BadReserved ∷ because.BadVariableLength ∷ because.UnknownOpcode ∷ because.TooLong
    ∷ because.TooShort ∷ because.NoEscape ∷ because.UnknownCommand ∷ because.BadAddress ∷ because.BadSohLength
    ∷ because.Resequencing ∷ because.BadEraseList ∷ because.BadRepeat ∷ because.BadFormatByte ∷ because.StructuredField
    ∷ because.AlternateSize ∷ because.SaveRestore ∷ because.Roll ∷ because.ErrorCode ∷ because.ReadScreen
    ∷ because.ReadImmediate ∷ because.ExtendedAttribute ∷ because.TransparentData ∷ because.DisplayStructuredField
    ∷ because.TooManyFcws ∷ because.LeftOutShift ∷ because.BadAid ∷ because.EndedInside ∷ because.BadAnswerByte
    ∷ because.BackwardAddress ∷ because.PastEnd ∷ because.ZeroLength ∷ because.FieldPastEnd ∷ because.FieldOverlap
    ∷ because.TableFull ∷ because.RecordBeforeNegotiation ∷ because.UnsupportedTerminal ∷ because.UnaskedAnswer
    ∷ because.AnswerMismatch ∷ []

-- what stands after the digits with which a text begins
abbrev pub after_number : List ℕ → List ℕ
after_number text = drop (position_or_len (λ byte. not (is_ascii_digit byte)) text) text

-- a reason's line: its number, its name, and what it says to a person after its number
abbrev pub reason_line : Reason → List ℕ
reason_line reason = decimal (number_of reason) ++ codes " " ++ name_of reason ++ after_number (text_of reason)
    ++ 10 ∷ []

-- the names of the keys of the profile, and Reset, which displays have that live hosts use
abbrev pub key_names : List (List ℕ)
key_names = map (λ named. named.0) (plain_keys ++ answering_keys ++ function_keys) ++ codes "Reset" ∷ []

-- the line of a name: the byte of the key's AID stands after it, where the key has one
abbrev pub line_of_key : List ℕ → Option ℕ → List ℕ
line_of_key name None = name ++ 10 ∷ []
line_of_key name (Some aid) = name ++ codes " " ++ encode_upper (aid ∷ []) ++ 10 ∷ []

-- a key's line: its name, and the byte of its AID (SC30-3533, attention identification codes) where it answers a read
abbrev pub key_line : List ℕ → List ℕ
key_line name = line_of_key name (aid_named name)

-- what is printed of a table
abbrev pub table_text : Table → List ℕ
table_text table.Reasons = flat_map reason_line all_reasons
table_text (table.Reason reason) = reason_line reason
table_text table.Keys = flat_map key_line key_names

module _ {S : Type 0} (out : Printout S) (has_output : Bool) (shown : Table) where
  -- the table was printed
  abbrev pub HasPrinted : Bool → Type 0
  HasPrinted accepted = (accepted ≡ true) × (has_output ≡ true) × IsPrintedOut out (table_text shown)

  -- it wasn't: there is no standard output, or that failed within it
  abbrev pub IsUnprinted : CommandFault → Type 0
  IsUnprinted fault = (fault ≡ Unwritten) × (((has_output ≡ false) × (out.to ≡ out.from))
      ⊎ ((has_output ≡ true) × FailedWithin out.writer out.from out.to (table_text shown)))
