-- The reason of a byte that can't follow an unfinished element of a live host's body. It is asked only where the
-- byte makes a prefix of no spelling.
use Rattle.std.specs.Prelude.{ℕ, List, [], ◌∷◌, Bool, true, false, ◌==◌, ◌||◌, not, if◌then◌else◌}
use Rattle.ws_code.specs.DataByte.{is_order}
use Rattle.ws_code.specs.declared.reason.Reason.{Reason}
use Rattle.ws_code.specs.declared.reason.Reason.TheVariants.{StructuredField, SaveRestore, ErrorCode}
use Rattle.ws_code.specs.declared.reason.Reason.TheVariants as reasons
use Rattle.ws_stream.specs.Reasons.{command_reason, element_reason, first_reason, is_one_of}
use Rattle.ws_stream.specs.declared.command_code.TheConstants as commands
use Rattle.ws_stream.specs.declared.command_code.TheConstants.{ESCAPE}
use Rattle.ws_stream.specs.declared.order_code.TheConstants.{INSERT_CURSOR}
use Rattle.ws_stream.specs.declared.place.Place.TheVariants.{Anything}
use Rattle.ws_extended.specs.declared.ask.Ask.{Ask}
use Rattle.ws_extended.specs.declared.ask.Ask.TheVariants.{Query, SaveScreen, ReadScreen, ReadImmediate}
use Rattle.ws_extended.specs.declared.ask.Ask.TheVariants.{ReadImmediateAlternate}
use Rattle.ws_extended.specs.declared.extended_place.ExtendedPlace.{ExtendedPlace}
use Rattle.ws_extended.specs.declared.extended_place.ExtendedPlace.TheVariants.{InProfile, ErrorText, Asked}

-- the reason of a command that asks after one that has asked already, and of all else that stands there
abbrev pub ask_reason : Ask → Reason
ask_reason Query = StructuredField
ask_reason SaveScreen = SaveRestore
ask_reason ReadScreen = reasons.ReadScreen
ask_reason ReadImmediate = reasons.ReadImmediate
ask_reason ReadImmediateAlternate = reasons.ReadImmediate

-- the codes of the profile's commands
abbrev pub own_commands : List ℕ
own_commands =
    commands.CLEAR_UNIT ∷ commands.CLEAR_FORMAT_TABLE ∷ commands.WRITE_TO_DISPLAY ∷ commands.READ_INPUT_FIELDS
    ∷ commands.READ_MDT_FIELDS ∷ commands.READ_MDT_FIELDS_ALTERNATE ∷ []

-- the codes of the eight commands beside the profile
abbrev pub other_commands : List ℕ
other_commands =
    commands.WRITE_STRUCTURED_FIELD ∷ commands.SAVE_SCREEN ∷ commands.RESTORE_SCREEN ∷ commands.WRITE_ERROR_CODE
    ∷ commands.ROLL ∷ commands.READ_SCREEN ∷ commands.READ_IMMEDIATE ∷ commands.READ_MDT_IMMEDIATE_ALTERNATE ∷ []

-- only an element of the profile can begin with an escape and this code
abbrev pub takes_command : ExtendedPlace → ℕ → Bool
takes_command (InProfile place) code = not (is_one_of code other_commands)
takes_command ErrorText code = not (is_one_of code other_commands)
takes_command (Asked ask) code = false

-- only an element of the profile can begin with this byte, which is no escape
abbrev pub takes_first : ExtendedPlace → ℕ → Bool
takes_first (InProfile place) b = true
takes_first ErrorText b = (b == INSERT_CURSOR) || not (is_order b)
takes_first (Asked ask) b = false

-- only an element of the profile can begin with these bytes
abbrev pub is_inner : ExtendedPlace → List ℕ → Bool
is_inner place [] = false
is_inner place (b ∷ []) = if b == ESCAPE then false else takes_first place b
is_inner place (b ∷ code ∷ more) = if b == ESCAPE then takes_command place code else takes_first place b

-- why no element begins with the byte
abbrev pub begin_reason : ExtendedPlace → ℕ → Reason
begin_reason (InProfile place) b = first_reason place b
begin_reason ErrorText b = ErrorCode
begin_reason (Asked ask) b = ask_reason ask

-- why no element begins with an escape and the byte
abbrev pub escaped_reason : ExtendedPlace → ℕ → Reason
escaped_reason (InProfile place) b = command_reason b
escaped_reason ErrorText b = command_reason b
escaped_reason (Asked ask) b = ask_reason ask

-- why no element beside the profile goes on with the byte: what is neither of the profile nor so short begins a Roll or
-- a query
abbrev pub other_reason : ExtendedPlace → List ℕ → ℕ → Reason
other_reason place [] b = begin_reason place b
other_reason place (escape ∷ []) b = escaped_reason place b
other_reason place (escape ∷ code ∷ begun) b = if code == commands.ROLL then reasons.Roll else StructuredField

-- why no element goes on with a byte, by the bytes before it
abbrev pub extended_reason : ExtendedPlace → List ℕ → ℕ → Reason
extended_reason place begun b =
    if is_inner place begun then element_reason Anything begun b else other_reason place begun b
