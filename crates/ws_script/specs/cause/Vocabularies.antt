-- The words that lines of a script and of items as text begin with, and those that may stand after each.

use Rattle.std.specs.Prelude.{ℕ, List, [], ◌∷◌, ◌++◌, Bool, codes}
use Rattle.std.specs.Option.{is_some}
use Rattle.ws_text.specs.Names.{look_up}
use Rattle.ws_script.specs.declared.cause.AskedByte.TheVariants as asked
use Rattle.ws_script.specs.declared.cause.vocabulary.Vocabulary.{Vocabulary}
use Rattle.ws_script.specs.declared.cause.vocabulary.Vocabulary.TheVariants.{Station, ExtendedStation, Host, AnyHost}
use Rattle.ws_script.specs.declared.cause.vocabulary.Vocabulary.TheVariants.{Items, Elements}
use Rattle.ws_script.specs.declared.cause.word_kind.WordKind.{WordKind}
use Rattle.ws_script.specs.declared.cause.word_kind.WordKind.TheVariants.{Any, AnyOpcode, AnyText, Awaited}
use Rattle.ws_script.specs.declared.cause.word_kind.WordKind.TheVariants.{AnswerAwaited, Body, Cells, Coded, Command}
use Rattle.ws_script.specs.declared.cause.word_kind.WordKind.TheVariants.{Digits, End, Field, Head, Hex, Key, Number}
use Rattle.ws_script.specs.declared.cause.word_kind.WordKind.TheVariants.{Opcode, Value}
use Rattle.ws_script.specs.declared.asked.sender.Sender.{Sender}
use Rattle.ws_script.specs.declared.asked.sender.Sender.TheVariants as sender

-- first words, with the kinds of those after each
abbrev pub Words : Type 0
Words = List (List ℕ × List WordKind)

-- a row, which may stand before other words, and a cell
abbrev pub a_row : WordKind
a_row = Number 1 24

abbrev pub a_cell : List WordKind → List WordKind
a_cell more = a_row ∷ Number 1 80 ∷ more

-- the two bytes of a command
abbrev pub control_bytes : List WordKind
control_bytes = Digits 2 ∷ Digits 2 ∷ []

-- the words that a line of `connect` begins with
abbrev pub station_words : Words
station_words = (codes "type", AnyText ∷ []) ∷ (codes "insert", AnyText ∷ []) ∷ (codes "key", Key ∷ [])
    ∷ (codes "cursor", a_cell []) ∷ (codes "field", Number 1 256 ∷ AnyText ∷ []) ∷ (codes "erase", [])
    ∷ (codes "newline", []) ∷ (codes "await", Awaited ∷ []) ∷ (codes "show", End ∷ a_cell (Number 1 1920 ∷ []))
    ∷ (codes "fields", []) ∷ (codes "cells", a_row ∷ []) ∷ (codes "status", []) ∷ (codes "note", AnyText ∷ []) ∷ []

-- the words that lines of both hosts begin with
abbrev pub both_hosts : Words
both_hosts = (codes "raw", Hex ∷ []) ∷ (codes "telnet", Command ∷ []) ∷ (codes "pause", Number 1 3600000 ∷ [])
    ∷ (codes "close", []) ∷ (codes "end", []) ∷ []

-- the words that a line of `serve` begins with
abbrev pub host_words : Words
host_words = (codes "send", Opcode ∷ End ∷ Body ∷ []) ∷ (codes "cancel", []) ∷ (codes "await", AnswerAwaited ∷ [])
    ∷ (codes "show", []) ∷ both_hosts

-- the words that a line of `serve --any` begins with
abbrev pub any_words : Words
any_words = both_hosts ++ (codes "send", AnyOpcode ∷ End ∷ Hex ∷ []) ∷ (codes "await", End ∷ Key ∷ []) ∷ []

-- the words that items as text begin with, where they are no elements
abbrev pub item_words : Words
item_words = (codes "record", Head ∷ []) ∷ (codes "telnet", Command ∷ []) ∷ (codes "at", Any ∷ AnyText ∷ []) ∷ []

-- the elements of the profile
abbrev pub elements : Words
elements = (codes "TEXT", Coded ∷ []) ∷ (codes "CLEAR-UNIT", []) ∷ (codes "CLEAR-FORMAT", [])
    ∷ (codes "WRITE", control_bytes) ∷ (codes "READ-INPUT", control_bytes) ∷ (codes "READ-MDT", control_bytes)
    ∷ (codes "READ-MDT-ALTERNATE", control_bytes) ∷ (codes "SOH", End ∷ Hex ∷ [])
    ∷ (codes "RA", a_cell (Value asked.CellByte ∷ [])) ∷ (codes "EA", a_cell (Hex ∷ [])) ∷ (codes "SBA", a_cell [])
    ∷ (codes "IC", a_cell []) ∷ (codes "MC", a_cell []) ∷ (codes "SF", Field ∷ []) ∷ (codes "PUT", Cells ∷ []) ∷ []

-- the commands that live hosts send beside the profile
abbrev pub live_commands : Words
live_commands = (codes "QUERY", []) ∷ (codes "SAVE-SCREEN", []) ∷ (codes "RESTORE-SCREEN", [])
    ∷ (codes "WRITE-ERROR", []) ∷ (codes "READ-SCREEN", []) ∷ (codes "READ-IMMEDIATE", [])
    ∷ (codes "READ-IMMEDIATE-ALTERNATE", []) ∷ (codes "ROLL", Digits 2 ∷ a_row ∷ a_row ∷ []) ∷ []

-- the parts of an answer, but for its text
abbrev pub parts : Words
parts = (codes "HEAD", a_cell (Value asked.Key ∷ [])) ∷ (codes "AT", a_cell []) ∷ (codes "BYTES", Cells ∷ []) ∷ []

-- what is told at once beside a live host's answers
abbrev pub told_words : Words
told_words = (codes "SAVED", []) ∷ (codes "SCREEN", a_cell []) ∷ (codes "IMMEDIATE", a_cell [])
    ∷ (codes "QUERY-REPLY", Hex ∷ []) ∷ []

-- the names of a sender's units
abbrev pub unit_words : Sender → Words
unit_words sender.Host = elements
unit_words sender.ExtendedHost = elements ++ live_commands
unit_words sender.Station = parts ++ (codes "TEXT", Coded ∷ []) ∷ []
unit_words sender.ExtendedStation = parts ++ elements ++ live_commands ++ told_words

-- the words that a line of this kind begins with; those of elements stand after two blanks
abbrev pub vocabulary_words : Vocabulary → Words
vocabulary_words Station = station_words
vocabulary_words ExtendedStation = station_words
vocabulary_words Host = host_words
vocabulary_words AnyHost = any_words
vocabulary_words (Items sent) = item_words
vocabulary_words (Elements sent switch) = unit_words sent

-- a line of this kind begins with a word
abbrev pub is_first : Vocabulary → List ℕ → Bool
is_first vocabulary word = is_some (look_up word (vocabulary_words vocabulary))

-- units with those that the switch adds; the same lines where it adds none
abbrev pub wider : Vocabulary → Vocabulary
wider (Elements sender.Host switch) = Elements sender.ExtendedHost switch
wider (Elements sender.Station switch) = Elements sender.ExtendedStation switch
wider vocabulary = vocabulary
