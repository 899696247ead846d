-- How the lines of a body go on to a sink as the strings of an array, byte by byte. It depends on how many bytes of the
-- line are still left out; before the first LF there is no line.

use Rattle.std.specs.Prelude.{◌≡◌, ℕ, zero, suc, ◌-◌, List, [], ◌∷◌, Option, Some, None, codes, ◌==◌, if◌then◌else◌}
use Rattle.std.specs.Option.{option_map}
use Rattle.ws_code.specs.Device.{MayTake, Writer}
use Rattle.ws_text.specs.Printing.{Prints}
use Rattle.ws_json.specs.JsonStrings.{json_byte}
use Rattle.ws_json.specs.declared.line_strings.LineStrings.{LineStrings}

-- what goes on for an LF: a string begins, after the end of the one before it and a comma
abbrev pub string_begin : Option ℕ → List ℕ
string_begin None = codes "\""
string_begin (Some left) = codes "\",\""

-- what goes on for another byte
abbrev pub inner_part : Option ℕ → ℕ → List ℕ
inner_part None byte = []
inner_part (Some zero) byte = json_byte byte
inner_part (Some (suc left)) byte = []

-- what goes on for a byte
abbrev pub string_part : Option ℕ → ℕ → List ℕ
string_part left byte = if byte == 10 then string_begin left else inner_part left byte

-- how many bytes are left out after a byte: of each line the first two
abbrev pub left_after : Option ℕ → ℕ → Option ℕ
left_after left byte = if byte == 10 then Some 2 else option_map (λ n. n - 1) left

-- what ends the last string, if there is one
abbrev pub string_end : Option ℕ → List ℕ
string_end None = []
string_end (Some left) = codes "\""

-- a byte goes on to the sink, which remains the same one
pub record PassesByte {S : Type 0} (writer : Writer S) (a b : LineStrings S) (byte : ℕ) : Type 0 where
  pub same_sink : b.sink.ghost_name ≡ a.sink.ghost_name
  pub prints : Prints writer a.sink.now b.sink.now a.output b.output (string_part a.left_out byte)
  pub left : b.left_out ≡ left_after a.left_out byte

-- A write takes one byte, if there is any, and never fails: where the sink failed, nothing more goes on to it.
abbrev pub passes : {S : Type 0} → Writer S → MayTake (LineStrings S)
passes writer a bytes None b = ⊥
passes writer a [] (Some count) b = count ≡ 0
passes writer a (byte ∷ bytes) (Some count) b = (count ≡ 1) × PassesByte writer a b byte

-- what a sink does whose lines go on to another as strings
abbrev pub passing_writer : {S : Type 0} → Writer S → Writer (LineStrings S)
passing_writer writer = record { takes = passes writer; failures = λ _. 0 }
