use Rattle.ws_text.proofs.Common.{list_all, ◌≡◌, drop}
use Rattle.ws_text.specs.ExtendedAnswerLines.{is_field_byte}
use Rattle.ws_text.proofs.extended_text.are_field_bytes.Given as goal

-- all are such bytes, if those that are left are
abbrev pub invariant-loop-part : goal.invariant-loop-part
invariant-loop-part l = list_all is_field_byte l.parts ≡ list_all is_field_byte (drop l.part-index l.parts)
