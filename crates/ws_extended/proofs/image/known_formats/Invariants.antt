use Rattle.std.specs.List.{AllByRecursion}
use Rattle.std.proofs.Common.{take}
use Rattle.ws_code.specs.FormatWord.{IsFfw}
use Rattle.ws_screen.specs.declared.field.Field.{Field}
use Rattle.ws_extended.proofs.image.known_formats.Given as goal

-- those so far
abbrev pub invariant-loop-field : goal.invariant-loop-field
invariant-loop-field l = AllByRecursion (λ (f : Field). IsFfw f.format) (take l.field-index l.fields)
