-- An element that has come in part.

use Rattle.std.specs.Prelude.{ℕ, List}
use Rattle.ws_stream.specs.Machine.{unfinished_in}
use Rattle.ws_stream.specs.declared.commands.Commands.{Commands}

-- the bytes since the last whole element that a machine has taken
abbrev pub unfinished_of : Commands → List ℕ
unfinished_of m = unfinished_in m.phase m.bytes m.kinds m.controls
