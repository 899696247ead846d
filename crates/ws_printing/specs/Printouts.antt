-- What goes out at a sink.

use Rattle.std.specs.Prelude.{ℕ, List}
use Rattle.ws_code.specs.Device.{Writer, WentOut}

-- a sink at which something is printed: what it takes, how it stood before, and how it stands after
pub record Printout (O : Type 0) : Type 1 where
  pub writer : Writer O
  pub from : O
  pub to : O

-- a printout at a sink that takes this, which stood so before and stands so after
abbrev pub printout : {O : Type 0} → Writer O → O → O → Printout O
printout writer from to = record { writer = writer; from = from; to = to }

-- this text is what was printed
abbrev pub IsPrintedOut : {O : Type 0} → Printout O → List ℕ → Type 0
IsPrintedOut out text = WentOut out.writer out.from out.to text
