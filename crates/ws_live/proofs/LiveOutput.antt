-- What a live session prints goes out behind a buffer, line by line.

use Rattle.std.proofs.Common.{◌≡◌, ℕ, List, [], length, ap, sym, subst, arith}
use Rattle.ws_code.specs.Device.{Writer, WentOut, FailedWithin}
use Rattle.ws_text.specs.Printing.{IsOut}
use Rattle.ws_text.specs.declared.output.Output.{Output}
use Rattle.ws_text.specs.declared.output.Output.TheVariants.{Open, Failed}
use Rattle.ws_printing.specs.Buffering.{Buffering, buffered_writer}
use Rattle.ws_printing.proofs.Buffers.{flushed_out, flush_fails, fails_behind}

-- What a live session prints goes out behind a buffer, line by line.

module _ {S : Type 0} (writer : Writer S) (from mid : Buffering S)
    (empty : from.held ≡ []) (to : S) where
  none_out : mid.held ≡ [] → FailedWithin writer mid.sink to mid.held → ⊥
  none_out none f = omega (arith, f.within, ap length none)

  pub handed_on : (output : Output) (text : List ℕ) → IsOut (buffered_writer writer) from mid output text
      → WentOut writer mid.sink to mid.held → (mid.held ≡ [] → to ≡ mid.sink)
      → IsOut writer from.sink to output text
  handed_on Open text w out idle = flushed_out writer from empty mid to text w out
  handed_on Failed text f out idle =
      let g = fails_behind writer from empty mid text f in
      subst (λ (s : S). FailedWithin writer from.sink s text) (sym (idle g.1)) g.0

  pub not_handed_on : (output : Output) (text : List ℕ) → IsOut (buffered_writer writer) from mid output
      text → FailedWithin writer mid.sink to mid.held → IsOut writer from.sink to Failed text
  not_handed_on Open text w out = flush_fails writer from empty mid to text w out
  not_handed_on Failed text f out = absurd (none_out (fails_behind writer from empty mid text f).1 out)
