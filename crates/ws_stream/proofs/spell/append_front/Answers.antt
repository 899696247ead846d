use Rattle.std.proofs.Common.{ℕ, List, length, ap, arith, length-append}
use Rattle.ws_stream.proofs.Words.{words_length}
use Rattle.ws_stream.proofs.spell.append_front.Goals as goal

pub returns-clause-room : goal.returns-clause-room
returns-clause-room c =
    omega (
      arith,
      ap (λ (l : List ℕ). length l) c.append_words.ensures,
      length-append {A = ℕ},
      words_length,
      c.append_format.ensures.room,
      c.controls.ensures.legal.few,
      ap (λ (l : List ℕ). length l) c.controls.ensures.value,
      c.requires,
    )
