use Rattle.ws_printing.proofs.Common.{open_before, ◌≡◌, ℕ, ◌*◌, ◌≤◌, List, [], length, ap, arith, length-append, Rules}
use Rattle.ws_printing.proofs.Common.{Reader, Gave, Watching, Layer, IsOpen, refused_append, Counts, HasRefusal, Tally}

-- What is read of a source.

-- a source gave bytes by so many reads, none of which is refused; the decoder and the tally have taken them
pub record Taking {Place U S : Type 0} (rules : Rules Place U) (reader : Reader S) (from to : S)
    (reads : ℕ) (live : Watching Place) (tally : Tally) (size : ℕ) : Type 0 where
  pub bytes : List ℕ
  pub gave : Gave reader from to reads bytes
  pub counts : Counts rules live tally bytes
  pub sized : size ≡ length bytes
  pub few : length bytes ≤ 65536 * reads

-- no byte is refused of such as lead to a decoder
pub unrefused : {Place U : Type 0} (rules : Rules Place U) (bytes : List ℕ)
    → ((layer : Layer) → IsOpen rules layer bytes) → HasRefusal rules bytes → ⊥
unrefused rules bytes opened h =
    let behind = open_before rules bytes [] h.0 h.1 opened (refused_append rules bytes [] h.0 h.1 h.2) in
    let split = ap length h.2.split in
    omega (arith, behind, h.2.at_place, simp length-append at split)
