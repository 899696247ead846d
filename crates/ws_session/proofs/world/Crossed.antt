-- What has crossed a line.

use Rattle.ws_session.proofs.Common.{◌≡◌, List, [], ◌∷◌, ◌++◌, ◌∙◌, ℕ, zero, suc, take, drop, take-append-drop, ap, sym}
use Rattle.ws_session.proofs.Common.{length, append_assoc, append-nil, drop-drop, ap₂, Fault, Move, Crossing}
use Rattle.ws_session.proofs.Common.{with_piece_at, AreFaithful, HaveCrossed, IsStopped, all_sent, all_read, WireParts}
use Rattle.ws_session.proofs.Common.{refl, Session, after_move, after_moves, arith, min, cases_lt, take_all, inl, inr}
use Rattle.ws_code.specs.Device.{Devices}
use Rattle.ws_session.specs.declared.world.line.Line.{Line}
use Rattle.ws_session.specs.world.Carried.{all_brought}

pub faithful_prefix : (cs ds : List Crossing) → AreFaithful (cs ++ ds) → AreFaithful cs
faithful_prefix [] ds f = tt
faithful_prefix (c ∷ cs) ds f = (f.0, faithful_prefix cs ds f.1)

pub faithful_back : (cs ds : List Crossing) → AreFaithful (cs ++ ds) → AreFaithful ds
faithful_back [] ds f = f
faithful_back (c ∷ cs) ds f = faithful_back cs ds f.1

pub faithful_read : (cs : List Crossing) → AreFaithful cs → all_read cs ≡ all_sent cs
faithful_read [] f = refl
faithful_read (c ∷ cs) f = ap₂ (λ x y. x ++ y) f.0 (faithful_read cs f.1)

module _ {S R : Type 0} (devices : Devices R S) where
  -- pieces, and then further ones
  pub crossed_on : (a b c : Line S R) (cs ds : List Crossing) → HaveCrossed devices a cs b
      → HaveCrossed devices b ds c → HaveCrossed devices a (cs ++ ds) c
  crossed_on a b c [] ds p q = rw p q
  crossed_on a b c (x ∷ cs) ds p q = (p.0, p.1, p.2, crossed_on p.0 b c cs ds p.3 q)

  -- a stop behind pieces that crossed
  pub stop_behind : (a b c : Line S R) (cs : List Crossing) (fault : Fault) → HaveCrossed devices a cs b
      → IsStopped devices b c fault → IsStopped devices a c fault
  stop_behind a b c cs fault p q = record {
    crossings = cs ++ q.crossings;
    last = q.last;
    crossed = crossed_on a b _ cs _ p q.crossed;
    bytes = q.bytes;
    slice = q.slice;
    failed = q.failed;
  }

-- behind the first of some bytes, also where there are fewer
pub past : (n : ℕ) (xs : List ℕ) → drop (length (take n xs)) xs ≡ drop n xs
past zero xs = refl
past (suc n) [] = refl
past (suc n) (x ∷ xs) = past n xs

-- what was read of a wire's bytes leaves it as it was, where it is what was written
pub kept : (wire : WireParts) (count : ℕ) (cs : List Crossing) → all_sent cs ≡ take count (drop wire.at wire.bytes)
    → AreFaithful cs → (let z : WireParts = record wire { bytes = with_piece_at wire.bytes wire.at (all_read cs) } in z)
    ≡ wire
kept wire count cs sent f =
    let flight = drop wire.at wire.bytes in
    let prefix = take wire.at wire.bytes in
    let more = take count flight in
    let same : with_piece_at wire.bytes wire.at more ≡ wire.bytes =
    ap (λ z. prefix ++ (more ++ z)) (sym (drop-drop (length more) wire.at wire.bytes) ∙ past count flight)
    ∙ ap (λ z. prefix ++ z) (take-append-drop count flight) ∙ take-append-drop wire.at wire.bytes in
    ap (λ (l : List ℕ). let z : WireParts = record wire { bytes = l } in z)
    (ap (with_piece_at wire.bytes wire.at) (faithful_read cs f ∙ sent) ∙ same)

pub least_taken : (xs : List ℕ) (count n : ℕ) → n ≡ min count (length xs) → take n xs ≡ take count xs
least_taken xs count n is = elim (cases_lt count (length xs)) [
  | inl h ↦ ap (λ k. take k xs) (let e : n ≡ count = omega (arith, is, h) in e)
  | inr h ↦ take_all n xs (omega (arith, is, h)) ∙ sym (take_all count xs (omega (arith, h)))
]

-- what a move more delivers
pub brought_more : (brought : Session → Move → List ℕ) (w : Session) (moves : List Move) (move : Move)
    → all_brought brought w (moves ++ move ∷ []) ≡ all_brought brought w moves ++ brought (after_moves w moves) move
brought_more brought w [] move = append-nil (brought w move)
brought_more brought w (m ∷ moves) move =
    ap (λ z. brought w m ++ z) (brought_more brought (after_move w m) moves move)
    ∙ sym (append_assoc (brought w m) (all_brought brought (after_move w m) moves)
    (brought (after_moves (after_move w m) moves) move))
