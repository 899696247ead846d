use Rattle.ws_session.proofs.Common.{◌≡◌, ◌+◌, ◌-◌, List, ◌++◌, ◌∙◌, ℕ, take, drop, ap, sym, arith, length, length-drop}
use Rattle.ws_session.proofs.Common.{length-append, length-take-le, drop-drop, on_ok_weaker, WireParts, Crossing}
use Rattle.ws_session.proofs.Common.{all_sent, all_read, with_piece_at}
use Rattle.std.proofs.lemmas.List.{with_items_is}
use Rattle.ws_session.proofs.world.Crossed.{least_taken}
use Rattle.ws_session.proofs.world.wire.Wire.cross.Goals as goal

pub returns-clause-crossed : goal.returns-clause-crossed
returns-clause-crossed g c =
    let bytes = c.self.inside.bytes.items in
    let at = c.self.inside.at in
    let given = c.deref_mut.result.now in
    let value = c.deref_mut.ensures.value in
    let n = c.min.result in
    let k : ℕ = at + n - at in
    let same : k ≡ n = omega arith in
    let new = c.cross.new.bytes in
    let left = rw (← c.self.view_is) at c.in_flight.ensures.left in
    let flight : List ℕ = drop at bytes in
    let whole : k ≡ length (take k (drop at given)) = sym (length-take-le k (drop at given) (omega (
      arith,
      same,
      left,
      c.min.ensures,
      length-drop at given,
      ap (λ (z : List ℕ). length z) value,
    ))) in
    let long : at + k ≡ at + length new = omega (arith, whole, c.cross.auto.bytes) in
    let sent : (cs : List Crossing) → all_sent cs ≡ take k (drop at given) → all_sent cs ≡ take c.args.count flight =
    λ cs e. e ∙ ap (λ z. take k (drop at z)) value
    ∙ least_taken flight c.args.count k (omega (arith, same, left, c.min.ensures, length-drop at bytes)) in
    let read : (cs : List Crossing) → all_read cs ≡ new
    → take at given ++ (new ++ drop k (drop at given)) ≡ with_piece_at bytes at (all_read cs) = λ cs e.
    ap (λ z. take at z ++ (new ++ drop k (drop at z))) value
    ∙ ap (λ z. take at bytes ++ (new ++ z)) (drop-drop k at bytes ∙ ap (λ j. drop j bytes) long)
    ∙ ap (λ z. take at bytes ++ (z ++ drop (at + length z) bytes)) (sym e) in
    let rest : List ℕ = drop k (drop at given) in
    let put : List ℕ = take at given ++ (new ++ rest) in
    let size : length put ≡ c.self.inside.bytes.len = omega (
      arith,
      same,
      left,
      whole,
      c.min.ensures,
      c.cross.auto.bytes,
      c.self.inside.bytes.ok.0,
      ap (λ (z : List ℕ). length z) value,
      length-append (take at given) (new ++ rest),
      length-append new rest,
      length-take-le at given (omega (arith, left, ap (λ (z : List ℕ). length z) value)),
      length-drop k (drop at given),
      length-drop at given,
    ) in
    rw (← c.self.view_is) (on_ok_weaker c.cross.result (λ q. (
      q.0,
      q.1,
      sent q.0 q.2,
      ap (λ (l : List ℕ). let z : WireParts = record { bytes = l; at = at } in z)
          (with_items_is c.self.inside.bytes put size ∙ read q.0 q.3),
    )) c.cross.ensures.crossed)
