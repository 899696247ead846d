use Rattle.ws_record.proofs.Common.{◌≡◌, [], ◌∷◌, ◌++◌, ap, ◌∙◌, length, inl, inr, arith, length-append, Rules}
use Rattle.ws_record.proofs.Common.{IsPrefixFree, Begins, both_empty, IsInGrammar, MayGrow}
use Rattle.ws_record.proofs.Fronts.{one_holding}
use Rattle.ws_record.proofs.laws.encode_and_decode.Goals as goal

-- in no bytes nothing is complete
nothing_grows : {Place U : Type 0} (rules : Rules Place U) → IsPrefixFree rules → Begins rules
    → IsInGrammar rules [] [] → MayGrow rules [] → ⊥
nothing_grows rules free begins none (inl (items, u)) = let e : [] ≡ u.0 ++ u.1 ∷ u.2 = u.3 in
    omega (arith, ap length e, length-append u.0 (u.1 ∷ u.2))
nothing_grows {Place} {U} rules free begins none (inr i) =
    let front : i.front ≡ [] = (both_empty i.front i.rest i.split).0 in
    let same : i.items ++ i.item ∷ [] ≡ [] = one_holding rules free begins _ _ [] (i.so_far, i.begun, i.holds)
    ([], [], rw front none) in
    omega (arith, ap length same, length-append i.items (i.item ∷ []))

pub returns-clause-fault : goal.returns-clause-fault
returns-clause-fault g c = (
  c.in_ok-bytes.ensures.encoded,
  λ e. (
      let accepted = c.in_ok-bytes.ensures.accepted in
      let bare : c.in_ok-bytes.bytes.items ≡ [] = c.in_ok-bytes.ensures.spelled ∙ rw e in
      let memory = c.in-Err.ensures.only c.args.items.now (rw c.as_slice.ensures.value accepted) in
      nothing_grows g.B.Code.rules g.met.B.Code.prefix_free g.met.B.Code.begins (rw bare at (rw e at accepted))
      (rw (c.as_slice.ensures.value ∙ bare) at (rw memory at c.in-Err.ensures.fault))),
)
