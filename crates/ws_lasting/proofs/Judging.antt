use Rattle.ws_lasting.proofs.Common as C
use C.{◌≡◌, ℕ, List, [], ◌∷◌, ◌++◌, drop, refl, sym, ap, ◌∙◌, inl, inr, subst, append_assoc, arith, common_steps, Rules}
use C.{IsPrefixFree, AreBytes, spelling_of, Reason, AreBytes-apart, SpellsBytes, Begins, drop-front, Eor, IsRecord}
use C.{record_bytes, IsFramed, IsBodyBytes, RecordItem, Record, record_bytes_are, one_record, DisplayOf, EndStateOn}
use C.{on_display, takes_on, Bool, if◌then◌else◌, RecordBeforeNegotiation, Refuses, IsPerformed, IsRefusedFor}
use C.{IsDeclined, IsUnfit, IsSpoilt, RefusedRecord}

-- A record is carried out or refused, and not both.

module _ {P U : Type 0} (rules : Rules P U) (law : SpellsBytes rules) (r : Record U) (is : IsRecord rules r)
    (bytes : List ℕ) (e : bytes ≡ record_bytes rules r) where
  right_frame : IsFramed bytes
  right_frame = subst IsFramed (sym e) (record {
    flags = r.flags;
    opcode = r.opcode;
    rest = spelling_of rules r.body;
    flags_fit = is.flags_fit;
    length_fits = is.length_fits;
    spelled = grind (arith, common_steps);
  })

  right_body : IsBodyBytes rules (drop 10 bytes)
  right_body = subst (λ x. IsBodyBytes rules (drop 10 x)) (sym e)
      (record { units = r.body; whole = is.body; spelled = refl })

  not_spoilt : (why : RefusedRecord) → IsSpoilt rules bytes why → ⊥
  not_spoilt why s =
      let split = s.split ∙ sym (append_assoc s.front (s.byte ∷ []) s.rest) in
      let are = subst AreBytes (sym e ∙ split) (record_bytes_are rules law r is) in
      let parts = AreBytes-apart (s.front ++ s.byte ∷ []) s.rest are in
      let left = drop-front 10 (s.front ++ s.byte ∷ []) s.rest in
      elim s.unfit [
        | inl q ↦ q.0 (record { more = s.rest; bytes = parts.1; framed = subst IsFramed split right_frame })
        | inr q ↦ q.1 (record {
          units = r.body;
          more = left.0;
          whole = is.body;
          spelled = ap (drop 10) (sym e ∙ split) ∙ left.1;
        })
      ]

  not_unfit : (reason : Reason) → IsUnfit rules bytes Eor reason → ⊥
  not_unfit reason u = elim u [
    | inl q ↦ q.0 right_frame
    | inr q ↦ q.1 right_body
  ]

module _ {D P U H PlaceV V K R : Type 0} (rules : Rules P U) (d : DisplayOf D U H PlaceV V K R)
    (free : IsPrefixFree rules) (begins : Begins rules) (law : SpellsBytes rules) where
  not_declined : (state next : EndStateOn H) (bytes written : List ℕ) (reason : Reason)
      → IsPerformed (on_display rules d) state bytes next written → IsDeclined (on_display rules d) state bytes reason → ⊥
  not_declined state next bytes written reason c n =
      let same = one_record rules free begins c.0 n.0 c.1 n.1 (sym c.2 ∙ n.2) in
      let e = sym c.4 ∙ ap (λ z. takes_on d state (RecordItem z)) same ∙ n.3 in cc

  pub judged_one_way : (state next : EndStateOn H) (bytes written : List ℕ) (why : RefusedRecord)
      → IsPerformed (on_display rules d) state bytes next written
      → IsRefusedFor (on_display rules d) state bytes why → ⊥
  judged_one_way state next bytes written why c (inl s) = not_spoilt rules law c.0 c.1 bytes c.2 why s
  judged_one_way state next bytes written why c (inr (inl u, at)) =
      not_unfit rules law c.0 c.1 bytes c.2 why.reason u
  judged_one_way state next bytes written why c (inr (inr (inl n), at)) =
      not_declined state next bytes written why.reason c n
  judged_one_way state next bytes written why c (inr (inr (inr n), at)) =
      let e = ap (λ (z : Bool). if z then d.applies state c.0 else Refuses RecordBeforeNegotiation) (sym n.0) ∙ c.4 in cc
