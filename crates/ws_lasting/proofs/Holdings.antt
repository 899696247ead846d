use Rattle.ws_lasting.proofs.Common as C
use C.{AllByRecursion, ◌≡◌, ℕ, List, [], ◌∷◌, ◌++◌, drop, refl, sym, ap, ◌∙◌, length, inl, inr, arith, length-append}
use C.{append-nil, append_assoc, take_at, ◌≤◌, ◌+◌, IsOpenPrefix, Rules, IsSpelled, IsUnfinished, IsPrefixFree, IsCut}
use C.{Reason, SpellsBytes, Begins, one_cut, CanEnd, cut_ends, cut_unit, joined, AllByRecursion-append, flat_map-append}
use C.{map-append, carried, HasNoEor, token_rules, token_prefix_free, token_begins, Token, Data, Eor, TelnetToken}
use C.{IsRecord, Holds, record_bytes, IsStretch, IsFramed, CanBeFramed, IsRefused, Layer, IsReason, Tokens, Header}
use C.{Body, Item, Record, BeginsList, IsFirstClosedTo, EndsWithToken, EndsRecord, IsBodyReason, header_reason, subst}
use C.{subst₂, ap₂, LeavesOpen, one_end, ends_with_one, one_join, parts_of, holds_data, holds_more, holds_command}
use C.{refused_forms, one_items, parts_no_eor, held, IsUnfit}

-- What a byte more tells of the items and the open record of bytes.

same_split : (xs : List ℕ) (b : ℕ) (ys : List ℕ) (c : ℕ) (rest : List ℕ) → xs ++ b ∷ [] ≡ ys ++ c ∷ rest
    → length xs ≡ length ys → (xs ≡ ys) × (b ≡ c)
same_split [] b [] c rest e n = (refl, cc)
same_split [] b (y ∷ ys) c rest e n = absurd (omega (arith, n))
same_split (x ∷ xs) b [] c rest e n = absurd (omega (arith, n))
same_split (x ∷ xs) b (y ∷ ys) c rest e n =
    let same : length xs ≡ length ys = omega (arith, n) in
    let left : xs ++ b ∷ [] ≡ ys ++ c ∷ rest = cc in
    let found = same_split xs b ys c rest left same in
    let first : x ≡ y = cc in
    (rw (first, found.0) refl, found.1)

token_can_end : CanEnd token_rules
token_can_end place = ([], tt, refl)

module _ {Place U : Type 0} (rules : Rules Place U) (free : IsPrefixFree rules) (begins : Begins rules) where
  -- bytes hold one list of items, one open record and one begun token
  pub one_holds : {bytes : List ℕ} {items others : List (Item U)} {so_far begun other left : List ℕ}
      → Holds rules bytes items so_far begun → Holds rules bytes others other left
      → (items ≡ others) × (so_far ≡ other) × (begun ≡ left)
  one_holds a b =
      let tokens = one_cut token_rules token_prefix_free tt _ _ _ _ a.cut.chain b.cut.chain a.cut.more b.cut.more
      (a.cut.spelled ∙ sym b.cut.spelled) in
      let parts = one_join _ _ _ _ (parts_no_eor _ _ a.each) (parts_no_eor _ _ b.each) a.no_eor b.no_eor tokens.0 in
      (one_items rules free begins a b, a.is_open ∙ ap carried parts.1 ∙ sym b.is_open, tokens.1)

  last_stretch : (ps : List (List Token)) (p : List Token) (ss : List (List Token × Record U))
      → AllByRecursion (IsStretch rules) ss → ps ++ p ∷ [] ≡ parts_of rules ss
      → (r : Record U) × IsRecord rules r × (carried p ≡ record_bytes rules r)
  last_stretch [] p [] h e = cc
  last_stretch [] p (s ∷ []) h e = let same : p ≡ s.0 = cc in (s.1, h.0.is_record, ap carried same ∙ h.0.carries)
  last_stretch [] p (s ∷ t ∷ ss) h e = cc
  last_stretch (q ∷ ps) p [] h e = cc
  last_stretch (q ∷ ps) p (s ∷ ss) h e = last_stretch ps p ss h.1 cc

  -- an EOR ends a record, if bytes with it hold items
  pub ended : {bytes : List ℕ} {items others : List (Item U)} {so_far begun other left : List ℕ}
      → (h : Holds rules bytes items so_far begun) (b : ℕ) → IsSpelled token_rules tt (begun ++ b ∷ []) Eor
      → Holds rules (bytes ++ b ∷ []) others other left
      → (r : Record U) × IsRecord rules r × (so_far ≡ record_bytes rules r)
  ended h b s k =
      let cut = cut_unit token_rules token_begins _ _ _ b Eor h.cut s in
      let tokens = one_cut token_rules token_prefix_free tt _ _ _ _ cut.chain k.cut.chain cut.more k.cut.more
      (cut.spelled ∙ sym k.cut.spelled) in
      let whole : joined (parts_of rules h.stretches) h.rest ++ Eor ∷ []
      ≡ joined (parts_of rules h.stretches ++ h.rest ∷ []) [] =
      simp (append_assoc, append-nil, flat_map-append, map-append) in
      let parts = one_join (parts_of rules h.stretches ++ h.rest ∷ []) (parts_of rules k.stretches) [] k.rest
      (AllByRecursion-append HasNoEor _ _ (parts_no_eor _ _ h.each) (h.no_eor, tt)) (parts_no_eor _ _ k.each) tt
      k.no_eor (sym whole ∙ tokens.0) in
      let r = last_stretch _ h.rest k.stretches k.each parts.0 in
      (r.0, r.1, h.is_open ∙ r.2)

  -- a list isn't the same with one more
  pub no_more : {X : Type 0} (xs : List X) (x : X) → xs ≡ xs ++ x ∷ [] → ⊥
  no_more xs x e =
      let n : length xs ≡ length (xs ++ x ∷ []) = ap length e in omega (arith, n, length-append xs (x ∷ []))

  module _ (can : CanEnd rules) (law : SpellsBytes rules) where
    leaves : {bytes : List ℕ} {items : List (Item U)} {so_far begun : List ℕ} (k : Holds rules bytes items so_far begun)
        → ((x : List ℕ) → EndsRecord bytes x → ⊥) → LeavesOpen bytes so_far
    leaves {begun = begun} k elsewhere = record {
      parts = parts_of rules k.stretches;
      rest = k.rest;
      begun = begun;
      no_eor = (parts_no_eor _ _ k.each, k.no_eor);
      cut = k.cut;
      is_open = k.is_open;
      elsewhere = elsewhere;
    }

    left_same : {bytes : List ℕ} {items : List (Item U)} {x so_far begun : List ℕ} → LeavesOpen bytes x
        → Holds rules bytes items so_far begun → x ≡ so_far
    left_same q k =
        let tokens = one_cut token_rules token_prefix_free tt _ _ _ _ q.cut.chain k.cut.chain q.cut.more k.cut.more
        (q.cut.spelled ∙ sym k.cut.spelled) in
        let parts = one_join _ _ _ _ q.no_eor.0 (parts_no_eor _ _ k.each) q.no_eor.1 k.no_eor tokens.0 in
        q.is_open ∙ ap carried parts.1 ∙ sym k.is_open

    begins_tokens : {bytes : List ℕ} {tokens : List Token} {begun : List ℕ} → IsCut token_rules bytes tokens begun
        → BeginsList token_rules bytes
    begins_tokens cut =
        let ends = cut_ends token_rules token_can_end _ _ _ cut in
        record { units = ends.0; more = ends.1; whole = ends.2; spelled = ends.3 }

    -- where bytes with one more of data begin a stream that is refused later, the record so far fits
    pub fits_before : {bytes : List ℕ} {items : List (Item U)} {so_far begun : List ℕ}
        → (h : Holds rules bytes items so_far begun) (c v : ℕ) → IsSpelled token_rules tt (begun ++ c ∷ []) (Data v)
        → (more : List ℕ) (place : ℕ) (reason : Reason) → IsRefused rules ((bytes ++ c ∷ []) ++ more) place reason
        → length (bytes ++ c ∷ []) ≤ place → CanBeFramed (so_far ++ v ∷ [])
        × BeginsList rules (drop 10 (so_far ++ v ∷ []))
    fits_before {bytes} {items} {so_far} h c v s more place reason r after =
        let p = (refused_forms rules begins can law _ _ _).0 r in
        let n = length-append bytes (c ∷ []) in
        let long : length (bytes ++ c ∷ []) ≡ length bytes + 1 = omega (arith, n) in
        let opened : (layer : Layer) → IsOpenPrefix rules layer (bytes ++ c ∷ []) =
        λ layer. rw (take_at (bytes ++ c ∷ []) more (length bytes + 1) long) at
        (p.least (length bytes) (omega (arith, long, after)) layer) in
        let k = holds_data rules h c v s in
        let elsewhere : (x : List ℕ) → EndsRecord (bytes ++ c ∷ []) x → ⊥ =
        λ x e. (let kinds = (one_end _ _ _ _ _ (ends_with_one (held rules h Tokens) c s) e).1 in cc) in (
          elim (opened Header) [
            | inl q ↦ absurd (elsewhere _ q.1)
            | inr q ↦ subst CanBeFramed (left_same q.1 k) q.2
          ],
          elim (opened Body) [
            | inl q ↦ absurd (elsewhere _ q.1)
            | inr q ↦ subst (λ x. BeginsList rules (drop 10 x)) (left_same q.1 k) q.2
          ],
        )

    -- bytes that leave a right record open are open
    still_open : {bytes : List ℕ} {items : List (Item U)} {so_far begun : List ℕ}
        → Holds rules bytes items so_far begun → ((x : List ℕ) → EndsRecord bytes x → ⊥) → CanBeFramed so_far
        → BeginsList rules (drop 10 so_far) → (layer : Layer) → IsFirstClosedTo rules layer bytes → ⊥
    still_open k elsewhere framed body Tokens closed = closed (begins_tokens k.cut)
    still_open k elsewhere framed body Header closed = closed.1 (inr (_, leaves k elsewhere, framed))
    still_open k elsewhere framed body Body closed = closed.2 (inr (_, leaves k elsewhere, body))

    module _ {bytes : List ℕ} {items : List (Item U)} {so_far begun : List ℕ}
        (h : Holds rules bytes items so_far begun) (framed : CanBeFramed so_far)
        (body : BeginsList rules (drop 10 so_far)) (b : ℕ) (reason : Reason) where
      at_token : {t : Token} → IsSpelled token_rules tt (begun ++ b ∷ []) t → EndsWithToken (bytes ++ b ∷ []) so_far t
      at_token s = ends_with_one (held rules h Tokens) b s

      judge_more : IsUnfinished token_rules tt (begun ++ b ∷ []) → (layer : Layer)
          → IsFirstClosedTo rules layer (bytes ++ b ∷ []) → ⊥
      judge_more u layer closed =
          let k = holds_more rules h (b ∷ []) u in
          still_open k (λ x e. (
          let inside = (one_cut token_rules token_prefix_free tt _ _ _ [] k.cut.chain e.tokens.chain k.cut.more
          (token_begins tt) (k.cut.spelled ∙ e.spelled ∙ sym (append-nil _))).1 in
          let n = ap length inside in omega (arith, n, length-append begun (b ∷ [])))) framed body layer closed

      judge : (t : Token) → IsSpelled token_rules tt (begun ++ b ∷ []) t → (layer : Layer)
          → IsFirstClosedTo rules layer (bytes ++ b ∷ []) → IsReason rules layer bytes b reason
          → IsUnfit rules so_far t reason
      judge t s Tokens closed why =
          absurd (closed (begins_tokens (cut_unit token_rules token_begins _ _ _ b t h.cut s)))
      judge (TelnetToken t) s layer closed why = still_open (holds_command rules h b t s) (λ x e. (
          let kinds = (one_end _ _ _ _ _ (at_token s) e).1 in cc)) framed body layer closed
      judge (Data v) s Header closed why =
          let same = one_end _ _ _ _ _ (at_token s) why.2 in
          inl (
            (λ can_be. closed.1 (inr (
              _,
              leaves (holds_data rules h b v s) (λ x e. (
                  let kinds = (one_end _ _ _ _ _ (at_token s) e).1 in cc)),
              can_be,
            ))),
            why.3 ∙ ap₂ header_reason (sym same.0) (sym same.1),
          )
      judge Eor s Header closed why =
          let same = one_end _ _ _ _ _ (at_token s) why.2 in
          inl ((λ is. closed.1 (inl (_, at_token s, is))), why.3 ∙ ap₂ header_reason (sym same.0) (sym same.1))
      judge (Data v) s Body closed why =
          let same = one_end _ _ _ _ _ (at_token s) why.2 in
          let k = holds_data rules h b v s in
          let elsewhere : (x : List ℕ) → EndsRecord (bytes ++ b ∷ []) x → ⊥ =
          λ x e. (let kinds = (one_end _ _ _ _ _ (at_token s) e).1 in cc) in
          inr (
            elim closed.1 [
              | inl q ↦ absurd (elsewhere _ q.1)
              | inr q ↦ subst CanBeFramed (left_same q.1 k) q.2
            ],
            (λ is. closed.2 (inr (_, leaves k elsewhere, is))),
            subst₂ (λ x (u : Token). IsBodyReason rules (drop 10 x) u reason) (sym same.0) (sym same.1) why.3,
          )
      judge Eor s Body closed why =
          let same = one_end _ _ _ _ _ (at_token s) why.2 in
          inr (
            elim closed.1 [
              | inl q ↦ subst IsFramed (one_end _ _ _ _ _ q.1 (at_token s)).0 q.2
              | inr q ↦ absurd (q.1.elsewhere _ (at_token s))
            ],
            (λ is. closed.2 (inl (_, at_token s, is))),
            subst₂ (λ x (u : Token). IsBodyReason rules (drop 10 x) u reason) (sym same.0) (sym same.1) why.3,
          )

      -- the byte after the bytes is refused
      closed_at : (place : ℕ) → place ≡ length bytes → IsRefused rules (bytes ++ b ∷ []) place reason
          → (layer : Layer) × IsFirstClosedTo rules layer (bytes ++ b ∷ []) × IsReason rules layer bytes b reason
      closed_at place at r =
          let p = (refused_forms rules begins can law _ _ _).0 r in
          let same = same_split bytes b p.before p.byte p.after p.split (sym at ∙ p.at_place) in (
            p.layer,
            subst₂ (λ x c. IsFirstClosedTo rules p.layer (x ++ c ∷ [])) (sym same.0) (sym same.1) p.closed,
            subst₂ (λ x c. IsReason rules p.layer x c reason) (sym same.0) (sym same.1) p.why,
          )

      pub unfit : (place : ℕ) → place ≡ length bytes → IsRefused rules (bytes ++ b ∷ []) place reason
          → (t : Token) → IsSpelled token_rules tt (begun ++ b ∷ []) t → IsUnfit rules so_far t reason
      unfit place at r t s = let p = closed_at place at r in judge t s p.0 p.1 p.2

      pub not_inside : (place : ℕ) → place ≡ length bytes → IsRefused rules (bytes ++ b ∷ []) place reason
          → IsUnfinished token_rules tt (begun ++ b ∷ []) → ⊥
      not_inside place at r u = let p = closed_at place at r in judge_more u p.0 p.1
