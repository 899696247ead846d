-- What is complete in a front of the values that a record takes.
use Rattle.ws_record.proofs.Common as C
use C.{◌≡◌, ℕ, List, [], ◌∷◌, ◌++◌, take, drop, refl, sym, ap, ◌∙◌, append_assoc, ◌<◌, length, ◌≤◌, inl, inr, arith}
use C.{length-append, Option, Some, None, cases_lt, flat_map-append, common_steps, append-nil, take-append-drop}
use C.{length-take-le, drop-append-le, append_cancel_left, Rules, IsChain, place_after, spelling_of, IsCut}
use C.{Begins, no_end, chain_append, place_after-append, cut_at, all_but_last, IAC, Holds, Watching, Leads, RecordSoFar}
use C.{Keeper, intake, with_keep, Keeping, HasRead, IsHead, IsTaken, grown, OnlyIfOn, News, More, Whole, Open, NoMemory}
use C.{Head, Item}
use Rattle.std.proofs.lemmas.List.{length-drop, take-take}
use Rattle.ws_code.proofs.CodeLaws.{chain_more}
use Rattle.ws_code.proofs.Cuts.{CutAt}
use Rattle.ws_record.specs.declared.news.News.TheVariants.{Refused}
use Rattle.ws_record.proofs.Lives.{holds_iac, IsPart}

module _ {Place U K : Type 0} (rules : Rules Place U) (begins : Begins rules) (keeper : Keeper U K) where
  filled : (z : List ℕ) → (z ≡ [] → ⊥) → 0 < length z
  filled [] some = absurd (some refl)
  filled (b ∷ z) some = omega arith

  -- the units after others stand where those lead
  chain_behind : (place : Place) (us vs : List U) → IsChain rules place (us ++ vs)
      → IsChain rules (place_after rules place us) vs
  chain_behind place [] vs c = c
  chain_behind place (u ∷ us) vs c = chain_behind (rules.after u) us vs c.1

  -- of units of which the last one is whole with the last byte only, or with all of which the keep goes on
  part_at : (place : Place) (us : List U) (u : U) (x z : List ℕ) → IsChain rules place (us ++ u ∷ [])
      → OnlyIfOn keeper us → spelling_of rules (us ++ u ∷ []) ≡ x ++ z → (z ≡ [] → ⊥)
      → (cut : CutAt rules place x) × OnlyIfOn keeper cut.units
  part_at place us u x [] c only e some = absurd (some refl)
  part_at place us u x (next ∷ z) c (inr on) e some = (cut_at rules begins place (us ++ u ∷ []) x _ c e, inr on)
  part_at place us u x (next ∷ z) c (inl none) e some = (
    record {
      units = [];
      begun = x;
      chain = tt;
      more = record {
        unit = u;
        next = next;
        rest = z;
        stands = (rw none at c).0;
        spelled = sym (append-nil (rules.spelling u)) ∙ rw none at e;
      };
      spelled = refl;
    },
    inl refl,
  )

  -- with so many values of those that follow, these units more are complete, with which the keep goes on
  pub record ReadPart (so_far : RecordSoFar U) (front : List ℕ) : Type 0 where
    pub more : List U
    pub unfinished : List ℕ
    pub only : OnlyIfOn keeper more
    pub is_head : IsHead so_far.head (so_far.bytes ++ front)
    pub cut : IsCut rules (drop 10 (so_far.bytes ++ front)) (so_far.units ++ more) unfinished

  module _ {reader : Keeping Place} {so_far : RecordSoFar U} (r : HasRead rules reader so_far) where
    -- of a header
    header_part : (x : List ℕ) → so_far.head ≡ None → length (so_far.bytes ++ x) < 10 → ReadPart so_far x
    header_part x none short = record {
      more = [];
      unfinished = reader.begun;
      only = inl refl;
      is_head = rw none short;
      cut = (let same : drop 10 (so_far.bytes ++ x) ≡ drop 10 so_far.bytes = grind (arith, common_steps) in
          rw (same, append-nil so_far.units) r.cut);
    }

    -- of a body
    body_part : (head : Head) → so_far.head ≡ Some head → (us : List U) (u : U) (x z : List ℕ)
        → IsChain rules rules.first (so_far.units ++ (us ++ u ∷ [])) → OnlyIfOn keeper us
        → spelling_of rules (so_far.units ++ (us ++ u ∷ [])) ≡ drop 10 so_far.bytes ++ (x ++ z) → (z ≡ [] → ⊥)
        → ReadPart so_far x
    body_part head some us u x z c only e more =
        let is = rw some at r.head in
        let long : 10 ≤ length so_far.bytes = grind (arith, common_steps) in
        let behind : spelling_of rules (us ++ u ∷ []) ≡ (reader.begun ++ x) ++ z =
        append_cancel_left (spelling_of rules so_far.units) _ _ (sym (flat_map-append rules.spelling so_far.units
        (us ++ u ∷ [])) ∙ e ∙ ap (λ b. b ++ (x ++ z)) (sym r.cut.spelled)
        ∙ append_assoc (spelling_of rules so_far.units) reader.begun (x ++ z)
        ∙ ap (λ b. spelling_of rules so_far.units ++ b) (sym (append_assoc reader.begun x z))) in
        let part = part_at (place_after rules rules.first so_far.units) us u (reader.begun ++ x) z
        (chain_behind rules.first so_far.units _ c) only behind more in
        record {
          more = part.0.units;
          unfinished = part.0.begun;
          only = part.1;
          is_head = rw some (is.0, is.1, grind (arith, common_steps));
          cut = record {
            chain = chain_append rules rules.first so_far.units part.0.units r.cut.chain part.0.chain;
            more = rw (place_after-append rules rules.first so_far.units part.0.units) part.0.more;
            spelled = ap (λ b. b ++ part.0.begun) (flat_map-append rules.spelling so_far.units part.0.units)
                ∙ append_assoc (spelling_of rules so_far.units) (spelling_of rules part.0.units) part.0.begun
                ∙ ap (λ b. spelling_of rules so_far.units ++ b) part.0.spelled
                ∙ sym (append_assoc (spelling_of rules so_far.units) reader.begun x)
                ∙ ap (λ b. b ++ x) r.cut.spelled ∙ sym (drop-append-le 10 so_far.bytes x long);
          };
        }

    -- of values with all of which the record has no unit more than these, nor a header more
    grown_part : {to : Keeping Place} (w x z : List ℕ) (more : List U) → HasRead rules to (grown so_far w more)
        → OnlyIfOn keeper more → w ≡ x ++ z → ReadPart so_far x
    grown_part {to} w x z more g only split = by_head so_far.head refl where
      by_head : (head : Option Head) → so_far.head ≡ head → ReadPart so_far x
      by_head None none =
          header_part x none (omega (
            arith,
            (let few : length (so_far.bytes ++ w) < 10 = rw none at g.head in few),
            ap length split,
            length-append so_far.bytes w,
            length-append so_far.bytes x,
            length-append x z,
          ))
      by_head (Some head) some =
          let long : 10 ≤ length so_far.bytes = (let is = rw some at r.head in grind (arith, common_steps)) in
          let next = g.cut.more in
          let left : List ℕ = next.next ∷ next.rest in
          let units : List U = so_far.units ++ more in
          body_part head some more next.unit x (z ++ left)
          (rw (append_assoc so_far.units more (next.unit ∷ [])) at
          (chain_more rules rules.first units next.unit g.cut.chain next.stands)) only
          (ap (spelling_of rules) (sym (append_assoc so_far.units more (next.unit ∷ [])))
          ∙ flat_map-append rules.spelling units (next.unit ∷ [])
          ∙ ap (λ b. spelling_of rules units ++ b) (append-nil (rules.spelling next.unit) ∙ next.spelled)
          ∙ sym (append_assoc (spelling_of rules units) to.begun left) ∙ ap (λ b. b ++ left) (g.cut.spelled
          ∙ drop-append-le 10 so_far.bytes w long ∙ ap (λ b. drop 10 so_far.bytes ++ b) split)
          ∙ append_assoc (drop 10 so_far.bytes) (x ++ z) left
          ∙ ap (λ b. drop 10 so_far.bytes ++ b) (append_assoc x z left)) (λ e. no_end z next.next next.rest (sym e))

    -- of values of which the last one completes a unit
    whole_part : {to : Keeping Place} (w x z : List ℕ) (before : List U) (unit : U)
        → HasRead rules to (grown so_far w (before ++ unit ∷ [])) → to.begun ≡ [] → OnlyIfOn keeper before
        → w ≡ x ++ z → (z ≡ [] → ⊥) → ReadPart so_far x
    whole_part {to} w x z before unit g between only split more = by_head so_far.head refl where
      by_head : (head : Option Head) → so_far.head ≡ head → ReadPart so_far x
      by_head None none =
          header_part x none (omega (
            arith,
            (let few : length (so_far.bytes ++ w) < 10 = rw none at g.head in few),
            ap length split,
            length-append so_far.bytes w,
            length-append so_far.bytes x,
            length-append x z,
          ))
      by_head (Some head) some =
          let long : 10 ≤ length so_far.bytes = (let is = rw some at r.head in grind (arith, common_steps)) in
          let all : List ℕ = spelling_of rules (so_far.units ++ (before ++ unit ∷ [])) in
          body_part head some before unit x z g.cut.chain only
          (sym (append-nil all) ∙ ap (λ b. all ++ b) (sym between) ∙ g.cut.spelled
          ∙ drop-append-le 10 so_far.bytes w long ∙ ap (λ b. drop 10 so_far.bytes ++ b) split) more

  module _ (to : Keeping Place) {reader : Keeping Place}
      {so_far : RecordSoFar U} (r : HasRead rules reader so_far) (old new : K) (v x z : List ℕ)
      (split : v ≡ x ++ z) (some : z ≡ [] → ⊥) where
    -- of values that are taken, before the last one
    pub taken_part : (news : News) → IsTaken (intake rules keeper) (with_keep so_far old) v (with_keep to new) news
        → ReadPart so_far x
    taken_part More t = grown_part r v x z t.0 t.2 t.5 split
    taken_part Whole t = whole_part r v x z t.0 t.1 t.3 t.7 t.6 split some
    taken_part (Open head) t = header_part r x t.0 (omega (
      arith,
      ap length t.3,
      length-drop 10 (so_far.bytes ++ v),
      ap length split,
      length-append so_far.bytes v,
      length-append so_far.bytes x,
      length-append x z,
      filled z some,
    ))
    taken_part (Refused reason) t =
        let y = all_but_last t.0 t.1 x z (sym t.2 ∙ split) some in grown_part r t.0 x y.0 t.3.1 t.3.2 t.3.4 y.1
    taken_part NoMemory t =
        whole_part r (t.0 ++ t.1 ∷ []) x z t.3.1 t.3.2 t.3.3 t.3.4 t.3.6 (sym t.2 ∙ split) some
    taken_part news t = absurd t

module _ {Place U K : Type 0} (rules : Rules Place U) (keeper : Keeper U K) where
  module _ {live : Watching Place} {bytes : List ℕ} {items : List (Item U)} {so_far : RecordSoFar U}
      (l : Leads rules live bytes items so_far) where
    -- after bytes that no part of the open record follows
    part_still : (front begun : List ℕ) → Holds rules (bytes ++ front) items so_far.bytes begun
        → IsPart rules keeper items so_far (bytes ++ front)
    part_still front begun h = (
      [],
      inl refl,
      rw (append-nil so_far.units) (record {
        so_far = so_far.bytes;
        begun = begun;
        unfinished = live.reader.begun;
        holds = h;
        is_head = l.reads.head;
        cut = l.reads.cut;
      }),
    )

    pub part_at_none : (piece : List ℕ) (n : ℕ) → n < 1 → IsPart rules keeper items so_far (bytes ++ take n piece)
    part_at_none piece n lt =
        let zero : n ≡ 0 = omega (arith, lt) in
        rw zero (part_still [] live.begun (rw (append-nil bytes) l.holds))

    pub part_at_one : (piece : List ℕ) → live.begun ≡ [] → take 1 piece ≡ IAC ∷ [] → (n : ℕ) → n < 2
        → IsPart rules keeper items so_far (bytes ++ take n piece)
    part_at_one piece fresh one n lt = elim (cases_lt n 1) [
      | inl k ↦ part_at_none piece n k
      | inr k ↦ (let first : n ≡ 1 = omega (arith, k, lt) in
          rw (first, one) (part_still (IAC ∷ []) (IAC ∷ []) (holds_iac rules l piece fresh)))
    ]

    -- after values of the open record, before the last one that it takes
    pub part_in_values : (begins : Begins rules)
        (to : Keeping Place) (old new : K) (news : News) (piece : List ℕ) (used n : ℕ) → n < used
        → used ≤ length piece
        → IsTaken (intake rules keeper) (with_keep so_far old) (take used piece) (with_keep to new) news
        → Holds rules (bytes ++ take n piece) items (so_far.bytes ++ take n piece) []
        → IsPart rules keeper items so_far (bytes ++ take n piece)
    part_in_values begins to old new news piece used n lt within t h =
        let front : take n (take used piece) ≡ take n piece = take-take n used piece (omega (arith, lt)) in
        let rest : List ℕ = drop n (take used piece) in
        let part : ReadPart rules begins keeper so_far (take n piece) =
        taken_part rules begins keeper to l.reads old new (take used piece) (take n piece) rest
        (sym (take-append-drop n (take used piece)) ∙ ap (λ x. x ++ rest) front) (λ e. absurd (omega (
          arith,
          ap length e,
          length-drop n (take used piece),
          length-take-le used piece within,
          lt,
        ))) news t in (
          part.more,
          part.only,
          record {
            so_far = so_far.bytes ++ take n piece;
            begun = [];
            unfinished = part.unfinished;
            holds = h;
            is_head = part.is_head;
            cut = part.cut;
          },
        )
