-- Codes: bytes are cut into units in one way, and what one more byte makes of a cut.
use Rattle.std.proofs.Common.{true, ◌≡◌, ℕ, zero, suc, ◌+◌, ◌<◌, List, [], ◌∷◌, ◌++◌, ◌⊎◌, inl, inr, length, take}
use Rattle.std.proofs.Common.{get_or, refl, sym, ap, ◌∙◌, subst, arith, append_assoc, length-append}
use Rattle.std.proofs.Math.ListN.{replicate}
use Rattle.std.proofs.lemmas.Grind.{flat_map-append}
use Rattle.std.proofs.lemmas.List.{append_cancel_left, append-nil, take_more}
use Rattle.ws_code.specs.Code.{Rules, Stands, IsSpelled, IsPrefix, IsUnfinished, IsChain, IsCut, IsWhole, IsPrefixFree}
use Rattle.ws_code.specs.Code.{AreBytes, place_after, spelling_of}

-- a list of bytes in two parts
pub AreBytes-append : (xs ys : List ℕ) → AreBytes xs → AreBytes ys → AreBytes (xs ++ ys)
AreBytes-append [] ys h k = k
AreBytes-append (x ∷ xs) ys h k = (h.0, AreBytes-append xs ys h.1 k)

pub zeros_are : (n : ℕ) → AreBytes (replicate n 0)
zeros_are zero = tt
zeros_are (suc n) = (omega arith, zeros_are n)

pub AreBytes-front : (xs ys : List ℕ) → AreBytes (xs ++ ys) → AreBytes xs
AreBytes-front [] ys h = tt
AreBytes-front (x ∷ xs) ys h = (h.0, AreBytes-front xs ys h.1)

-- of two lists that begin one list, one begins the other
pub one_begins : {A : Type 0} (a b x y : List A) → a ++ x ≡ b ++ y → ((r : List A) × (b ≡ a ++ r) × (x ≡ r ++ y))
    ⊎ ((r : List A) × (a ≡ b ++ r) × (y ≡ r ++ x))
one_begins [] b x y e = inl (b, refl, e)
one_begins (s ∷ a) [] x y e = inr (s ∷ a, refl, sym e)
one_begins {A} (s ∷ a) (t ∷ b) x y e =
    let same : s ≡ t = cc in
    let rest : a ++ x ≡ b ++ y = cc in
    elim (one_begins a b x y rest) [
      | inl p ↦ inl (p.0, (let q = p.1 in cc), p.2)
      | inr p ↦ inr (p.0, (let q = p.1 in cc), p.2)
    ]

front_empty : {A : Type 0} (a b : List A) → [] ≡ a ++ b → a ≡ []
front_empty [] b e = refl
front_empty (s ∷ a) b e = cc

pub no_end : {A : Type 0} (x : List A) (b : A) (y : List A) → [] ≡ x ++ b ∷ y → ⊥
no_end [] b y e = cc
no_end (s ∷ x) b y e = cc

module _ {Place U : Type 0} where
  -- a whole spelling can't stand before what is left of a proper prefix
  no_inside : (rules : Rules Place U) → IsPrefixFree rules → (place : Place) (v : U) (z x : List ℕ)
      → Stands rules place v → IsUnfinished rules place x → x ≡ rules.spelling v ++ z → ⊥
  no_inside rules free place v z x sv more e =
      let long : rules.spelling more.unit ≡ rules.spelling v ++ (z ++ more.next ∷ more.rest) = more.spelled
      ∙ ap (λ y. y ++ more.next ∷ more.rest) e ∙ append_assoc (rules.spelling v) z (more.next ∷ more.rest) in
      let same : v ≡ more.unit = free place v more.unit _ sv more.stands long in
      let lengths : length (rules.spelling v) ≡ length (rules.spelling v ++ (z ++ more.next ∷ more.rest)) =
      ap (λ u. length (rules.spelling u)) same ∙ ap length long in
      absurd (omega (
        arith,
        lengths,
        length-append (rules.spelling v) (z ++ more.next ∷ more.rest),
        length-append z (more.next ∷ more.rest),
      ))

  -- at one place, two spellings that begin one list are those of one unit
  same_front : (rules : Rules Place U) → IsPrefixFree rules → (place : Place) (u v : U) (x y : List ℕ)
      → Stands rules place u → Stands rules place v → rules.spelling u ++ x ≡ rules.spelling v ++ y → u ≡ v
  same_front rules free place u v x y su sv e =
      elim (one_begins (rules.spelling u) (rules.spelling v) x y e) [
        | inl p ↦ free place u v p.0 su sv p.1
        | inr p ↦ sym (free place v u p.0 sv su p.1)
      ]

  -- bytes are cut into units and an unfinished spelling in one way
  pub one_cut : (rules : Rules Place U) → IsPrefixFree rules → (place : Place) (us vs : List U) (x y : List ℕ)
      → IsChain rules place us → IsChain rules place vs → IsUnfinished rules (place_after rules place us) x
      → IsUnfinished rules (place_after rules place vs) y → spelling_of rules us ++ x ≡ spelling_of rules vs ++ y
      → (us ≡ vs) × (x ≡ y)
  one_cut rules free place [] [] x y cu cv mx my e = (refl, e)
  one_cut rules free place [] (v ∷ vs) x y cu cv mx my e =
      absurd (no_inside rules free place v (spelling_of rules vs ++ y) x cv.0 mx
      (e ∙ append_assoc (rules.spelling v) (spelling_of rules vs) y))
  one_cut rules free place (u ∷ us) [] x y cu cv mx my e =
      absurd (no_inside rules free place u (spelling_of rules us ++ x) y cu.0 my
      (sym e ∙ append_assoc (rules.spelling u) (spelling_of rules us) x))
  one_cut rules free place (u ∷ us) (v ∷ vs) x y cu cv mx my e =
      let regrouped : rules.spelling u ++ (spelling_of rules us ++ x) ≡ rules.spelling v
      ++ (spelling_of rules vs ++ y) = sym (append_assoc (rules.spelling u) (spelling_of rules us) x) ∙ e
      ∙ append_assoc (rules.spelling v) (spelling_of rules vs) y in
      let same : u ≡ v = same_front rules free place u v _ _ cu.0 cv.0 regrouped in
      let rest : spelling_of rules us ++ x ≡ spelling_of rules vs ++ y =
      append_cancel_left (rules.spelling u) _ _
      (regrouped ∙ ap (λ w. rules.spelling w ++ (spelling_of rules vs ++ y)) (sym same)) in
      let P : U → Type 0 = λ w. IsChain rules (rules.after w) vs in
      let Q : U → Type 0 = λ w. IsUnfinished rules (place_after rules (rules.after w) vs) y in
      let found : (us ≡ vs) × (x ≡ y) = one_cut rules free (rules.after u) us vs x y cu.1 (subst P (sym same) cv.1) mx
      (subst Q (sym same) my) rest in
      let lists : us ≡ vs = found.0 in
      (cc, found.1)

  -- a unit more
  pub chain_more : (rules : Rules Place U) (place : Place) (us : List U) (u : U) → IsChain rules place us
      → Stands rules (place_after rules place us) u → IsChain rules place (us ++ u ∷ [])
  chain_more rules place [] u c s = (s, tt)
  chain_more rules place (v ∷ us) u c s = (c.0, chain_more rules (rules.after v) us u c.1 s)

  pub place_after_more : (rules : Rules Place U) (place : Place) (us : List U) (u : U)
      → place_after rules place (us ++ u ∷ []) ≡ rules.after u
  place_after_more rules place [] u = refl
  place_after_more rules place (v ∷ us) u = place_after_more rules (rules.after v) us u

  -- the units of a list before an index, and the one there
  pub chain_next : (rules : Rules Place U) (units : List U) (i : ℕ) (unit : U) → i < length units → unit
      ≡ get_or units i unit → IsChain rules rules.first (take i units)
      → Stands rules (place_after rules rules.first (take i units)) unit
      → IsChain rules rules.first (take (i + 1) units)
      × (rules.after unit ≡ place_after rules rules.first (take (i + 1) units))
  chain_next rules units i unit k e c s =
      let next : take i units ++ unit ∷ [] ≡ take (i + 1) units = ap (λ u. take i units ++ u ∷ []) e
      ∙ sym (take_more units i unit k) in (
        subst (IsChain rules rules.first) next (chain_more rules rules.first (take i units) unit c s),
        sym (place_after_more rules rules.first (take i units) unit) ∙ ap (place_after rules rules.first) next,
      )

  -- the unit at an index of a chain stands where those before it lead
  pub chain_at : (rules : Rules Place U) (place : Place) (units : List U) (i : ℕ) (unit : U) → i < length units → unit
      ≡ get_or units i unit → IsChain rules place units → Stands rules (place_after rules place (take i units)) unit
  chain_at rules place [] i unit k e c = absurd (omega arith)
  chain_at rules place (u ∷ units) zero unit k e c = rw e c.0
  chain_at rules place (u ∷ units) (suc i) unit k e c = chain_at rules (rules.after u) units i unit (omega arith) e c.1

  -- the law on what may begin, for every place
  abbrev pub Begins : Rules Place U → Type 0
  Begins rules = (place : Place) → IsUnfinished rules place []

  -- a list has one reading
  pub one_list : (rules : Rules Place U) → IsPrefixFree rules → Begins rules → (us vs : List U)
      → IsChain rules rules.first us → IsChain rules rules.first vs → spelling_of rules us ≡ spelling_of rules vs → us
      ≡ vs
  one_list rules free begins us vs cu cv e =
      (one_cut rules free rules.first us vs [] [] cu cv (begins _) (begins _)
      (append-nil (spelling_of rules us) ∙ e ∙ sym (append-nil (spelling_of rules vs)))).0

  -- the unfinished spelling goes on
  pub cut_more : (rules : Rules Place U) (bytes : List ℕ) (units : List U) (begun : List ℕ) (b : ℕ)
      → IsCut rules bytes units begun → IsUnfinished rules (place_after rules rules.first units) (begun ++ b ∷ [])
      → IsCut rules (bytes ++ b ∷ []) units (begun ++ b ∷ [])
  cut_more rules bytes units begun b cut more = record {
    chain = cut.chain;
    more = more;
    spelled = sym (append_assoc (spelling_of rules units) begun (b ∷ [])) ∙ ap (λ x. x ++ b ∷ []) cut.spelled;
  }

  -- a unit is whole
  pub cut_unit : (rules : Rules Place U) → Begins rules → (bytes : List ℕ) (units : List U) (begun : List ℕ) (b : ℕ)
      (unit : U) → IsCut rules bytes units begun
      → IsSpelled rules (place_after rules rules.first units) (begun ++ b ∷ []) unit
      → IsCut rules (bytes ++ b ∷ []) (units ++ unit ∷ []) []
  cut_unit rules begins bytes units begun b unit cut whole = record {
    chain = chain_more rules rules.first units unit cut.chain whole.stands;
    more = begins _;
    spelled = append-nil (spelling_of rules (units ++ unit ∷ [])) ∙ flat_map-append rules.spelling units (unit ∷ [])
        ∙ ap (λ x. spelling_of rules units ++ x) (append-nil (rules.spelling unit) ∙ whole.spelled)
        ∙ sym (append_assoc (spelling_of rules units) begun (b ∷ [])) ∙ ap (λ x. x ++ b ∷ []) cut.spelled;
  }

  -- no unit's spelling is empty
  not_empty : (rules : Rules Place U) → IsPrefixFree rules → Begins rules → (place : Place) (u : U)
      → Stands rules place u → rules.spelling u ≡ [] → ⊥
  not_empty rules free begins place u su e =
      let w = begins place in
      no_inside rules free place u [] [] su w (sym (append-nil (rules.spelling u) ∙ e))

  -- a whole list that goes on after a cut begins with the cut's units
  pub cut_begins : (rules : Rules Place U) → IsPrefixFree rules → Begins rules
      → (place : Place) (us vs : List U) (z : List ℕ) → IsChain rules place us → IsChain rules place vs
      → spelling_of rules vs ≡ spelling_of rules us ++ z → (ws : List U) × (vs ≡ us ++ ws)
      × IsChain rules (place_after rules place us) ws × (spelling_of rules ws ≡ z)
  cut_begins rules free begins place [] vs z cu cv e = (vs, refl, cv, e)
  cut_begins rules free begins place (u ∷ us) [] z cu cv e =
      absurd (not_empty rules free begins place u cu.0
      (front_empty (rules.spelling u) (spelling_of rules us ++ z)
      (e ∙ append_assoc (rules.spelling u) (spelling_of rules us) z)))
  cut_begins rules free begins place (u ∷ us) (v ∷ vs) z cu cv e =
      let regrouped : rules.spelling v ++ spelling_of rules vs ≡ rules.spelling u ++ (spelling_of rules us ++ z) =
      e ∙ append_assoc (rules.spelling u) (spelling_of rules us) z in
      let same : v ≡ u = same_front rules free place v u _ _ cv.0 cu.0 regrouped in
      let rest : spelling_of rules vs ≡ spelling_of rules us ++ z =
      append_cancel_left (rules.spelling u) _ _
      (ap (λ w. rules.spelling w ++ spelling_of rules vs) (sym same) ∙ regrouped) in
      let P : U → Type 0 = λ w. IsChain rules (rules.after w) vs in
      let found : (ws : List U) × (vs ≡ us ++ ws) × IsChain rules (place_after rules (rules.after u) us) ws
      × (spelling_of rules ws ≡ z) = cut_begins rules free begins (rules.after u) us vs z cu.1 (subst P same cv.1)
      rest in
      let lists : vs ≡ us ++ found.0 = found.1 in
      (found.0, cc, found.2, found.3)

  -- what no spelling goes on from, no list goes on from
  bad_after : (rules : Rules Place U) → IsPrefixFree rules
      → (place : Place) (w : U) (s x : List ℕ) (b : ℕ) (more r : List ℕ) → Stands rules place w
      → IsUnfinished rules place x → (IsPrefix rules place (x ++ b ∷ []) → ⊥) → rules.spelling w ≡ x ++ r → b ∷ more ≡ r
      ++ s → ⊥
  bad_after rules free place w s x b more [] sw mx bad e f =
      no_inside rules free place w [] x sw mx (sym (append-nil (rules.spelling w) ∙ e ∙ append-nil x))
  bad_after rules free place w s x b more (c ∷ r) sw mx bad e f =
      let same : b ≡ c = cc in
      bad (record {
        unit = w;
        rest = r;
        stands = sw;
        spelled = e ∙ ap (λ n. x ++ n ∷ r) (sym same)
            ∙ sym (append_assoc x (b ∷ []) r);
      })

  bad_front : (rules : Rules Place U) → IsPrefixFree rules
      → (place : Place) (ws : List U) (x : List ℕ) (b : ℕ) (more : List ℕ) → IsChain rules place ws
      → IsUnfinished rules place x → (IsPrefix rules place (x ++ b ∷ []) → ⊥) → spelling_of rules ws ≡ x ++ b ∷ more → ⊥
  bad_front rules free place [] x b more cw mx bad e = no_end x (b) more e
  bad_front rules free place (w ∷ ws) x b more cw mx bad e =
      elim (one_begins x (rules.spelling w) (b ∷ more) (spelling_of rules ws) (sym e)) [
        | inr p ↦ no_inside rules free place w p.0 x cw.0 mx p.1
        | inl p ↦ bad_after rules free place w (spelling_of rules ws) x b more p.0 cw.0 mx bad p.1 p.2
      ]

  pub cut_bad : (rules : Rules Place U) → IsPrefixFree rules → Begins rules
      → (place : Place) (us vs : List U) (x : List ℕ) (b : ℕ) (more : List ℕ) → IsChain rules place us
      → IsChain rules place vs → IsUnfinished rules (place_after rules place us) x
      → (IsPrefix rules (place_after rules place us) (x ++ b ∷ []) → ⊥) → spelling_of rules vs ≡ spelling_of rules us
      ++ (x ++ b ∷ more) → ⊥
  cut_bad rules free begins place us vs x b more cu cv mx bad e =
      let found : (ws : List U) × (vs ≡ us ++ ws) × IsChain rules (place_after rules place us) ws
      × (spelling_of rules ws ≡ x ++ b ∷ more) = cut_begins rules free begins place us vs (x ++ b ∷ more) cu cv e in
      bad_front rules free (place_after rules place us) found.0 x b more found.2 mx bad found.3

  -- from every place some list leads to one that may end
  abbrev pub CanEnd : Rules Place U → Type 0
  CanEnd rules = (place : Place) → (units : List U) × IsChain rules place units
      × (rules.may_end (place_after rules place units) ≡ true)

  pub chain_append : (rules : Rules Place U) (place : Place) (us vs : List U) → IsChain rules place us
      → IsChain rules (place_after rules place us) vs → IsChain rules place (us ++ vs)
  chain_append rules place [] vs c d = d
  chain_append rules place (u ∷ us) vs c d = (c.0, chain_append rules (rules.after u) us vs c.1 d)

  pub place_after-append : (rules : Rules Place U) (place : Place) (us vs : List U) → place_after rules place (us ++ vs)
      ≡ place_after rules (place_after rules place us) vs
  place_after-append rules place [] vs = refl
  place_after-append rules place (u ∷ us) vs = place_after-append rules (rules.after u) us vs

  -- what is cut can be made whole
  pub cut_ends : (rules : Rules Place U) → CanEnd rules → (bytes : List ℕ) (us : List U) (x : List ℕ)
      → IsCut rules bytes us x → (vs : List U) × (more : List ℕ) × IsWhole rules vs
      × (spelling_of rules vs ≡ bytes ++ more)
  cut_ends rules can bytes us x cut =
      let u = cut.more.unit in
      let us' = us ++ u ∷ [] in
      let tail = can (rules.after u) in
      let chain : IsChain rules rules.first us' = chain_more rules rules.first us u cut.chain cut.more.stands in
      let P : Place → Type 0 = λ p. IsChain rules p tail.0 in
      let Q : Place → Type 0 = λ p. rules.may_end (place_after rules p tail.0) ≡ true in
      let at : place_after rules rules.first us' ≡ rules.after u = place_after_more rules rules.first us u in (
        us' ++ tail.0,
        cut.more.next ∷ cut.more.rest ++ spelling_of rules tail.0,
        record {
          chain = chain_append rules rules.first us' tail.0 chain (subst P (sym at) tail.1);
          ends =
              rw place_after-append (subst Q (sym at) tail.2);
        },
        flat_map-append rules.spelling us' tail.0
            ∙ ap (λ z. z ++ spelling_of rules tail.0)
            (flat_map-append rules.spelling us (u ∷ [])
            ∙ ap (λ z. spelling_of rules us ++ z) (append-nil (rules.spelling u) ∙ cut.more.spelled)
            ∙ sym (append_assoc (spelling_of rules us) x (cut.more.next ∷ cut.more.rest))
            ∙ ap (λ z. z ++ cut.more.next ∷ cut.more.rest) cut.spelled)
            ∙ append_assoc bytes (cut.more.next ∷ cut.more.rest) (spelling_of rules tail.0),
      )
