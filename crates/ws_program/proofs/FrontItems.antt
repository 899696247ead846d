use Rattle.std.specs.List.{flat_map, AllByRecursion}
use Rattle.std.specs.Prelude.{◌⊎◌}
use Rattle.std.proofs.Common.{◌≡◌, ℕ, List, [], ◌∷◌, ◌++◌, inl, inr, length, map, refl, sym, ap, ◌∙◌, arith}
use Rattle.std.proofs.Common.{append_assoc, length-append}
use Rattle.std.proofs.lemmas.Grind.{flat_map-append}
use Rattle.std.proofs.lemmas.List.{append-nil, map-append}
use Rattle.ws_code.specs.Code.{Rules, IsPrefixFree, IsCut, spelling_of}
use Rattle.ws_code.proofs.CodeLaws.{Begins, one_begins, cut_begins, chain_more}
use Rattle.ws_telnet.specs.Streams.{HasNoEor, joined, command_of}
use Rattle.ws_telnet.specs.Token.{token_rules}
use Rattle.ws_telnet.specs.TokenLaws.{token_prefix_free, token_begins}
use Rattle.ws_telnet.specs.declared.token.Telnet.{Telnet}
use Rattle.ws_telnet.specs.declared.token.Token.{Token}
use Rattle.ws_telnet.specs.declared.token.Token.TheVariants.{Eor}
use Rattle.ws_telnet.proofs.TokenLists.{one_part, no_part}
use Rattle.ws_record.specs.Grammar.{Holds, IsStretch, commands}
use Rattle.ws_record.specs.declared.record.Item.{Item}
use Rattle.ws_record.specs.declared.record.Item.TheVariants.{Record as RecordItem, Telnet as TelnetItem}
use Rattle.ws_record.specs.declared.record.Record.{Record}
use Rattle.ws_record.proofs.Reading.{one_stretches, parts_no_eor}

-- The items that a front of some bytes holds begin those that all of them hold.

-- a list that ends with an element behind another list goes on from that one, or is it
last_split : {X : Type 0} (us vs ws : List X) (v : X) → vs ++ v ∷ [] ≡ us ++ ws → (us ≡ vs ++ v ∷ [])
    ⊎ ((more : List X) × (vs ≡ us ++ more))
last_split [] vs ws v e = inr (vs, refl)
last_split (u ∷ []) [] ws v e = let same : u ≡ v = cc in inl (ap (λ z. z ∷ []) same)
last_split (u ∷ t ∷ us) [] ws v e = cc
last_split (u ∷ us) (w ∷ vs) ws v e =
    let same : u ≡ w = cc in
    let rest : vs ++ v ∷ [] ≡ us ++ ws = cc in
    elim (last_split us vs ws v rest) [
      | inl p ↦ inl (cc)
      | inr p ↦ inr (p.0, (let q = p.1 in cc))
    ]

-- the tokens of a front begin those of the whole
front_tokens : (front more : List ℕ) (ts us : List Token) (x y : List ℕ) → IsCut token_rules front ts x
    → IsCut token_rules (front ++ more) us y → (ws : List Token) × (us ≡ ts ++ ws)
front_tokens front more ts us x y a b =
    let unit = b.more.unit in
    let rest : List ℕ = b.more.next ∷ b.more.rest in
    let longer : spelling_of token_rules (us ++ unit ∷ []) ≡ spelling_of token_rules ts ++ (x ++ (more ++ rest)) =
    flat_map-append token_rules.spelling us (unit ∷ []) ∙ ap (λ z. spelling_of token_rules us ++ z)
    (append-nil (token_rules.spelling unit) ∙ b.more.spelled)
    ∙ sym (append_assoc (spelling_of token_rules us) y rest) ∙ ap (λ z. z ++ rest) (b.spelled ∙ ap (λ z. z ++ more)
    (sym a.spelled))
    ∙ ap (λ z. z ++ rest) (append_assoc (spelling_of token_rules ts) x more)
    ∙ append_assoc (spelling_of token_rules ts) (x ++ more) rest ∙ ap (λ z. spelling_of token_rules ts ++ z)
    (append_assoc x more rest) in
    let found = cut_begins token_rules token_prefix_free token_begins tt ts (us ++ unit ∷ [])
    (x ++ (more ++ rest)) a.chain (chain_more token_rules tt us unit b.chain b.more.stands) longer in
    elim (last_split ts us found.0 unit found.1) [
      | inr p ↦ p
      | inl same ↦
          (let long : length (spelling_of token_rules ts) ≡ length (spelling_of token_rules ts
          ++ (x ++ (more ++ rest))) = ap (λ z. length (spelling_of token_rules z)) same ∙ ap length longer in
          absurd (omega (
            arith,
            long,
            length-append (spelling_of token_rules ts) (x ++ (more ++ rest)),
            length-append x
                (more ++ rest),
            length-append more rest,
          )))
    ]

-- the parts of a front's tokens: the rest goes on, or becomes a part
data PartsGoOn (ps qs : List (List Token)) (x y : List Token) : Type 0 where
  Same : (more : List Token) → ps ≡ qs → y ≡ x ++ more → PartsGoOn ps qs x y
  Longer : (more : List Token) (others : List (List Token)) → qs ≡ ps ++ (x ++ more) ∷ others → PartsGoOn ps qs x y

parts_go_on : (ps qs : List (List Token)) (x y ws : List Token) → AllByRecursion HasNoEor ps
    → AllByRecursion HasNoEor qs → HasNoEor x → HasNoEor y → joined qs y ≡ joined ps (x ++ ws) → PartsGoOn ps qs x y
parts_go_on [] [] x y ws hp hq hx hy e = Same ws refl e
parts_go_on [] (q ∷ qs) x y ws hp hq hx hy e =
    let f : q ++ Eor ∷ joined qs y ≡ x ++ ws = simp append_assoc at e in
    elim (one_begins q x (Eor ∷ joined qs y) ws f) [
      | inr p ↦ Longer p.0 qs (ap (λ z. z ∷ qs) p.1)
      | inl p ↦ first p.0 p.1 p.2
    ]
  where
    first : (r : List Token) → x ≡ q ++ r → Eor ∷ joined qs y ≡ r ++ ws → PartsGoOn [] (q ∷ qs) x y
    first [] same is = Longer [] qs (ap (λ z. z ∷ qs) (sym (append-nil q) ∙ sym same ∙ sym (append-nil x)))
    first (t ∷ r) same is = let end : Eor ≡ t = cc in absurd (no_part x q r hx (same ∙ ap (λ z. q ++ z ∷ r) (sym end)))
parts_go_on (p ∷ ps) [] x y ws hp hq hx hy e = absurd (no_part y p (joined ps (x ++ ws)) hy (e ∙ simp append_assoc))
parts_go_on (p ∷ ps) (q ∷ qs) x y ws hp hq hx hy e =
    let f : q ++ Eor ∷ joined qs y ≡ p ++ Eor ∷ joined ps (x ++ ws) = simp append_assoc at e in
    let first : (q ≡ p) × (joined qs y ≡ joined ps (x ++ ws)) = one_part q p _ _ hq.0 hp.0 f in
    let heads : q ≡ p = first.0 in
    elim (parts_go_on ps qs x y ws hp.1 hq.1 hx hy first.1) [
      | Same more same on ↦ Same more (cc) on
      | Longer more others on ↦ Longer more others (cc)
    ]

-- the items of a record and of the commands inside it
abbrev of_stretch : {U : Type 0} → List Token × Record U → List (Item U)
of_stretch s = commands s.0 ++ RecordItem s.1 ∷ []

commands_more : {U : Type 0} (x y : List Token) → commands {U = U} (x ++ y) ≡ commands x ++ commands y
commands_more {U} x y =
    let item : Telnet → Item U = λ t. TelnetItem t in
    ap (λ z. map item z) (flat_map-append command_of x y) ∙ map-append item (flat_map command_of x)
    (flat_map command_of y)

-- a part of the front's rest and more is the next stretch
next_items : {U : Type 0} (rest more : List Token) (others : List (List Token)) (us : List (List Token × Record U))
    (last : List (Item U)) → map (λ u. u.0) us ≡ (rest ++ more) ∷ others → (items : List (Item U))
    × (flat_map of_stretch us ++ last ≡ commands rest ++ items)
next_items rest more others [] last e = cc
next_items {U} rest more others (u ∷ us) last e =
    let first : u.0 ≡ rest ++ more = cc in
    let tail : List (Item U) = flat_map of_stretch us in (
      commands more ++ (RecordItem u.1 ∷ (tail ++ last)),
      ap (λ z. ((commands z ++ RecordItem u.1 ∷ []) ++ tail) ++ last) first
          ∙ ap (λ z. ((z ++ RecordItem u.1 ∷ []) ++ tail) ++ last) (commands_more rest more) ∙ simp append_assoc,
    )

module _ {Place U : Type 0} (rules : Rules Place U) where
  -- the bytes hold the items, and a part of one more
  abbrev HoldsThem : List ℕ → List (Item U) → Type 0
  HoldsThem bytes items = (so_far : List ℕ) × (begun : List ℕ) × Holds rules bytes items so_far begun

  -- the stretches of the first parts are the same
  stretches_go_on : IsPrefixFree rules → Begins rules → (ss ts : List (List Token × Record U))
      (others : List (List Token)) → AllByRecursion (IsStretch rules) ss → AllByRecursion (IsStretch rules) ts
      → map (λ t. t.0) ts ≡ map (λ s. s.0) ss ++ others → (us : List (List Token × Record U)) × (ts ≡ ss ++ us)
      × (map (λ u. u.0) us ≡ others)
  stretches_go_on free begins [] ts others hs ht e = (ts, refl, e)
  stretches_go_on free begins (s ∷ ss) [] others hs ht e = cc
  stretches_go_on free begins (s ∷ ss) (t ∷ ts) others hs ht e =
      let tokens : s.0 ≡ t.0 = cc in
      let one : s ∷ [] ≡ t ∷ [] = one_stretches rules free begins (s ∷ []) (t ∷ []) (hs.0, tt) (ht.0, tt)
      (ap (λ z. z ∷ []) tokens) in
      let head : s ≡ t = cc in
      let rest : map (λ t. t.0) ts ≡ map (λ s. s.0) ss ++ others = cc in
      let found = stretches_go_on free begins ss ts others hs.1 ht.1 rest in
      let tails : ts ≡ ss ++ found.0 = found.1 in
      (found.0, cc, found.2)

  pub front_items : IsPrefixFree rules → Begins rules → (front more : List ℕ) (items all : List (Item U))
      → HoldsThem front items → HoldsThem (front ++ more) all → (later : List (Item U)) × (all ≡ items ++ later)
  front_items free begins front more items all h k =
      let a = h.2 in
      let b = k.2 in
      let tokens = front_tokens front more _ _ h.1 k.1 a.cut b.cut in
      elim (parts_go_on (map (λ s. s.0) a.stretches) (map (λ s. s.0) b.stretches) a.rest b.rest tokens.0
      (parts_no_eor rules a.stretches a.each) (parts_no_eor rules b.stretches b.each) a.no_eor b.no_eor
      (tokens.1 ∙ append_assoc (flat_map (λ (part : List Token). part ++ Eor ∷ []) (map (λ s. s.0) a.stretches))
      a.rest tokens.0)) [
        | Same further same on ↦
            (let stretches : a.stretches ≡ b.stretches = one_stretches rules free begins a.stretches b.stretches a.each
            b.each same in
            let done : List (Item U) = flat_map of_stretch a.stretches in (
              commands further,
              b.are_items ∙ ap (λ z. flat_map of_stretch z ++ commands b.rest) (sym stretches)
                  ∙ ap (λ z. done ++ commands z) on ∙ ap (λ z. done ++ z) (commands_more a.rest further)
                  ∙ sym (append_assoc done (commands a.rest) (commands further)) ∙ ap (λ z. z ++ commands further)
                  (sym a.are_items),
            ))
        | Longer further others on ↦
            (let found = stretches_go_on free begins a.stretches b.stretches
            ((a.rest ++ further) ∷ others) a.each b.each on in
            let done : List (Item U) = flat_map of_stretch a.stretches in
            let next = next_items a.rest further others found.0 (commands b.rest) found.2 in (
              next.0,
              b.are_items ∙ ap (λ z. flat_map of_stretch z ++ commands b.rest) found.1 ∙ ap (λ z. z ++ commands b.rest)
                  (flat_map-append of_stretch a.stretches found.0)
                  ∙ append_assoc done (flat_map of_stretch found.0) (commands b.rest) ∙ ap (λ z. done ++ z) next.1
                  ∙ sym (append_assoc done (commands a.rest) next.0) ∙ ap (λ z. z ++ next.0) (sym a.are_items),
            ))
      ]
