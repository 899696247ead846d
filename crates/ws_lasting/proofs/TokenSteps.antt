use Rattle.ws_lasting.proofs.Common as C
use C.{◌≡◌, ℕ, List, [], ◌∷◌, ◌++◌, refl, sym, ap, ◌∙◌, inl, inr, ◌⊎◌, subst, append-nil, append_assoc, flat_map-append}
use C.{IsChain, IsCut, IsSpelled, IsUnfinished, Stands, spelling_of, no_end, one_cut, same_last, token_rules}
use C.{token_begins, token_prefix_free, Token}

-- What a byte more makes of tokens, by how the bytes with it are cut.

pub at_end : {X : Type 0} (xs : List X) → (xs ≡ []) ⊎ ((ys : List X) × (y : X) × (xs ≡ ys ++ y ∷ []))
at_end [] = inl refl
at_end (x ∷ xs) = elim (at_end xs) [
  | inl none ↦ inr ([], x, ap (λ z. x ∷ z) none)
  | inr some ↦ inr (x ∷ some.0, some.1, ap (λ z. x ∷ z) some.2)
]

chain_last : (ts : List Token) (t : Token) → IsChain token_rules tt (ts ++ t ∷ [])
    → IsChain token_rules tt ts × Stands token_rules tt t
chain_last [] t c = (tt, c.0)
chain_last (u ∷ ts) t c = let rest = chain_last ts t c.1 in ((c.0, rest.0), rest.1)

-- no token has an empty spelling
never : (t : Token) → Stands token_rules tt t → token_rules.spelling t ≡ [] → ⊥
never t stands e =
    let same = (one_cut token_rules token_prefix_free tt (t ∷ []) [] [] [] (stands, tt) tt (token_begins tt)
    (token_begins tt) (append-nil (token_rules.spelling t ++ []) ∙ append-nil (token_rules.spelling t) ∙ e)).0 in cc

-- the token goes on, or ends
abbrev pub IsStep : List ℕ → ℕ → List ℕ → Type 0
IsStep begun b left = ((left ≡ begun ++ b ∷ []) × IsUnfinished token_rules tt (begun ++ b ∷ []))
    ⊎ ((t : Token) × (left ≡ []) × IsSpelled token_rules tt (begun ++ b ∷ []) t)

module _ {bytes : List ℕ} {tokens others : List Token} {begun left : List ℕ} (b : ℕ)
    (h : IsCut token_rules bytes tokens begun) (k : IsCut token_rules (bytes ++ b ∷ []) others left) where
  -- these are the tokens before it
  so_cut : (ts : List Token) (y : List ℕ) → IsChain token_rules tt ts → IsUnfinished token_rules tt y
      → spelling_of token_rules ts ++ y ≡ bytes → begun ≡ y
  so_cut ts y chain more spelled = (one_cut token_rules token_prefix_free tt _ _ _ _ h.chain chain h.more more
      (h.spelled ∙ sym spelled)).1

  goes_on : (x : List ℕ) (c : ℕ) → left ≡ x ++ c ∷ [] → IsStep begun b left
  goes_on x c e =
      let whole : (spelling_of token_rules others ++ x) ++ c ∷ [] ≡ bytes ++ b ∷ [] =
      append_assoc (spelling_of token_rules others) x (c ∷ [])
      ∙ ap (λ z. spelling_of token_rules others ++ z) (sym e) ∙ k.spelled in
      let same = same_last (spelling_of token_rules others ++ x) bytes c b whole in
      let is = so_cut others x k.chain (record {
        unit = k.more.unit;
        next = c;
        rest = k.more.next ∷ k.more.rest;
        stands = k.more.stands;
        spelled = k.more.spelled ∙ ap (λ z. z ++ k.more.next ∷ k.more.rest) e
            ∙ append_assoc x (c ∷ []) (k.more.next ∷ k.more.rest);
      }) same.0 in
      let left_is : left ≡ begun ++ b ∷ [] = e ∙ ap (λ (z : ℕ). x ++ z ∷ []) same.1 ∙ ap (λ z. z ++ b ∷ []) (sym is) in
      inl (left_is, subst (λ z. IsUnfinished token_rules tt z) left_is k.more)

  ends : (ts : List Token) (t : Token) → others ≡ ts ++ t ∷ [] → left ≡ [] → IsStep begun b left
  ends ts t e none =
      let chain = chain_last ts t (subst (λ z. IsChain token_rules tt z) e k.chain) in
      let spelled : spelling_of token_rules ts ++ token_rules.spelling t ≡ bytes ++ b ∷ [] =
      ap (λ z. spelling_of token_rules ts ++ z) (sym (append-nil (token_rules.spelling t)))
      ∙ sym (flat_map-append token_rules.spelling ts (t ∷ []))
      ∙ ap (λ z. spelling_of token_rules z) (sym e) ∙ sym (append-nil (spelling_of token_rules others))
      ∙ ap (λ z. spelling_of token_rules others ++ z) (sym none) ∙ k.spelled in
      elim (at_end (token_rules.spelling t)) [
        | inl empty ↦ absurd (never t chain.1 empty)
        | inr some ↦ (let whole : (spelling_of token_rules ts ++ some.0) ++ some.1 ∷ [] ≡ bytes ++ b ∷ [] =
            append_assoc (spelling_of token_rules ts) some.0 (some.1 ∷ [])
            ∙ ap (λ z. spelling_of token_rules ts ++ z) (sym some.2) ∙ spelled in
            let same = same_last (spelling_of token_rules ts ++ some.0) bytes some.1 b whole in
            let is = so_cut ts some.0 chain.0
            (record { unit = t; next = some.1; rest = []; stands = chain.1; spelled = some.2 }) same.0 in
            inr (
              t,
              none,
              record {
                stands = chain.1;
                spelled = some.2 ∙ ap (λ (z : ℕ). some.0 ++ z ∷ []) same.1 ∙ ap (λ z. z ++ b ∷ []) (sym is);
              },
            ))
      ]

  pub token_step : IsStep begun b left
  token_step = elim (at_end left) [
    | inr some ↦ goes_on some.0 some.1 some.2
    | inl none ↦ elim (at_end others) [
      | inr some ↦ ends some.0 some.1 some.2 none
      | inl empty ↦ absurd (no_end bytes b [] (rw (empty, none) at k.spelled))
    ]
  ]
