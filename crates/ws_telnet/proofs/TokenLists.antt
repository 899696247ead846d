-- Lists of tokens, and their one cut into records and a rest.
use Rattle.std.specs.List.{AllByRecursion}
use Rattle.std.proofs.Common.{◌≡◌, ℕ, List, [], ◌∷◌, ◌++◌, refl, sym, ◌∙◌, map, append_assoc, arith}
use Rattle.ws_code.specs.Code.{IsChain, AreBytes}
use Rattle.ws_code.proofs.CodeLaws.{no_end}
use Rattle.ws_telnet.specs.Streams.{HasNoEor, joined}
use Rattle.ws_telnet.specs.Token.{token_rules}
use Rattle.ws_telnet.specs.declared.token.Token.{Token}
use Rattle.ws_telnet.specs.declared.token.Token.TheVariants.{Data, Eor}

-- the front of a chain is one
pub chain_front : (us vs : List Token) → IsChain token_rules tt (us ++ vs) → IsChain token_rules tt us
chain_front [] vs c = tt
chain_front (u ∷ us) vs c = (c.0, chain_front us vs c.1)

-- nothing is asked of parts
pub all_right : (parts : List (List Token)) → AllByRecursion (λ part. Unit {0}) parts
all_right [] = tt
all_right (part ∷ parts) = (tt, all_right parts)

-- record bytes as tokens
unfoldable pub data_tokens : List ℕ → List Token
data_tokens bytes = map Data bytes

pub data_chain : (bytes : List ℕ) → AreBytes bytes → IsChain token_rules tt (data_tokens bytes)
unfolding data_tokens
data_chain [] h = tt
data_chain (b ∷ bytes) h = (record { is_unit = h.0; may_follow = refl }, data_chain bytes h.1)

-- what stands before the first Eor is determined
pub one_part : (p q x y : List Token) → HasNoEor p → HasNoEor q → p ++ Eor ∷ x ≡ q ++ Eor ∷ y → (p ≡ q) × (x ≡ y)
one_part [] [] x y hp hq e = (refl, cc)
one_part [] (t ∷ q) x y hp hq e = absurd (hq.0 (let f : Eor ≡ t = cc in sym f))
one_part (s ∷ p) [] x y hp hq e = absurd (hp.0 cc)
one_part (s ∷ p) (t ∷ q) x y hp hq e =
    let found = one_part p q x y hp.1 hq.1 cc in grind arith

pub no_part : (p q y : List Token) → HasNoEor p → p ≡ q ++ Eor ∷ y → ⊥
no_part [] q y hp e = no_end q Eor y e
no_part (s ∷ p) [] y hp e = hp.0 cc
no_part (s ∷ p) (t ∷ q) y hp e = no_part p q y hp.1 cc

-- tokens have one cut into parts and a rest
pub one_join : (ps qs : List (List Token)) (x y : List Token) → AllByRecursion HasNoEor ps
    → AllByRecursion HasNoEor qs → HasNoEor x → HasNoEor y → joined ps x ≡ joined qs y → (ps ≡ qs) × (x ≡ y)
one_join [] [] x y hp hq hx hy e = (refl, e)
one_join [] (q ∷ qs) x y hp hq hx hy e = absurd (no_part x q (joined qs y) hx (e ∙ simp append_assoc))
one_join (p ∷ ps) [] x y hp hq hx hy e = absurd (no_part y p (joined ps x) hy (sym e ∙ simp append_assoc))
one_join (p ∷ ps) (q ∷ qs) x y hp hq hx hy e =
    let f : p ++ Eor ∷ joined ps x ≡ q ++ Eor ∷ joined qs y = simp append_assoc at e in
    let first = one_part p q _ _ hp.0 hq.0 f in
    let others = one_join ps qs x y hp.1 hq.1 hx hy first.1 in grind arith
