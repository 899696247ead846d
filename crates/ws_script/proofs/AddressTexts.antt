-- Where the texts of addresses are cut.

use Rattle.std.specs.Prelude.{Option, None, Some, MatchBool, ◌==◌}
use Rattle.std.proofs.Common.{◌≡◌, ◌≢◌, ℕ, suc, List, [], ◌∷◌, ◌++◌, length, refl, sym, ◌∙◌, subst, arith, inl, inr}
use Rattle.std.proofs.Common.{Bool, true, false, ap}
use Rattle.std.proofs.lemmas.Bool.{false≢true}
use Rattle.ws_script.specs.asked.Addresses.{IsV6, IsPlainV6, IsZone, HasNo, IsPort, IsPortOr, IsBracketed}
use Rattle.ws_script.specs.asked.Addresses.{IsHostText, IsHostPort, IsListening, led_by}
use Rattle.ws_script.specs.asked.Addresses.IsHostText.{bare, bracketed, named}

no_tail : (c x : ℕ) (xs : List ℕ) → HasNo c (x ∷ xs) → HasNo c xs
no_tail c x xs h i low e = h (suc i) (omega (arith, low)) e

-- a text without a byte isn't cut at that
pub uncut : (c : ℕ) (xs ys : List ℕ) → HasNo c (xs ++ c ∷ ys) → ⊥
uncut c [] ys h = h 0 (omega arith) refl
uncut c (x ∷ xs) ys h = uncut c xs ys (no_tail c x (xs ++ c ∷ ys) h)

-- there is one first place of a byte, or none
pub one_cut : (c : ℕ) (xs us : List ℕ) (p q : Option (List ℕ)) → HasNo c xs → HasNo c us
    → xs ++ led_by c p ≡ us ++ led_by c q → (xs ≡ us) × (p ≡ q)
one_cut c [] [] None None h k e = (refl, refl)
one_cut c [] [] None (Some q) h k e = absurd (cc e)
one_cut c [] [] (Some p) None h k e = absurd (cc e)
one_cut c [] [] (Some p) (Some q) h k e = (refl, cc)
one_cut c [] (u ∷ us) None q h k e = absurd (cc e)
one_cut c [] (u ∷ us) (Some p) q h k e = absurd (k 0 (omega arith) (cc))
one_cut c (x ∷ xs) [] p None h k e = absurd (cc e)
one_cut c (x ∷ xs) [] p (Some q) h k e = absurd (h 0 (omega arith) (cc))
one_cut c (x ∷ xs) (u ∷ us) p q h k e =
    let more = one_cut c xs us p q (no_tail c x xs h) (no_tail c u us k) (cc) in (cc (more.0), more.1)

-- in brackets
module _ (inner host behind : List ℕ) (b : IsBracketed (91 ∷ inner) host behind) where
  pub unbracketed : HasNo 93 inner → ⊥
  unbracketed none =
      let is : inner ≡ host ++ 93 ∷ behind = cc (b.spelled) in uncut 93 host behind (subst (HasNo 93) is none)

  pub same_cut : (here rest : List ℕ) → inner ≡ here ++ 93 ∷ rest → HasNo 93 here → (here ≡ host) × (rest ≡ behind)
  same_cut here rest cut inside =
      let s = one_cut 93 here host (Some rest) (Some behind) inside b.inside (cc (cut, b.spelled)) in (s.0, cc (s.1))

-- what stands after a host is nothing, or begins with a colon
pub no_behind : (rest : List ℕ) (port : Option (List ℕ)) → (length rest == 0) ≡ false
    → ((more : List ℕ) → rest ≢ 58 ∷ more) → rest ≡ led_by 58 port → ⊥
no_behind rest None some other e = false≢true (sym some ∙ ap (λ z. length z == 0) e)
no_behind rest (Some port) some other e = other port e

-- a text names one port, or none
pub one_port : (text host hosts : List ℕ) (p q : Option (List ℕ)) → IsHostText text host p → IsHostText text hosts q
    → p ≡ q
one_port text host hosts p q (bare v h e) (bare w k f) = e ∙ sym f
one_port text host hosts p q (bare v h e) (bracketed other k) = absurd (other v)
one_port text host hosts p q (bare v h e) (named other k) = absurd (other v)
one_port text host hosts p q (bracketed other h) (bare w k f) = absurd (other w)
one_port text host hosts p q (bracketed other h) (bracketed another k) =
    let s = one_cut 93 host hosts (Some (led_by 58 p)) (Some (led_by 58 q)) h.inside k.inside
    (cc (h.spelled, k.spelled)) in
    let none : HasNo 58 [] = λ i low. absurd (omega (arith, low)) in (one_cut 58 [] [] p q none none (cc (s.1))).1
one_port text host hosts p q (bracketed other h) (named another k) = absurd (k.unbracketed _ h.spelled)
one_port text host hosts p q (named other h) (bare w k f) = absurd (other w)
one_port text host hosts p q (named other h) (bracketed another k) = absurd (h.unbracketed _ k.spelled)
one_port text host hosts p q (named other h) (named another k) =
    (one_cut 58 host hosts p q h.whole k.whole (sym h.spelled ∙ k.spelled)).1

module _ (text here digits : List ℕ) (t : IsHostText text here (Some digits))
    (none : (port : ℕ) → IsPort digits port → ⊥) where
  pub bad_port : (host : List ℕ) (port : ℕ) → IsHostPort text host port → ⊥
  bad_port host port n = none port (subst (λ z. IsPortOr z port) (one_port text host here n.0 (Some digits) n.1 t) n.2)

  pub bad_listening : (host : List ℕ) (port : ℕ) → IsListening text host port → ⊥
  bad_listening host port n = bad_port host port (Some n.0, n.1, n.2)

pub no_digits : (text here : List ℕ) → IsHostText text here None → (host : List ℕ) (port : ℕ)
    → IsListening text host port → ⊥
no_digits text here t host port n = let e = one_port text host here (Some n.0) None n.1 t in cc e

-- what is no address, and has no percent sign or none after an address, has no zone
module _ (text : List ℕ) (other : IsPlainV6 text → ⊥) where
  pub no_percent : HasNo 37 text → IsV6 text → ⊥
  no_percent none (inl plain) = other plain
  no_percent none (inr zoned) = uncut 37 zoned.address zoned.zone (subst (HasNo 37) zoned.spelled none)

  module _ (address zone : List ℕ) (cut : text ≡ address ++ 37 ∷ zone) (front : HasNo 37 address) where
    pub v6_parts : IsV6 text → IsPlainV6 address × IsZone zone
    v6_parts (inl plain) = absurd (other plain)
    v6_parts (inr z) =
        let s = one_cut 37 z.address address (Some z.zone) (Some zone) z.front front (sym z.spelled ∙ cut) in
        let same : z.zone ≡ zone = cc (s.1) in (subst IsPlainV6 s.0 z.plain, subst IsZone same z.zoned)

    pub zone_tells : (is : Bool) → MatchBool is (IsZone zone) (IsZone zone → ⊥) → IsPlainV6 address
        → MatchBool is (IsV6 text) (IsV6 text → ⊥)
    zone_tells true is plain =
        inr (record { address = address; zone = zone; spelled = cut; plain = plain; front = front; zoned = is })
    zone_tells false isnt plain = λ v. isnt (v6_parts v).1
