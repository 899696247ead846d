-- Fronts of doubled bytes after which an end stands.
use Rattle.std.specs.List.{flat_map}
use Rattle.std.proofs.Common.{◌≡◌, ℕ, List, [], ◌∷◌, ◌++◌, refl, sym, ap, ◌∙◌, append_assoc, inl, inr}
use Rattle.std.proofs.lemmas.List.{append-nil}
use Rattle.ws_code.specs.Code.{IsUnfinished, AreBytes}
use Rattle.ws_code.proofs.CodeLaws.{one_begins, no_end}
use Rattle.ws_telnet.specs.Token.{token_rules, doubled}
use Rattle.ws_telnet.specs.TokenLaws.{token_begins}
use Rattle.ws_telnet.specs.declared.token.Token.TheVariants.{Data, Eor}
use Rattle.ws_telnet.proofs.OneToken.{begins_token}

-- bytes in pairs, and a token that isn't whole
pub record DoubledFront (content x : List ℕ) : Type 0 where
  pub front : List ℕ
  pub rest : List ℕ
  pub begun : List ℕ
  pub split : front ++ rest ≡ content
  pub is : x ≡ flat_map doubled front ++ begun
  pub more : IsUnfinished token_rules tt begun

pub doubled_front : (content x : List ℕ) (b : ℕ) (y : List ℕ) → AreBytes content
    → flat_map doubled content ++ 0xff ∷ 0xef ∷ [] ≡ x ++ b ∷ y → DoubledFront content x
doubled_front [] [] b y are e =
    record { front = []; rest = []; begun = []; split = refl; is = refl; more = token_begins tt }
doubled_front [] (c ∷ []) b y are e =
    let first : 0xff ≡ c = cc in
    record {
      front = [];
      rest = [];
      begun = c ∷ [];
      split = refl;
      is = refl;
      more = begins_token Eor 0xef [] tt (ap (λ z. z ∷ 0xef ∷ []) first);
    }
doubled_front [] (c ∷ d ∷ x) b y are e = absurd (no_end x b y cc)
doubled_front (v ∷ content) x b y are e = elim (one_begins x (doubled v) (b ∷ y)
    (flat_map doubled content ++ 0xff ∷ 0xef ∷ [])
    (sym e ∙ append_assoc (doubled v) (flat_map doubled content) (0xff ∷ 0xef ∷ []))) [
      | inl p ↦ inside _ p.1
      | inr p ↦ (let found = doubled_front content p.0 b y are.1 p.2 in
          record {
            front = v ∷ found.front;
            rest = found.rest;
            begun = found.begun;
            split = ap (λ z. v ∷ z) found.split;
            is = p.1 ∙ ap (λ z. doubled v ++ z) found.is
                ∙ sym (append_assoc (doubled v) (flat_map doubled found.front) found.begun);
            more = found.more;
          })
    ]
  where
    inside : (r : List ℕ) → doubled v ≡ x ++ r → DoubledFront (v ∷ content) x
    inside [] q = record {
      front = v ∷ [];
      rest = content;
      begun = [];
      split = refl;
      is = sym (append-nil x) ∙ sym q ∙ sym (append-nil (doubled v)) ∙ sym (append-nil (doubled v ++ []));
      more = token_begins tt;
    }
    inside (n ∷ r) q = record {
      front = [];
      rest = v ∷ content;
      begun = x;
      split = refl;
      is = refl;
      more = begins_token (Data v) n r are.0 q;
    }
