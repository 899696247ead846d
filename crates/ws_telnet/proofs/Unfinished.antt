-- What a machine between the bytes of a token needs.
use Rattle.std.specs.List.{flat_map}
use Rattle.std.specs.Prelude.{◌≡◌, ◌≢◌, ℕ, ◌<◌, ◌≤◌, ◌==◌, List, [], ◌∷◌, ◌++◌, length, true, false, refl}
use Rattle.std.proofs.Common.{inl, inr, sym, ap, ◌∙◌, subst, arith, append_assoc, length-append}
use Rattle.std.proofs.lemmas.Grind.{flat_map-append}
use Rattle.std.proofs.lemmas.List.{append-nil}
use Rattle.ws_code.specs.Code.{IsSpelled, IsPrefix, IsUnfinished, AreBytes}
use Rattle.ws_code.proofs.CodeLaws.{AreBytes-append, AreBytes-front}
use Rattle.ws_telnet.specs.Machine.{sub_begun}
use Rattle.ws_telnet.specs.Token.{token_rules, doubled, verb_byte, ends_in_iac}
use Rattle.ws_telnet.specs.TokenLaws.{iac_or_not, doubled_plain, content_front, content_left, content_end, in_sub}
use Rattle.ws_telnet.specs.declared.token.Telnet.TheVariants.{Option as Negotiate, Sub as Subnegotiate}
use Rattle.ws_telnet.specs.declared.token.Token.TheVariants.{Eor, Telnet as TelnetToken}
use Rattle.ws_telnet.specs.declared.token.Verb.{Verb}

-- a subnegotiation so far can end with FF F0
pub sub_goes_on : (option : ℕ) (xs : List ℕ) → option < 256 → length xs ≤ 64 → AreBytes xs
    → IsUnfinished token_rules tt (0xff ∷ 0xfa ∷ option ∷ flat_map doubled xs)
sub_goes_on option xs h k l = record {
  unit = TelnetToken (Subnegotiate (record { option = option; data_ = xs }));
  next = 0xff;
  rest = 0xf0 ∷ [];
  stands = record { is_unit = (h, k, l); may_follow = refl };
  spelled = refl;
}

pub sub_ends : (option : ℕ) (xs : List ℕ) → option < 256 → length xs ≤ 64 → AreBytes xs
    → IsUnfinished token_rules tt (0xff ∷ 0xfa ∷ option ∷ flat_map doubled xs ++ 0xff ∷ [])
sub_ends option xs h k l = record {
  unit = TelnetToken (Subnegotiate (record { option = option; data_ = xs }));
  next = 0xf0;
  rest = [];
  stands = record { is_unit = (h, k, l); may_follow = refl };
  spelled = ap (λ x. 0xff ∷ 0xfa ∷ option ∷ x) (sym (append_assoc (flat_map doubled xs) (0xff ∷ []) (0xf0 ∷ [])));
}

-- what is known of a subnegotiation so far
pub record IsSubSoFar (option : ℕ) (xs : List ℕ) : Type 0 where
  pub option_fits : option < 256
  pub length_fits : length xs ≤ 64
  pub bytes : AreBytes xs

pub sub_so_far : (option : ℕ) (xs tail : List ℕ)
    → IsUnfinished token_rules tt (0xff ∷ 0xfa ∷ option ∷ flat_map doubled xs ++ tail) → IsSubSoFar option xs
sub_so_far option xs tail u =
    let found : (ys : List ℕ) × (option < 256) × (length ys ≤ 64) × AreBytes
    ys × (flat_map doubled ys ++ 0xff ∷ 0xf0 ∷ [] ≡ flat_map doubled xs ++ tail ++ u.next ∷ u.rest) =
    in_sub u.unit option _ u.stands.is_unit u.spelled in
    let front : (zs : List ℕ) × (found.0 ≡ xs ++ zs) × (flat_map doubled
    zs ++ 0xff ∷ 0xf0 ∷ [] ≡ tail ++ u.next ∷ u.rest) = content_front found.0 xs (tail ++ u.next ∷ u.rest)
    (found.4 ∙ append_assoc (flat_map doubled xs) tail (u.next ∷ u.rest)) in
    record {
      option_fits = found.1;
      length_fits = omega (arith, found.2, ap length front.1, length-append xs front.0);
      bytes = AreBytes-front xs front.0 (subst AreBytes front.1 found.3);
    }

-- the content of one byte more
pub content_more : (xs : List ℕ) (b : ℕ) → flat_map doubled (xs ++ b ∷ []) ≡ flat_map doubled xs ++ doubled b
content_more xs b = flat_map-append doubled xs (b ∷ []) ∙ ap (λ x. flat_map doubled xs ++ x) (append-nil (doubled b))

pub bytes_more : (xs : List ℕ) (b : ℕ) → AreBytes xs → b < 256 → AreBytes (xs ++ b ∷ [])
bytes_more xs b h k = AreBytes-append xs (b ∷ []) h (k, tt)

-- with 64 bytes, no further one
pub sub_full : (option : ℕ) (xs : List ℕ) (b : ℕ) → length xs ≡ 64
    → IsPrefix token_rules tt (sub_begun option xs ++ doubled b) → ⊥
sub_full option xs b full p =
    let found = in_sub p.unit option _ p.stands.is_unit p.spelled in
    let rest = found.4 ∙ append_assoc (flat_map doubled xs) (doubled b) p.rest in
    let front = content_front found.0 xs (doubled b ++ p.rest) rest in
    omega (arith, content_left front.0 p.rest b front.2, found.2, ap length front.1, length-append xs front.0)

-- FF and another byte than FF and F0
pub sub_bad : (option : ℕ) (xs : List ℕ) (b : ℕ) → b ≢ 0xff → b ≢ 0xf0
    → IsPrefix token_rules tt (0xff ∷ 0xfa ∷ option ∷ flat_map doubled xs ++ 0xff ∷ [] ++ b ∷ []) → ⊥
sub_bad option xs b ne ne' p =
    let found : (ys : List ℕ) × (option < 256) × (length ys ≤ 64) × AreBytes
    ys × (flat_map doubled ys ++ 0xff ∷ 0xf0 ∷ [] ≡ flat_map doubled xs ++ 0xff ∷ [] ++ b ∷ [] ++ p.rest) =
    in_sub p.unit option _ p.stands.is_unit p.spelled in
    let front : (zs : List ℕ) × (found.0 ≡ xs ++ zs) × (flat_map doubled zs ++ 0xff ∷ 0xf0 ∷ [] ≡ 0xff ∷ b ∷ p.rest) =
    content_front found.0 xs (0xff ∷ b ∷ p.rest) (found.4 ∙ simp append_assoc) in
    ne' (content_end front.0 p.rest b ne front.2).1

-- content leaves no FF open
ends_plain : (b : ℕ) (rest : List ℕ) → (b == 0xff) ≡ false → ends_in_iac (b ∷ rest) ≡ ends_in_iac rest
ends_plain b [] h = h
ends_plain b (c ∷ rest) h = rw h

ends_after : (xs rest : List ℕ) → ends_in_iac (flat_map doubled xs ++ rest) ≡ ends_in_iac rest
ends_after [] rest = refl
ends_after (x ∷ xs) rest = ap ends_in_iac (append_assoc (doubled x) (flat_map doubled xs) rest) ∙ elim (iac_or_not x) [
  | inl h ↦ ap (λ n. ends_in_iac (doubled n ++ (flat_map doubled xs ++ rest))) h ∙ ends_after xs rest
  | inr h ↦ ap (λ l. ends_in_iac (l ++ (flat_map doubled xs ++ rest))) (doubled_plain x h.1)
      ∙ ends_plain x (flat_map doubled xs ++ rest) h.1 ∙ ends_after xs rest
]

pub content_even : (xs : List ℕ) → ends_in_iac (flat_map doubled xs) ≡ false
content_even xs = ap ends_in_iac (sym (append-nil (flat_map doubled xs))) ∙ ends_after xs []

pub content_odd : (xs : List ℕ) → ends_in_iac (flat_map doubled xs ++ 0xff ∷ []) ≡ true
content_odd xs = ends_after xs (0xff ∷ [])

-- what may follow FF
pub iac_goes_on : IsUnfinished token_rules tt (0xff ∷ [])
iac_goes_on = record
    { unit = Eor; next = 0xef; rest = []; stands = record { is_unit = tt; may_follow = refl }; spelled = refl }

pub sub_begins : IsUnfinished token_rules tt (0xff ∷ 0xfa ∷ [])
sub_begins = record {
  unit = TelnetToken (Subnegotiate (record { option = 0; data_ = [] }));
  next = 0;
  rest = 0xff ∷ 0xf0 ∷ [];
  stands = record { is_unit = (omega arith, omega arith, tt); may_follow = refl };
  spelled = refl;
}

pub negotiation_begins : (verb : Verb) (b : ℕ) → verb_byte verb ≡ b → IsUnfinished token_rules tt (0xff ∷ b ∷ [])
negotiation_begins verb b h = record {
  unit = TelnetToken (Negotiate verb 0);
  next = 0;
  rest = [];
  stands = record { is_unit = omega arith; may_follow = refl };
  spelled = ap (λ n. 0xff ∷ n ∷ 0 ∷ []) h;
}

pub sub_so_far_content : (option : ℕ) (xs : List ℕ)
    → IsUnfinished token_rules tt (0xff ∷ 0xfa ∷ option ∷ flat_map doubled xs) → IsSubSoFar option xs
sub_so_far_content option xs u =
    sub_so_far option xs []
    (subst (λ (l : List ℕ). IsUnfinished token_rules tt (0xff ∷ 0xfa ∷ option ∷ l))
    (sym (append-nil (flat_map doubled xs))) u)

pub sub_option : (option : ℕ) → option < 256 → IsUnfinished token_rules tt (0xff ∷ 0xfa ∷ option ∷ [])
sub_option option h = sub_goes_on option [] h (omega arith) tt

pub sub_whole : (option : ℕ) (xs : List ℕ) → IsSubSoFar option xs
    → IsSpelled token_rules tt (0xff ∷ 0xfa ∷ option ∷ flat_map doubled xs ++ 0xff ∷ [] ++ 0xf0 ∷ [])
    (TelnetToken (Subnegotiate (record { option = option; data_ = xs })))
sub_whole option xs known = record {
  stands = record { is_unit = (known.option_fits, known.length_fits, known.bytes); may_follow = refl };
  spelled = ap (λ (l : List ℕ). let m : List ℕ = 0xff ∷ 0xfa ∷ option ∷ l in m)
      (sym (append_assoc (flat_map doubled xs) (0xff ∷ []) (0xf0 ∷ [])));
}
