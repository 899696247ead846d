-- Each page is one to one: a country's page is, and a euro page is it but for the euro sign.
use Rattle.std.specs.List.{find, range_with_len}
use Rattle.std.specs.Option.{option_map, option_map_or}
use Rattle.std.specs.Prelude.{IsSome}
use Rattle.std.proofs.Common.{◌≡◌, ◌≢◌, ℕ, zero, suc, ◌+◌, ◌<◌, ◌≤◌, ◌⊎◌, inl, inr, List, [], ◌∷◌, Bool, true, false, not, Option, Some, None}
use Rattle.std.proofs.Common.{◌==◌, ◌&&◌, ◌||◌, is_some, refl, sym, ap, ◌∙◌, if◌then◌else◌, arith}
use borrow.Author.Tests.{eqb-true, eqb-false, eq-eqb, ne_eqb, not-true, not-false}
use Rattle.ws_code.specs.Ebcdic.{byte_of}
use Rattle.ws_code.specs.CodePage.{with_euro, national_char, char_on, byte_on, has_character, IsOneToOne}
use Rattle.ws_code.specs.declared.code_page.CodePage.{CodePage}
use Rattle.ws_code.specs.declared.country.Country.{Country}
use Rattle.ws_code.proofs.CountryPages.{national_byte, national_inverse, national_bounds, national_has}
use Rattle.ws_code.proofs.CountryPages.{national_onto}

-- two options that are some number for the same numbers are the same
same_option : (r s : Option ℕ) → ((b : ℕ) → r ≡ Some b → s ≡ Some b) → ((b : ℕ) → s ≡ Some b → r ≡ Some b) → r ≡ s
same_option (Some b) s there back = sym (there b refl)
same_option None (Some b) there back = back b refl
same_option None None there back = refl

-- the byte that the page has for a character
unfoldable pub byte_in : Country → Bool → ℕ → Option ℕ
byte_in country true c =
    if c == 0x20AC then national_byte country 0xA4
    else if c == 0xA4 then None else national_byte country c
byte_in country false c = national_byte country c

abbrev pub page_byte : CodePage → ℕ → Option ℕ
page_byte page c = byte_in page.country page.has_euro c

euro_is : (x c : ℕ) → with_euro x ≡ c → ((x ≡ 0xA4) × (c ≡ 0x20AC)) ⊎ ((x ≢ 0xA4) × (x ≡ c))
euro_is x c e = go (x == 0xA4) refl e
  where
    go : (t : Bool) → (x == 0xA4) ≡ t → (if t then 0x20AC else x) ≡ c
        → ((x ≡ 0xA4) × (c ≡ 0x20AC)) ⊎ ((x ≢ 0xA4) × (x ≡ c))
    go true p e = inl (eqb-true x 0xA4 p, sym e)
    go false p e = inr (eqb-false x 0xA4 p, e)

-- what a byte has on the euro page, it has on the country's, but for the euro sign
euro_char : (o : Option ℕ) (c : ℕ) → option_map with_euro o ≡ Some c
    → ((o ≡ Some 0xA4) × (c ≡ 0x20AC)) ⊎ ((c ≢ 0xA4) × (o ≡ Some c))
euro_char None c e = absurd (cc)
euro_char (Some x) c e = go (euro_is x c (cc))
  where
    go : ((x ≡ 0xA4) × (c ≡ 0x20AC)) ⊎ ((x ≢ 0xA4) × (x ≡ c))
        → ((Some x ≡ Some 0xA4) × (c ≡ 0x20AC)) ⊎ ((c ≢ 0xA4) × (Some x ≡ Some c))
    go (inl h) = inl (ap Some h.0, h.1)
    go (inr h) = inr ((λ q. h.0 (h.1 ∙ q)), ap Some h.1)

euro_there : (country : Country) (b c : ℕ) → byte_in country true c ≡ Some b
    → option_map with_euro (national_char country b) ≡ Some c
unfolding byte_in
euro_there country b c e = go (c == 0x20AC) refl (c == 0xA4) refl e
  where
    go : (t : Bool) → (c == 0x20AC) ≡ t → (u : Bool) → (c == 0xA4) ≡ u
        → (if t then national_byte country 0xA4 else if u then None else national_byte country c) ≡ Some b
        → option_map with_euro (national_char country b) ≡ Some c
    go true p u q e =
        ap (option_map with_euro) ((national_inverse country b 0xA4).0 e) ∙ ap Some (sym (eqb-true c 0x20AC p))
    go false p true q e = absurd (cc)
    go false p false q e =
        ap (option_map with_euro) ((national_inverse country b c).0 e)
        ∙ ap Some (ap (λ t. if t then 0x20AC else c) q)

euro_back : (country : Country) (b c : ℕ) → option_map with_euro (national_char country b) ≡ Some c
    → byte_in country true c ≡ Some b
unfolding byte_in
euro_back country b c e = go (euro_char (national_char country b) c e)
  where
    go : ((national_char country b ≡ Some 0xA4) × (c ≡ 0x20AC)) ⊎ ((c ≢ 0xA4) × (national_char country b ≡ Some c))
        → (if c == 0x20AC then national_byte country 0xA4 else if c == 0xA4 then None else national_byte country c)
        ≡ Some b
    go (inl h) = rw (eq-eqb c 0x20AC h.1) ((national_inverse country b 0xA4).1 h.0)
    go (inr h) =
        let small : _ = national_bounds country b c h.1 in
        let other : c ≢ 0x20AC = λ q. absurd (omega (arith, small.2)) in
        rw (ne_eqb c 0x20AC other, ne_eqb c 0xA4 h.0) ((national_inverse country b c).1 h.1)

pub page_inverse : (page : CodePage) (b c : ℕ) → (page_byte page c ≡ Some b → char_on page b ≡ Some c)
    × (char_on page b ≡ Some c → page_byte page c ≡ Some b)
unfolding char_on byte_in
page_inverse page b c = go page.has_euro
  where
    go : (euro : Bool) → (byte_in page.country euro c ≡ Some b
        → (if euro then option_map with_euro (national_char page.country b) else national_char page.country b) ≡ Some c)
        × ((if euro then option_map with_euro (national_char page.country b) else national_char page.country b) ≡ Some c
        → byte_in page.country euro c ≡ Some b)
    go true = (euro_there page.country b c, euro_back page.country b c)
    go false = national_inverse page.country b c

pub page_bounds : (page : CodePage) (b c : ℕ) → char_on page b ≡ Some c → (0x40 ≤ b) × (b < 0xFF)
unfolding char_on
page_bounds page b c e = go page.has_euro e
  where
    go : (euro : Bool)
        → (if euro then option_map with_euro (national_char page.country b) else national_char page.country b) ≡ Some c
        → (0x40 ≤ b) × (b < 0xFF)
    go true e = euro (euro_char (national_char page.country b) c e)
      where
        euro : ((national_char page.country b ≡ Some 0xA4) × (c ≡ 0x20AC))
            ⊎ ((c ≢ 0xA4) × (national_char page.country b ≡ Some c)) → (0x40 ≤ b) × (b < 0xFF)
        euro (inl h) = let w : _ = national_bounds page.country b 0xA4 h.0 in (w.0, w.1)
        euro (inr h) = let w : _ = national_bounds page.country b c h.1 in (w.0, w.1)
    go false e = let w : _ = national_bounds page.country b c e in (w.0, w.1)

pub page_has : (page : CodePage) (b : ℕ) → 0x40 ≤ b → b < 0xFF → IsSome (char_on page b)
unfolding char_on
page_has page b low high = go page.has_euro (national_has page.country b low high)
  where
    go : (euro : Bool) → (c : ℕ) × (national_char page.country b ≡ Some c)
        → IsSome (if euro then option_map with_euro (national_char page.country b) else national_char page.country b)
    go true h = rw h.1 refl
    go false h = rw h.1 refl

-- what a look-up among numbers finds passes, and where it finds none, none does
found_passes : (p : ℕ → Bool) (xs : List ℕ) (x : ℕ) → find p xs ≡ Some x → p x ≡ true
found_passes p [] x e = absurd (cc)
found_passes p (y ∷ ys) x e = go (p y) refl e (found_passes p ys x)
  where
    go : (t : Bool) → p y ≡ t → (if t then Some y else find p ys) ≡ Some x → (find p ys ≡ Some x → p x ≡ true)
        → p x ≡ true
    go true is e later = let same : y ≡ x = cc in ap p (sym same) ∙ is
    go false is e later = later e

none_passes : (p : ℕ → Bool) (lo n : ℕ) → find p (range_with_len lo n) ≡ None → (k : ℕ) → lo ≤ k → k < lo + n
    → p k ≡ false
none_passes p lo zero e k low high = absurd (omega arith)
none_passes p lo (suc n) e k low high = go (p lo) refl e (none_passes p (lo + 1) n) (lo == k) refl
  where
    Later : Type 0
    Later = find p (range_with_len (lo + 1) n) ≡ None → (k : ℕ) → lo + 1 ≤ k → k < lo + 1 + n → p k ≡ false

    go : (t : Bool) → p lo ≡ t → (if t then Some lo else find p (range_with_len (lo + 1) n)) ≡ None → Later → (u : Bool)
        → (lo == k) ≡ u → p k ≡ false
    go true is e later u q = absurd (cc)
    go false is e later true q = ap p (sym (eqb-true lo k q)) ∙ is
    go false is e later false q = let ne : lo ≡ k → ⊥ = eqb-false lo k q in later e k (omega arith) (omega arith)

has-true : (c : ℕ) (o : Option ℕ) → option_map_or (λ at_b. at_b == c) o false ≡ true → o ≡ Some c
has-true c None e = absurd (cc)
has-true c (Some x) e = ap Some (eqb-true x c e)

-- the byte of a character is the first that has it
pub page_byte-is : (page : CodePage) (c : ℕ) → page_byte page c ≡ byte_on page c
unfolding byte_on
page_byte-is page c = go (find test (range_with_len 0x40 191)) refl
  where
    test : ℕ → Bool
    test b = option_map_or (λ at_b. at_b == c) (char_on page b) false

    go : (r : Option ℕ) → find test (range_with_len 0x40 191) ≡ r → page_byte page c ≡ r
    go (Some b) e =
        (page_inverse page b c).1 (has-true c (char_on page b) (found_passes test (range_with_len 0x40 191) b e))
    go None e = same_option (page_byte page c) None (λ b at.
        let is : char_on page b ≡ Some c = (page_inverse page b c).0 at in
        let within : _ = page_bounds page b c is in
        let no : test b ≡ false = none_passes test 0x40 191 e b within.0 (omega (arith, within.1)) in
        let yes : test b ≡ true = ap (λ o. option_map_or (λ at_b. at_b == c) o false) is ∙ eq-eqb c c refl in
        absurd (cc)) (λ b at. absurd (cc))

-- 037 has the currency sign
currency : is_some (byte_of 0xA4) ≡ true
unfolding byte_of
currency = refl

-- a page has its characters
page_onto : (page : CodePage) (c : ℕ) → is_some (page_byte page c) ≡ has_character page c
unfolding byte_in
page_onto page c = go page.has_euro
  where
    euro : (t : Bool) → (c == 0x20AC) ≡ t → (u : Bool) → (c == 0xA4) ≡ u
        → is_some (if t then national_byte page.country 0xA4 else if u then None else national_byte page.country c)
        ≡ (t || (not u && is_some (byte_of c)))
    euro true p u q = national_onto page.country 0xA4 ∙ currency
    euro false p true q = refl
    euro false p false q = national_onto page.country c

    go : (euro : Bool) → is_some (byte_in page.country euro c)
        ≡ (if euro then (c == 0x20AC) || (not (c == 0xA4) && is_some (byte_of c)) else is_some (byte_of c))
    go true = euro (c == 0x20AC) refl (c == 0xA4) refl
    go false = national_onto page.country c

-- each page is one to one
pub one_to_one : (page : CodePage) → IsOneToOne page
one_to_one page = record {
  has = λ b. ((λ some. within b (char_on page b) refl some), (λ within. page_has page b within.0 within.1));
  distinct = λ a b c at_a at_b.
      let there : page_byte page c ≡ Some a = (page_inverse page a c).1 at_a in
      let here : page_byte page c ≡ Some b = (page_inverse page b c).1 at_b in
      cc;
  back = λ b c at_b. sym (page_byte-is page c) ∙ (page_inverse page b c).1 at_b;
  onto = λ c. ap is_some (sym (page_byte-is page c)) ∙ page_onto page c;
}
  where
    within : (b : ℕ) (o : Option ℕ) → char_on page b ≡ o → IsSome (char_on page b) → (0x40 ≤ b) × (b < 0xFF)
    within b (Some c) e some = page_bounds page b c e
    within b None e some = absurd (cc)

-- the answer of a country's page is its byte
pub is_national_byte : (country : Country) (c : ℕ) (r : Option ℕ)
    → ((b : ℕ) → (r ≡ Some b → national_char country b ≡ Some c) × (national_char country b ≡ Some c → r ≡ Some b))
    → r ≡ national_byte country c
is_national_byte country c r known = same_option r (national_byte country c)
    (λ b e. (national_inverse country b c).1 ((known b).0 e)) (λ b e. (known b).1 ((national_inverse country b c).0 e))

-- what the answers of `from_char` are, arm by arm
pub is_page_byte-plain : (page : CodePage) (c : ℕ) (r : Option ℕ) → not page.has_euro ≡ true
    → r ≡ national_byte page.country c → r ≡ page_byte page c
unfolding byte_in
is_page_byte-plain page c r plain is = rw (not-true page.has_euro plain) is

pub is_page_byte-euro : (page : CodePage) (c : ℕ) (r : Option ℕ) → not page.has_euro ≡ false → c ≡ 0x20AC
    → r ≡ national_byte page.country 0xA4 → r ≡ page_byte page c
unfolding byte_in
is_page_byte-euro page c r euro at is = rw (not-false page.has_euro euro, eq-eqb c 0x20AC at) is

pub is_page_byte-currency : (page : CodePage) (c : ℕ) → not page.has_euro ≡ false → c ≡ 0xA4
    → None ≡ page_byte page c
unfolding byte_in
is_page_byte-currency page c euro at = rw (not-false page.has_euro euro, at) refl

pub is_page_byte-other : (page : CodePage) (c : ℕ) (r : Option ℕ) → not page.has_euro ≡ false → c ≢ 0x20AC → c ≢ 0xA4
    → r ≡ national_byte page.country c → r ≡ page_byte page c
unfolding byte_in
is_page_byte-other page c r euro no_euro no_currency is =
    rw (not-false page.has_euro euro, ne_eqb c 0x20AC no_euro, ne_eqb c 0xA4 no_currency) is

-- an answer that is the page's byte meets both clauses
pub inverse-from_page_byte : (page : CodePage) (c : ℕ) (r : Option ℕ) → r ≡ page_byte page c → (b : ℕ)
    → (r ≡ Some b → char_on page b ≡ Some c) × (char_on page b ≡ Some c → r ≡ Some b)
inverse-from_page_byte page c r is b =
    let both : _ = page_inverse page b c in
    ((λ e. both.0 (sym is ∙ e)), (λ e. is ∙ both.1 e))

pub value-from_page_byte : (page : CodePage) (c : ℕ) (r : Option ℕ) → r ≡ page_byte page c → r ≡ byte_on page c
value-from_page_byte page c r is = is ∙ page_byte-is page c
