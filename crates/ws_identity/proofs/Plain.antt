-- What a host is told has no byte FF, so that none is doubled, and the lengths of its parts.
use Rattle.std.specs.List.{list_all, flat_map}
use Rattle.std.specs.Prelude.{nat_le, unwrap_or, codes}
use Rattle.std.proofs.Common.{◌≡◌, ℕ, ◌+◌, ◌≤◌, List, [], ◌∷◌, ◌++◌, length, Bool, true, false, not, Option, Some, ◌==◌}
use Rattle.std.proofs.Common.{◌&&◌, if◌then◌else◌, refl, sym, ap, ◌∙◌, subst, arith}
use Rattle.std.proofs.lemmas.List.{append-nil}
use Rattle.std.proofs.lemmas.Grind.{flat_map-append}
use Rattle.std.proofs.lemmas.List.Folds.{list_all-append}
use borrow.Author.Tests.{eqb-true, leb-true, both_ways}
use Rattle.ws_code.specs.CodePage.{page_keyboard, page_digits, page_character_set, national_digits, euro_digits}
use Rattle.ws_code.specs.declared.code_page.CodePage.{CodePage}
use Rattle.ws_code.specs.declared.country.Country.{Country}
use Rattle.ws_code.specs.declared.country.Country.TheVariants.{UnitedStates, Germany, Denmark, Finland, Italy, Spain}
use Rattle.ws_code.specs.declared.country.Country.TheVariants.{UnitedKingdom, France, International, Iceland}
use Rattle.ws_telnet.specs.Token.{doubled}
use Rattle.ws_telnet.specs.declared.token.Telnet.TheVariants.{Sub as Subnegotiate}
use Rattle.ws_nego.specs.Options.{telnet_bytes}
use Rattle.ws_identity.specs.Names.{is_device_name, is_keyboard_type, begins_as_name, goes_on_name}
use Rattle.ws_identity.specs.Names.{is_capital_or_digit}
use Rattle.ws_identity.specs.Environ.{variable, device_variable, page_variables, told_token}
use Rattle.ws_identity.specs.declared.identity.Identity.{Identity}

-- a byte that isn't doubled
abbrev plain : ℕ → Bool
plain c = not (c == 0xFF)

both : (a b : Bool) → (a && b) ≡ true → (a ≡ true) × (b ≡ true)
both true b e = (refl, e)
both false b e = absurd (cc)

all_plain-append : (xs ys : List ℕ) → list_all plain xs ≡ true → list_all plain ys ≡ true → list_all plain (xs ++ ys) ≡ true
all_plain-append xs ys h k = rw (list_all-append plain xs ys, h, k) refl

pub undoubled : (xs : List ℕ) → list_all plain xs ≡ true → flat_map doubled xs ≡ xs
undoubled [] all = refl
undoubled (x ∷ xs) all = go (x == 0xFF) refl (undoubled xs) all
  where
    go : (t : Bool) → (x == 0xFF) ≡ t → (list_all plain xs ≡ true → flat_map doubled xs ≡ xs)
        → (not t && list_all plain xs) ≡ true
        → (if t then 0xFF ∷ 0xFF ∷ [] else x ∷ []) ++ flat_map doubled xs ≡ x ∷ xs
    go true e later all = absurd (cc)
    go false e later all = ap (λ ys. x ∷ ys) (later all)

-- a test that FF doesn't pass is passed by plain bytes alone
plain_if : (test : ℕ → Bool) → test 0xFF ≡ false → (c : ℕ) → test c ≡ true → plain c ≡ true
plain_if test other c passed = go (c == 0xFF) refl
  where
    go : (t : Bool) → (c == 0xFF) ≡ t → not t ≡ true
    go true e = let same : c ≡ 0xFF = eqb-true c 0xFF e in absurd (both_ways (test c) (ap test same ∙ other) passed)
    go false e = refl

all_plain : (test : ℕ → Bool) → test 0xFF ≡ false → (xs : List ℕ) → list_all test xs ≡ true → list_all plain xs ≡ true
all_plain test other [] all = refl
all_plain test other (x ∷ xs) all =
    let parts : _ = both (test x) (list_all test xs) all in
    rw (plain_if test other x parts.0, all_plain test other xs parts.1) refl

-- a device's name has at most 10 bytes, none of them FF
pub device_name : (xs : List ℕ) → is_device_name xs ≡ true → (length xs ≤ 10) × (list_all plain xs ≡ true)
device_name xs e =
    let a : _ = both (nat_le (length xs) 10 && begins_as_name xs) (list_all goes_on_name xs) e in
    let b : _ = both (nat_le (length xs) 10) (begins_as_name xs) a.0 in
    (leb-true (length xs) 10 b.0, all_plain goes_on_name refl xs a.1)

-- a keyboard type has three, none of them FF
pub keyboard_type : (xs : List ℕ) → is_keyboard_type xs ≡ true → (length xs ≡ 3) × (list_all plain xs ≡ true)
keyboard_type xs e =
    let a : _ = both (length xs == 3) (list_all is_capital_or_digit xs) e in
    (eqb-true (length xs) 3 a.0, all_plain is_capital_or_digit refl xs a.1)

-- the keyboard type of each code page is one
pub keyboard_of_page : (country : Country) → is_keyboard_type (page_keyboard country) ≡ true
keyboard_of_page UnitedStates = refl
keyboard_of_page Germany = refl
keyboard_of_page Denmark = refl
keyboard_of_page Finland = refl
keyboard_of_page Italy = refl
keyboard_of_page Spain = refl
keyboard_of_page UnitedKingdom = refl
keyboard_of_page France = refl
keyboard_of_page International = refl
keyboard_of_page Iceland = refl

-- the digits of a code page are at most four, and its character set has three
is_short : ℕ → List ℕ → Bool
is_short n xs = nat_le (length xs) n && list_all plain xs

short : (n : ℕ) (xs : List ℕ) → is_short n xs ≡ true → (length xs ≤ n) × (list_all plain xs ≡ true)
unfolding is_short
short n xs e =
    let parts : _ = both (nat_le (length xs) n) (list_all plain xs) e in
    (leb-true (length xs) n parts.0, parts.1)

national_short : (country : Country) → is_short 4 (national_digits country) ≡ true
unfolding is_short
national_short UnitedStates = refl
national_short Germany = refl
national_short Denmark = refl
national_short Finland = refl
national_short Italy = refl
national_short Spain = refl
national_short UnitedKingdom = refl
national_short France = refl
national_short International = refl
national_short Iceland = refl

euro_short : (country : Country) → is_short 4 (euro_digits country) ≡ true
unfolding is_short
euro_short UnitedStates = refl
euro_short Germany = refl
euro_short Denmark = refl
euro_short Finland = refl
euro_short Italy = refl
euro_short Spain = refl
euro_short UnitedKingdom = refl
euro_short France = refl
euro_short International = refl
euro_short Iceland = refl

pub digits : (page : CodePage) → (length (page_digits page) ≤ 4) × (list_all plain (page_digits page) ≡ true)
digits page = go page.has_euro
  where
    go : (euro : Bool) → (length (if euro then euro_digits page.country else national_digits page.country) ≤ 4)
        × (list_all plain (if euro then euro_digits page.country else national_digits page.country) ≡ true)
    go true = short 4 _ (euro_short page.country)
    go false = short 4 _ (national_short page.country)

pub character_set : (page : CodePage) → (length (page_character_set page) ≤ 3)
    × (list_all plain (page_character_set page) ≡ true)
character_set page = go page.has_euro
  where
    go : (euro : Bool) → (length (if euro then codes "695" else codes "697") ≤ 3)
        × (list_all plain (if euro then codes "695" else codes "697") ≡ true)
    go true = (omega arith, refl)
    go false = (omega arith, refl)

-- a variable of plain bytes, and what is told of a page
pub variable_plain : (name value : List ℕ) → list_all plain name ≡ true → list_all plain value ≡ true
    → list_all plain (variable name value) ≡ true
variable_plain name value h k = all_plain-append name (1 ∷ value) h k

pub page_plain : (identity : Identity) (keyboard : List ℕ)
    → keyboard ≡ unwrap_or identity.keyboard (page_keyboard identity.page.country) → is_keyboard_type keyboard ≡ true
    → flat_map doubled (page_variables identity) ≡ page_variables identity
page_plain identity keyboard same legal =
    let digits_set : _ = digits identity.page in
    let character_set_set : _ = character_set identity.page in
    let type : list_all plain (unwrap_or identity.keyboard (page_keyboard identity.page.country)) ≡ true =
    subst (λ (k : List ℕ). list_all plain k ≡ true) same (keyboard_type keyboard legal).1 in
    let page : list_all plain (variable (codes "CODEPAGE") (page_digits identity.page)) ≡ true =
    variable_plain (codes "CODEPAGE") (page_digits identity.page) refl digits_set.1 in
    let set : list_all plain (variable (codes "CHARSET") (page_character_set identity.page)) ≡ true =
    variable_plain (codes "CHARSET") (page_character_set identity.page) refl character_set_set.1 in
    let first : _ = variable_plain (codes "KBDTYPE") (unwrap_or identity.keyboard (page_keyboard identity.page.country))
    refl type in
    undoubled (page_variables identity) (all_plain-append
    (variable (codes "KBDTYPE") (unwrap_or identity.keyboard (page_keyboard identity.page.country))
    ++ variable (codes "CODEPAGE") (page_digits identity.page))
    (variable (codes "CHARSET") (page_character_set identity.page))
    (all_plain-append (variable (codes "KBDTYPE") (unwrap_or identity.keyboard (page_keyboard identity.page.country)))
    (variable (codes "CODEPAGE") (page_digits identity.page)) first page) set)

device_plain : (device : Option (List ℕ)) (name : List ℕ) → device ≡ Some name → is_device_name name ≡ true
    → flat_map doubled (device_variable device) ≡ device_variable device
device_plain device name is legal =
    rw is (undoubled (variable (codes "DEVNAME") name)
    (variable_plain (codes "DEVNAME") name refl (device_name name legal).1))

pub named_plain : (named : Bool) (device : Option (List ℕ)) (name : List ℕ) → device ≡ Some name
    → is_device_name name ≡ true → flat_map doubled (if named then device_variable device else [])
    ≡ (if named then device_variable device else [])
named_plain true device name is legal = device_plain device name is legal
named_plain false device name is legal = refl

-- the bytes of what is told
pub spelled : (a b : List ℕ) → flat_map doubled a ≡ a → flat_map doubled b ≡ b
    → telnet_bytes (Subnegotiate (record { option = 0x27; data_ = 0 ∷ a ++ b }) ∷ [])
    ≡ 0xFF ∷ 0xFA ∷ 0x27 ∷ 0 ∷ a ++ b ++ 0xFF ∷ 0xF0 ∷ []
spelled a b a_plain b_plain =
    let content : flat_map doubled (a ++ b) ≡ a ++ b =
    flat_map-append doubled a b ∙ ap (λ xs. xs ++ flat_map doubled b) a_plain ∙ ap (λ ys. a ++ ys) b_plain in
    ap (λ xs. 0xFF ∷ 0xFA ∷ 0x27 ∷ 0 ∷ xs) (append-nil (flat_map doubled (a ++ b) ++ 0xFF ∷ 0xF0 ∷ [])
    ∙ ap (λ xs. xs ++ 0xFF ∷ 0xF0 ∷ []) content)

-- so is what is told of an identity
pub told_is : (identity : Identity) (named : Bool) (r : List ℕ)
    → flat_map doubled (if named then device_variable identity.device else [])
    ≡ (if named then device_variable identity.device else [])
    → flat_map doubled (page_variables identity) ≡ page_variables identity
    → r ≡ 0xFF ∷ 0xFA ∷ 0x27 ∷ 0 ∷ (if named then device_variable identity.device else []) ++ page_variables identity
    ++ 0xFF ∷ 0xF0 ∷ [] → r ≡ telnet_bytes (told_token identity named ∷ [])
told_is identity named r device page is =
    is ∙ sym (spelled (if named then device_variable identity.device else []) (page_variables identity) device page)
