-- A country's page is one to one: 037, but for bytes and characters that its changes put elsewhere among themselves.
use Rattle.std.specs.List.{list_all, find}
use Rattle.std.specs.Option.{option_map, option_map_or, option_and_then}
use Rattle.std.proofs.Common.{◌≡◌, ℕ, ◌<◌, ◌≤◌, List, [], ◌∷◌, Bool, true, false, Option, Some, None, ◌==◌, refl, sym, ap, ◌∙◌}
use Rattle.std.proofs.Common.{nat_lt, ◌&&◌, is_some, if◌then◌else◌, arith}
use borrow.Author.Tests.{eqb-true, ltb-true}
use Rattle.ws_code.specs.Ebcdic.{byte_of, char_of}
use Rattle.ws_code.specs.CodePage.{Change, changes_of, national_char}
use Rattle.ws_code.specs.declared.country.Country.{Country}
use Rattle.ws_code.specs.declared.country.Country.TheVariants.{UnitedStates, Germany, Denmark, Finland, Italy, Spain}
use Rattle.ws_code.specs.declared.country.Country.TheVariants.{UnitedKingdom, France, International, Iceland}
use Rattle.ws_code.proofs.OneToOne.{byte_of_char, char_bounds, has_char}

both : (a b : Bool) → (a && b) ≡ true → (a ≡ true) × (b ≡ true)
both true b e = (refl, e)
both false b e = absurd (cc)

-- what is found passes the test, and each test that all pass
found : {X : Type 0} (p q : X → Bool) (xs : List X) (x : X) → list_all q xs ≡ true → find p xs ≡ Some x → (p x ≡ true)
    × (q x ≡ true)
found p q [] x all e = absurd (cc)
found p q (y ∷ ys) x all e = go (p y) refl e (found p q ys x)
  where
    here : (q y ≡ true) × (list_all q ys ≡ true)
    here = both (q y) (list_all q ys) all

    go : (t : Bool) → p y ≡ t → (if t then Some y else find p ys) ≡ Some x
        → (list_all q ys ≡ true → find p ys ≡ Some x → (p x ≡ true) × (q x ≡ true)) → (p x ≡ true) × (q x ≡ true)
    go true is e later = let same : y ≡ x = cc in (ap p (sym same) ∙ is, ap q (sym same) ∙ here.0)
    go false is e later = later here.1 e

abbrev by_byte : List Change → ℕ → Option Change
by_byte changes b = find (λ change. change.0 == b) changes

abbrev by_char : List Change → ℕ → Option Change
by_char changes c = find (λ change. change.1 == c) changes

abbrev is_it : Change → Option Change → Bool
is_it change found = option_map_or (λ it. (it.0 == change.0) && (it.1 == change.1)) found false

-- the change is the only one of its byte and of its character, and the byte that its character has on 037, and the
-- character that its byte has there, are changed too
abbrev stands_apart : List Change → Change → Bool
stands_apart changes change =
    is_it change (by_byte changes change.0) && (is_it change (by_char changes change.1)
    && (is_some (option_and_then (by_byte changes) (byte_of change.1))
    && (is_some (option_and_then (by_char changes) (char_of change.0)) && nat_lt change.1 256)))

abbrev to_char : List Change → ℕ → Option ℕ
to_char changes b = option_map_or (λ change. Some change.1) (by_byte changes b) (char_of b)

abbrev from_char : List Change → ℕ → Option ℕ
from_char changes c = option_map_or (λ change. Some change.0) (by_char changes c) (byte_of c)

-- what a change that stands apart is
record Apart (changes : List Change) (change : Change) : Type 0 where
  byte : by_byte changes change.0 ≡ Some change
  char : by_char changes change.1 ≡ Some change
  byte_moves : is_some (option_and_then (by_byte changes) (byte_of change.1)) ≡ true
  char_moves : is_some (option_and_then (by_char changes) (char_of change.0)) ≡ true
  latin : change.1 < 256

is_it-true : (change : Change) (o : Option Change) → is_it change o ≡ true → o ≡ Some change
is_it-true change None e = absurd (cc)
is_it-true change (Some it) e =
    let parts : _ = both (it.0 == change.0) (it.1 == change.1) e in
    let byte : it.0 ≡ change.0 = eqb-true it.0 change.0 parts.0 in
    let char : it.1 ≡ change.1 = eqb-true it.1 change.1 parts.1 in
    let same : ◌≡◌ {A = Change} (it.0, it.1) (change.0, change.1) = cc in
    ap Some same

apart : (changes : List Change) (change : Change) → stands_apart changes change ≡ true → Apart changes change
apart changes change e =
    let a : _ = both (is_it change (by_byte changes change.0)) _ e in
    let b : _ = both (is_it change (by_char changes change.1)) _ a.1 in
    let c : _ = both (is_some (option_and_then (by_byte changes) (byte_of change.1))) _ b.1 in
    let d : _ = both (is_some (option_and_then (by_char changes) (char_of change.0))) (nat_lt change.1 256) c.1 in
    record {
      byte = is_it-true change _ a.0;
      char = is_it-true change _ b.0;
      byte_moves = c.0;
      char_moves = d.0;
      latin = ltb-true change.1 256 d.1;
    }

module _ (changes : List Change) (all : list_all (stands_apart changes) changes ≡ true) where
  of_byte : (b : ℕ) (change : Change) → by_byte changes b ≡ Some change → (change.0 ≡ b) × Apart changes change
  of_byte b change e =
      let here : _ = found (λ it. it.0 == b) (stands_apart changes) changes change all e in
      (eqb-true change.0 b here.0, apart changes change here.1)

  of_char : (c : ℕ) (change : Change) → by_char changes c ≡ Some change → (change.1 ≡ c) × Apart changes change
  of_char c change e =
      let here : _ = found (λ it. it.1 == c) (stands_apart changes) changes change all e in
      (eqb-true change.1 c here.0, apart changes change here.1)

  there : (b c : ℕ) (x : Option Change) → by_char changes c ≡ x
      → option_map_or (λ change. Some change.0) x (byte_of c) ≡ Some b → (y : Option Change) → by_byte changes b ≡ y
      → option_map_or (λ change. Some change.1) y (char_of b) ≡ Some c
  there b c (Some x) e is y f =
      let h : _ = of_char c x e in
      let same : x.0 ≡ b = cc in
      let at : y ≡ Some x = sym f ∙ ap (by_byte changes) (sym same) ∙ h.1.byte in
      rw at (ap Some h.0)
  there b c None e is None f = (byte_of_char b c).0 is
  there b c None e is (Some y) f =
      let h : _ = of_byte b y f in
      let char : char_of b ≡ Some c = (byte_of_char b c).0 is in
      let at : char_of y.0 ≡ Some c = ap char_of h.0 ∙ char in
      let moves : is_some (by_char changes c) ≡ true = rw at at h.1.char_moves in
      let stays : is_some (by_char changes c) ≡ false = rw e refl in
      absurd (cc)

  back : (b c : ℕ) (y : Option Change) → by_byte changes b ≡ y
      → option_map_or (λ change. Some change.1) y (char_of b) ≡ Some c → (x : Option Change) → by_char changes c ≡ x
      → option_map_or (λ change. Some change.0) x (byte_of c) ≡ Some b
  back b c (Some y) f is x e =
      let h : _ = of_byte b y f in
      let same : y.1 ≡ c = cc in
      let at : x ≡ Some y = sym e ∙ ap (by_char changes) (sym same) ∙ h.1.char in
      rw at (ap Some h.0)
  back b c None f is None e = (byte_of_char b c).1 is
  back b c None f is (Some x) e =
      let h : _ = of_char c x e in
      let byte : byte_of c ≡ Some b = (byte_of_char b c).1 is in
      let at : byte_of x.1 ≡ Some b = ap byte_of h.0 ∙ byte in
      let moves : is_some (by_byte changes b) ≡ true = rw at at h.1.byte_moves in
      let stays : is_some (by_byte changes b) ≡ false = rw f refl in
      absurd (cc)

  change_bounds : (b : ℕ) (change : Change) → by_byte changes b ≡ Some change
      → (0x40 ≤ b) × (b < 0xFF) × (change.1 < 256)
  change_bounds b change e = go (char_of b) refl (ap char_of h.0)
    where
      h : (change.0 ≡ b) × Apart changes change
      h = of_byte b change e

      go : (o : Option ℕ) → char_of b ≡ o → char_of change.0 ≡ char_of b → (0x40 ≤ b) × (b < 0xFF) × (change.1 < 256)
      go (Some c) is same = let w : _ = char_bounds b c is in (w.0, w.1, h.1.latin)
      go None is same =
          let moves : is_some (option_and_then (by_char changes) None) ≡ true = rw (same ∙ is) at h.1.char_moves in
          absurd (cc)

-- the changes of each country
all_apart : (country : Country) → list_all (stands_apart (changes_of country)) (changes_of country) ≡ true
unfolding changes_of byte_of
all_apart UnitedStates = refl
all_apart Germany = refl
all_apart Denmark = refl
all_apart Finland = refl
all_apart Italy = refl
all_apart Spain = refl
all_apart UnitedKingdom = refl
all_apart France = refl
all_apart International = refl
all_apart Iceland = refl

-- the byte that a country's page has for a character
unfoldable pub national_byte : Country → ℕ → Option ℕ
national_byte country c = from_char (changes_of country) c

pub national_char-some : (country : Country) (b c : ℕ)
    → option_map (λ change. change.1) (by_byte (changes_of country) b) ≡ Some c → national_char country b ≡ Some c
unfolding national_char
national_char-some country b c e = go (by_byte (changes_of country) b) e
  where
    go : (y : Option Change) → option_map (λ change. change.1) y ≡ Some c
        → option_map_or (λ change. Some change.1) y (char_of b) ≡ Some c
    go None e = absurd (cc)
    go (Some y) e = e

pub national_char-none : (country : Country) (b : ℕ)
    → option_map (λ change. change.1) (by_byte (changes_of country) b) ≡ None → national_char country b ≡ char_of b
unfolding national_char
national_char-none country b e = go (by_byte (changes_of country) b) e
  where
    go : (y : Option Change) → option_map (λ change. change.1) y ≡ None
        → option_map_or (λ change. Some change.1) y (char_of b) ≡ char_of b
    go None e = refl
    go (Some y) e = absurd (cc)

pub national_byte-some : (country : Country) (c b : ℕ)
    → option_map (λ change. change.0) (by_char (changes_of country) c) ≡ Some b → national_byte country c ≡ Some b
unfolding national_byte
national_byte-some country c b e = go (by_char (changes_of country) c) e
  where
    go : (y : Option Change) → option_map (λ change. change.0) y ≡ Some b
        → option_map_or (λ change. Some change.0) y (byte_of c) ≡ Some b
    go None e = absurd (cc)
    go (Some y) e = e

pub national_byte-none : (country : Country) (c : ℕ)
    → option_map (λ change. change.0) (by_char (changes_of country) c) ≡ None → national_byte country c ≡ byte_of c
unfolding national_byte
national_byte-none country c e = go (by_char (changes_of country) c) e
  where
    go : (y : Option Change) → option_map (λ change. change.0) y ≡ None
        → option_map_or (λ change. Some change.0) y (byte_of c) ≡ byte_of c
    go None e = refl
    go (Some y) e = absurd (cc)

pub national_inverse : (country : Country) (b c : ℕ) → (national_byte country c ≡ Some b → national_char country b ≡ Some c)
    × (national_char country b ≡ Some c → national_byte country c ≡ Some b)
unfolding national_byte national_char
national_inverse country b c = (
  (λ e. there (changes_of country) (all_apart country) b c _ refl e _ refl),
  (λ e. back (changes_of country) (all_apart country) b c _ refl e _ refl),
)

pub national_bounds : (country : Country) (b c : ℕ) → national_char country b ≡ Some c
    → (0x40 ≤ b) × (b < 0xFF) × (c < 256)
unfolding national_char
national_bounds country b c e = go (by_byte (changes_of country) b) refl e
  where
    go : (y : Option Change) → by_byte (changes_of country) b ≡ y
        → option_map_or (λ change. Some change.1) y (char_of b) ≡ Some c → (0x40 ≤ b) × (b < 0xFF) × (c < 256)
    go None f e = char_bounds b c e
    go (Some y) f e =
        let w : _ = change_bounds (changes_of country) (all_apart country) b y f in
        let same : y.1 ≡ c = cc in
        (w.0, w.1, omega arith)

pub national_has : (country : Country) (b : ℕ) → 0x40 ≤ b → b < 0xFF → (c : ℕ) × (national_char country b ≡ Some c)
unfolding national_char
national_has country b low high = go (by_byte (changes_of country) b)
  where
    go : (y : Option Change) → (c : ℕ) × (option_map_or (λ change. Some change.1) y (char_of b) ≡ Some c)
    go None = (_, has_char b low high)
    go (Some y) = (y.1, refl)

-- a country's page has the characters of 037
pub national_onto : (country : Country) (c : ℕ) → is_some (national_byte country c) ≡ is_some (byte_of c)
unfolding national_byte
national_onto country c = go (by_char (changes_of country) c) refl
  where
    go : (x : Option Change) → by_char (changes_of country) c ≡ x
        → is_some (option_map_or (λ change. Some change.0) x (byte_of c)) ≡ is_some (byte_of c)
    go None e = refl
    go (Some x) e =
        let h : _ = of_char (changes_of country) (all_apart country) c x e in
        some (byte_of c) (rw h.0 at h.1.byte_moves)
      where
        some : (o : Option ℕ) → is_some (option_and_then (by_byte (changes_of country)) o) ≡ true → true ≡ is_some o
        some (Some b) moves = refl
        some None moves = absurd (cc)
