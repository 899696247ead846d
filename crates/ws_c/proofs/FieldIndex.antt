-- The index of a cell's field, as the fields are passed in screen order.
use Rattle.std.proofs.Common.{◌≡◌, ℕ, ◌+◌, ◌<◌, ◌≤◌, List, [], ◌∷◌, Bool, true, false, ◌&&◌, if◌then◌else◌, nat_le}
use Rattle.std.proofs.Common.{length, get_or, refl, sym, ap, ◌∙◌, subst, arith}
use Rattle.std.proofs.lemmas.Bool.{lt-leb}
use borrow.Author.Tests.{le-ltb}
use Rattle.ws_screen.specs.ScreenParts.{AreApart}
use Rattle.ws_screen.specs.declared.field.Field.{Field}
use Rattle.ws_c.specs.Calls.{index_from}
use Rattle.ws_c.specs.Cells.{AreInOrder, EndsBehind, IsPast, IsPassed}

-- no field from a place on holds a cell before that
none_from : (i low c : ℕ) (fs : List Field) → AreApart low fs → c < low → index_from i fs c ≡ 0xFFFF
none_from i low c [] apart small = refl
none_from i low c (f ∷ fs) apart small =
    rw (lt-leb f.start c (omega (arith, apart.0, small)))
    (none_from (i + 1) (f.start + f.length) c fs apart.2 (omega (arith, apart.0, small)))

-- a cell before the first field is in none
pub before_first : (i c : ℕ) (f : Field) (fs : List Field) → AreInOrder (f ∷ fs) → c < f.start
    → index_from i (f ∷ fs) c ≡ 0xFFFF
before_first i c f fs o small =
    rw (lt-leb f.start c small) (none_from (i + 1) (f.start + f.length) c fs o.1.2 (omega (arith, small)))

-- the same of any list that isn't empty
pub before_ahead : (ahead : List Field) (index c : ℕ) (f : Field) → AreInOrder ahead → 1 ≤ length ahead
    → f ≡ get_or ahead 0 f → c < f.start → 0xFFFF ≡ index_from index ahead c
before_ahead [] index c f ordered some is small = absurd (omega (arith, some))
before_ahead (g ∷ gs) index c f ordered some is small = sym (before_first index c g gs ordered
    (omega (arith, small, ap (λ (z : Field). z.start) is)))

-- behind its end a field holds no cell
passes_first : (i c : ℕ) (f : Field) (fs : List Field) → f.start + f.length ≤ c
    → index_from i (f ∷ fs) c ≡ index_from (i + 1) fs c
passes_first i c f fs ends = rw (le-ltb c (f.start + f.length) ends) (go (nat_le f.start c))
  where
    go : (t : Bool) → (if t && false then i else index_from (i + 1) fs c) ≡ index_from (i + 1) fs c
    go true = refl
    go false = refl

-- one field more is passed
pub past_one : (all ahead behind : List Field) (place next index : ℕ) → IsPast all place index ahead
    → place ≤ next → IsPassed next ahead behind → IsPast all next (index + 1) behind
past_one all ahead behind place next index past later passed = record {
  in_order = (passed.field.start + passed.field.length, ordered.1.2);
  few = omega (arith, past.few, ap (λ (l : List Field). length l) passed.first);
  same = λ c h. past.same c (omega (arith, later, h)) ∙ ap (λ (l : List Field). index_from index l c) passed.first
      ∙ passes_first index c passed.field behind (omega (arith, passed.ends, h));
}
  where
    ordered : AreInOrder (passed.field ∷ behind)
    ordered = subst AreInOrder passed.first past.in_order

-- none is
pub past_on : (all ahead : List Field) (place next index : ℕ) → IsPast all place index ahead → place ≤ next
    → IsPast all next index ahead
past_on all ahead place next index past later = record {
  in_order = past.in_order;
  few = past.few;
  same = λ c h. past.same c (omega (arith, later, h));
}

-- where a field ends with a cell, the one behind it ends later
pub ends_later : (ahead behind : List Field) (c next : ℕ) → next ≡ c + 1 → AreInOrder ahead → EndsBehind c ahead
    → IsPassed next ahead behind → EndsBehind next behind
ends_later ahead behind c next e ordered ends passed =
    go behind (subst AreInOrder passed.first ordered) (subst (EndsBehind c) passed.first ends)
  where
    go : (fs : List Field) → AreInOrder (passed.field ∷ fs) → EndsBehind c (passed.field ∷ fs) → EndsBehind next fs
    go [] o h = tt
    go (g ∷ gs) o h = omega (arith, e, h, o.1.2.0, o.1.2.1)
