-- What is read of modified fields fits the fields exactly where the tests of it hold.
use Rattle.std.specs.List.{flat_map, list_all}
use Rattle.std.specs.List.Sorted.{IsStrictlyIncreasing}
use Rattle.std.specs.Option.{option_map_or}
use Rattle.std.specs.Prelude.{All, ◌&&◌, nat_le, slice_index}
use Rattle.std.proofs.Common.{◌≡◌, ℕ, zero, suc, ◌+◌, ◌<◌, ◌≤◌, List, [], ◌∷◌, true, false, Option, Some, None, length}
use Rattle.std.proofs.Common.{find, refl, sym, ap, ◌∙◌, subst, arith}
use Rattle.std.proofs.lemmas.Bool.{false≢true, and_parts, and_from, leb-true, le-leb}
use Rattle.std.proofs.lemmas.List.Elements.{All-cons, All-head, All-tail}
use Rattle.ws_stream.specs.declared.answer_part.AnswerPart.{AnswerPart}
use Rattle.ws_screen.specs.Formats.{starts_at}
use Rattle.ws_screen.specs.declared.field.Field.{Field}
use Rattle.ws_keys.specs.Contents.{field_parts, sent_length}
use Rattle.ws_keys.specs.Parsing.{IsFit, addresses, fits_field, is_rising_from}
use Rattle.ws_keys.specs.Splits.{ReadsModified, FitsField}
use Rattle.ws_keys.specs.declared.host_answer.ReadField.{ReadField}
use Rattle.ws_keys.proofs.SplitLaws.{one_list}

fits_to : (fields : List Field) (r : ReadField) → fits_field fields r ≡ true → FitsField fields r
fits_to fields r e = go (find (starts_at r.address) fields) refl e
  where
    go : (o : Option Field) → find (starts_at r.address) fields ≡ o
        → option_map_or (λ f. nat_le (length r.content) (sent_length f)) o false ≡ true → FitsField fields r
    go None q e = absurd (false≢true e)
    go (Some f) q e = (f, q, leb-true (length r.content) (sent_length f) e)

fits_from : (fields : List Field) (r : ReadField) → FitsField fields r → fits_field fields r ≡ true
fits_from fields r h = ap (λ o. option_map_or (λ f. nat_le (length r.content) (sent_length f)) o false) h.1
    ∙ le-leb (length r.content) (sent_length h.0) h.2

all_to : (fields : List Field) (rs : List ReadField) → list_all (fits_field fields) rs ≡ true
    → All (FitsField fields) rs
all_to fields [] e = λ k d small. absurd (omega arith)
all_to fields (r ∷ rs) e = let parts = and_parts (fits_field fields r) (list_all (fits_field fields) rs) e in
    All-cons (FitsField fields) r rs (fits_to fields r parts.0) (all_to fields rs parts.1)

all_from : (fields : List Field) (rs : List ReadField) → All (FitsField fields) rs → list_all (fits_field fields) rs
    ≡ true
all_from fields [] h = refl
all_from fields (r ∷ rs) h =
    and_from (fits_field fields r) (list_all (fits_field fields) rs)
    (fits_from fields r (All-head (FitsField fields) r rs h)) (all_from fields rs (All-tail (FitsField fields) r rs h))

increasing-cons : (x : ℕ) (xs : List ℕ) → (0 < length xs → x < slice_index xs 0) → IsStrictlyIncreasing xs
    → IsStrictlyIncreasing (x ∷ xs)
increasing-cons x xs h rest zero small = let e : 1 ≡ 0 + 1 = omega arith in
    subst (λ n. x < slice_index (x ∷ xs) n) e (h (omega arith))
increasing-cons x xs h rest (suc k) small = let e : suc (k + 1) ≡ suc k + 1 = omega arith in
    subst (λ n. slice_index xs k < slice_index (x ∷ xs) n) e (rest k (omega arith))

increasing-tail : (x : ℕ) (xs : List ℕ) → IsStrictlyIncreasing (x ∷ xs) → IsStrictlyIncreasing xs
increasing-tail x xs h k small = let e : suc k + 1 ≡ suc (k + 1) = omega arith in
    subst (λ n. slice_index xs k < slice_index (x ∷ xs) n) e (h (suc k) (omega arith))

rising_to : (low : ℕ) (rs : List ReadField) → is_rising_from low rs ≡ true
    → (0 < length (addresses rs) → low ≤ slice_index (addresses rs) 0) × IsStrictlyIncreasing (addresses rs)
rising_to low [] e = (λ some. absurd (omega arith), λ k small. absurd (omega arith))
rising_to low (r ∷ rs) e =
    let parts = and_parts (nat_le low r.address) (is_rising_from (r.address + 1) rs) e in
    let rest = rising_to (r.address + 1) rs parts.1 in (
      λ some. leb-true low r.address parts.0,
      increasing-cons r.address (addresses rs) (λ some. let n = rest.0 some in omega (arith, n)) rest.1,
    )

is_rising_from-increasing : (low : ℕ) (rs : List ReadField)
    → (0 < length (addresses rs) → low ≤ slice_index (addresses rs) 0) → IsStrictlyIncreasing (addresses rs)
    → is_rising_from low rs ≡ true
is_rising_from-increasing low [] h inc = refl
is_rising_from-increasing low (r ∷ rs) h inc =
    let e : 0 + 1 ≡ 1 = omega arith in
    and_from (nat_le low r.address) (is_rising_from (r.address + 1) rs) (le-leb low r.address (h (omega arith)))
    (is_rising_from-increasing (r.address + 1) rs
    (λ some. let next : r.address < slice_index (addresses rs) 0 =
    subst (λ n. r.address < slice_index (r.address ∷ addresses rs) n) e (inc 0 (omega arith)) in
    omega (arith, next)) (increasing-tail r.address (addresses rs) inc))

pub fit_to : (fields : List Field) (rs : List ReadField) → (list_all (fits_field fields) rs && is_rising_from 0 rs)
    ≡ true → IsFit fields rs
fit_to fields rs e = let parts = and_parts (list_all (fits_field fields) rs) (is_rising_from 0 rs) e in
    ((rising_to 0 rs parts.1).1, all_to fields rs parts.0)

pub fit_from : (fields : List Field) (rs : List ReadField) → IsFit fields rs
    → (list_all (fits_field fields) rs && is_rising_from 0 rs) ≡ true
fit_from fields rs h = and_from (list_all (fits_field fields) rs) (is_rising_from 0 rs) (all_from fields rs h.1)
    (is_rising_from-increasing 0 rs (λ some. omega arith) h.0)

pub misfit : (fields : List Field) (parts : List AnswerPart) (rs : List ReadField) → parts ≡ flat_map field_parts rs
    → (list_all (fits_field fields) rs && is_rising_from 0 rs) ≡ false → (read : List ReadField)
    → ReadsModified fields parts read → ⊥
misfit fields parts rs e fails read h =
    let same : read ≡ rs = one_list read rs (sym h.0 ∙ e) in
    false≢true (sym fails ∙ fit_from fields rs (subst (λ (l : List ReadField). IsFit fields l) same (h.1, h.2)))
