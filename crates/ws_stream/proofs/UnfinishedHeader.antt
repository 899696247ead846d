-- What a machine within a Start of Header needs.
use Rattle.std.specs.Prelude.{◌≡◌, ◌≢◌, ℕ, zero, suc, ◌+◌, ◌-◌, ◌<◌, ◌≤◌, List, [], ◌∷◌, ◌++◌, length, replicate}
use Rattle.std.specs.Prelude.{slice_index, true, refl}
use Rattle.std.proofs.Common.{sym, ap, ◌∙◌, subst, arith, length-append}
use Rattle.std.proofs.lemmas.List.{length-replicate}
use Rattle.ws_code.specs.Code.{IsSpelled, IsUnfinished, AreBytes}
use Rattle.ws_code.proofs.CodeLaws.{AreBytes-append, AreBytes-front, zeros_are}
use Rattle.ws_stream.specs.ElementLaws.{first, no_code}
use Rattle.ws_stream.specs.Elements.{element_rules, spelling, IsElement, allows_orders}
use Rattle.ws_stream.specs.Parts.{IsSoh}
use Rattle.ws_stream.specs.declared.element.Element.{Element}
use Rattle.ws_stream.specs.declared.element.Element.TheVariants.{Soh, Put}
use Rattle.ws_stream.specs.declared.place.Place.{Place}
use Rattle.ws_stream.proofs.Unfinished.{order_allowed}

-- SOH
pub soh_begins : (place : Place) → allows_orders place ≡ true → IsUnfinished element_rules place (0x01 ∷ [])
soh_begins place allowed =
    record {
      unit = Soh [];
      next = 0;
      rest = [];
      stands = record { is_unit = ((omega arith, refl), tt); may_follow = allowed };
      spelled = refl;
    }

zeros : (n i : ℕ) → slice_index (replicate n 0) i ≡ 0
zeros zero i = refl
zeros (suc n) zero = refl
zeros (suc n) (suc i) = zeros n i

third_front : (xs ys : List ℕ) → slice_index (xs ++ ys) 2 ≡ 0 → slice_index xs 2 ≡ 0
third_front [] ys h = refl
third_front (a ∷ []) ys h = refl
third_front (a ∷ b ∷ []) ys h = refl
third_front (a ∷ b ∷ c ∷ xs) ys h = h

third_filled : (xs : List ℕ) (n : ℕ) → slice_index xs 2 ≡ 0 → slice_index (xs ++ replicate n 0) 2 ≡ 0
third_filled [] n h = zeros n 2
third_filled (a ∷ []) n h = zeros n 1
third_filled (a ∷ b ∷ []) n h = zeros n 0
third_filled (a ∷ b ∷ c ∷ xs) n h = h

pub third_more : (xs : List ℕ) (b : ℕ) → slice_index xs 2 ≡ 0 → (length xs ≡ 2 → b ≡ 0)
    → slice_index (xs ++ b ∷ []) 2 ≡ 0
third_more [] b h k = refl
third_more (a ∷ []) b h k = refl
third_more (a ∷ c ∷ []) b h k = k refl
third_more (a ∷ c ∷ d ∷ xs) b h k = h

in_soh : (u : Element) (rest : List ℕ) → IsElement u → spelling u ≡ 0x01 ∷ rest
    → (bytes : List ℕ) × IsSoh bytes × AreBytes bytes × (length bytes ∷ bytes ≡ rest)
in_soh (Soh bytes) rest h e = (bytes, h.0, h.1, cc)
in_soh (Put b) rest h e = no_code b 0x01 h (ap first e) refl
in_soh u rest h e = absurd (omega (arith, ap first e))

-- what is known of an SOH's bytes so far
pub record IsSohSoFar (count : ℕ) (xs : List ℕ) : Type 0 where
  pub few : count ≤ 7
  pub more : length xs < count
  pub third : slice_index xs 2 ≡ 0
  pub bytes : AreBytes xs

pub soh_so_far : (place : Place) (count : ℕ) (xs : List ℕ) → IsUnfinished element_rules place (0x01 ∷ count ∷ xs)
    → IsSohSoFar count xs
soh_so_far place count xs u =
    let found : (ys : List ℕ) × IsSoh ys × AreBytes ys × (length ys ∷ ys ≡ count ∷ xs ++ u.next ∷ u.rest) =
    in_soh u.unit _ u.stands.is_unit u.spelled in
    let spelled : length found.0 ∷ found.0 ≡ count ∷ xs ++ u.next ∷ u.rest = found.3 in
    let n : length found.0 ≡ count = ap first spelled in
    let l : found.0 ≡ xs ++ u.next ∷ u.rest = cc in
    record {
      few = omega (arith, n, found.1.0);
      more = omega (arith, n, ap length l, length-append xs (u.next ∷ u.rest));
      third = third_front xs (u.next ∷ u.rest) (subst (λ (l : List ℕ). slice_index l 2 ≡ 0) l found.1.1);
      bytes = AreBytes-front xs (u.next ∷ u.rest) (subst AreBytes l found.2);
    }

pub soh_goes_on : (place : Place) (count : ℕ) (xs : List ℕ) → allows_orders place ≡ true → IsSohSoFar count xs
    → IsUnfinished element_rules place (0x01 ∷ count ∷ xs)
soh_goes_on place count xs allowed known =
    let k = count - length xs - 1 in
    let all : length (xs ++ replicate (suc k) 0) ≡ count = length-append xs (replicate (suc k) 0)
    ∙ ap (λ n. length xs + n) (length-replicate (suc k) 0) ∙ omega (arith, known.more) in
    record {
      unit = Soh (xs ++ replicate (suc k) 0);
      next = 0;
      rest = replicate k 0;
      stands = record {
        is_unit = (
          (omega (arith, all, known.few), third_filled xs (suc k) known.third),
          AreBytes-append xs (replicate (suc k) 0) known.bytes (zeros_are (suc k)),
        );
        may_follow = allowed;
      };
      spelled = ap (λ (n : ℕ). 0x01 ∷ n ∷ xs ++ replicate (suc k) 0) all;
    }

-- SOH, a byte more
third_known : (place : Place) (count : ℕ) (xs : List ℕ) (b : ℕ) → IsUnfinished element_rules place (0x01 ∷ count ∷ xs)
    → (length xs ≡ 2 → b ≡ 0) → b < 256 → (IsSoh (xs ++ b ∷ [])) × AreBytes (xs ++ b ∷ [])
third_known place count xs b u third h =
    let known = soh_so_far place count xs u in (
      (omega (arith, known.few, known.more, length-append xs (b ∷ [])), third_more xs b known.third third),
      AreBytes-append xs (b ∷ []) known.bytes (h, tt),
    )

pub soh_more : (place : Place) (count : ℕ) (xs ys : List ℕ) (b : ℕ)
    → IsUnfinished element_rules place (0x01 ∷ count ∷ xs) → (length xs ≡ 2 → b ≡ 0) → b < 256 → ys ≡ xs ++ b ∷ []
    → length ys ≢ count → (0x01 ∷ count ∷ ys ≡ 0x01 ∷ count ∷ xs ++ b ∷ []) × IsUnfinished element_rules place
    (0x01 ∷ count ∷ xs ++ b ∷ [])
soh_more place count xs ys b u third h items ne =
    let known = soh_so_far place count xs u in
    let whole = third_known place count xs b u third h in
    let less : length (xs ++ b ∷ []) < count =
    omega (arith, known.more, length-append xs (b ∷ []), ap length items, ne) in (
      ap (λ (l : List ℕ). 0x01 ∷ count ∷ l) items,
      soh_goes_on place count (xs ++ b ∷ []) (order_allowed place 0x01 (count ∷ xs) (omega arith) u)
          (record { few = known.few; more = less; third = whole.0.1; bytes = whole.1 }),
    )

pub soh_whole : (place : Place) (count : ℕ) (xs ys zs : List ℕ) (b : ℕ)
    → IsUnfinished element_rules place (0x01 ∷ count ∷ xs) → (length xs ≡ 2 → b ≡ 0) → b < 256 → ys ≡ xs ++ b ∷ []
    → length ys ≡ count → zs ≡ ys → IsSpelled element_rules place (0x01 ∷ count ∷ xs ++ b ∷ []) (Soh zs)
soh_whole place count xs ys zs b u third h items n same =
    let whole = third_known place count xs b u third h in
    let all : zs ≡ xs ++ b ∷ [] = same ∙ items in
    subst (λ (l : List ℕ). IsSpelled element_rules place (0x01 ∷ count ∷ xs ++ b ∷ []) (Soh l)) (sym all) (record {
      stands = record {
        is_unit = (whole.0, whole.1);
        may_follow = order_allowed place 0x01 (count ∷ xs) (omega arith) u;
      };
      spelled = ap (λ (n : ℕ). 0x01 ∷ n ∷ xs ++ b ∷ []) (sym (ap length items) ∙ n);
    })

pub soh_counted : (place : Place) (b : ℕ) (items : List ℕ) → IsUnfinished element_rules place (0x01 ∷ []) → b ≤ 7
    → b ≢ 0 → items ≡ [] → (0x01 ∷ b ∷ items ≡ 0x01 ∷ b ∷ []) × IsUnfinished element_rules place (0x01 ∷ b ∷ [])
soh_counted place b items u few ne empty = (
  ap (λ (l : List ℕ). 0x01 ∷ b ∷ l) empty,
  soh_goes_on place b [] (order_allowed place 0x01 [] (omega arith) u)
      (record { few = few; more = omega (arith, ne); third = refl; bytes = tt }),
)
