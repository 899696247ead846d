-- A unit that a machine between two reads from bytes into an empty slot.
use Rattle.std.proofs.Common.{◌≡◌, ◌≢◌, ◌<◌, ℕ, List, [], ◌∷◌, ◌++◌, Option, Some, None, refl, sym, ap, ◌∙◌, subst}
use Rattle.std.proofs.Common.{append_assoc, arith, drop, length, length-append, slice_index, take, take-append-drop}
use Rattle.std.proofs.Common.{◌==◌, false, IfSome, SomeIff, unwrap_or}
use Rattle.std.proofs.lemmas.List.{append-nil, take_all}
use Rattle.ws_code.specs.Code.{Rules, Stands, IsChain, IsPrefix, IsPrefixFree, IsUnfinished, spelling_of}
use Rattle.ws_code.specs.Run.{Reading, IsAt}
use Rattle.ws_code.specs.declared.run.End.{End}
use Rattle.ws_code.specs.declared.run.End.TheVariants.{More, Enough, NoMemory, Bad}
use Rattle.ws_code.specs.declared.run.Standing.{Standing}
use Rattle.ws_code.proofs.CodeLaws.{Begins, cut_bad, one_cut}
use Rattle.ws_stream.specs.Elements.{element_rules}
use Rattle.ws_stream.specs.declared.element.Element.{Element}
use Rattle.ws_stream.specs.declared.element.Element.TheVariants.{Put}
use Rattle.ws_stream.specs.declared.place.Place.{Place as APlace}
use Rattle.ws_extended.proofs.SlotRuns.{IsSlotRun, SlotStop, is_whole, not_whole, runs_on}

pub empty : {U : Type 0} (slot : Option U) → ((unit : U) → slot ≡ Some unit → ⊥) → slot ≡ None
empty None none = refl
empty (Some unit) none = absurd (none unit refl)

-- what is behind a spelling is shorter
pub behind_shorter : (xs ys zs : List ℕ) → xs ≢ [] → zs ≡ xs ++ ys → length ys < length zs
behind_shorter [] ys zs some e = absurd (some refl)
behind_shorter (x ∷ xs) ys zs some e = omega (arith, ap length e, length-append xs ys)

-- where the bytes begin with a data byte, the first unit is that byte
pub starts_with : (byte : Option ℕ) (P : Type 0) (xs : List ℕ) → (length xs == 0) ≡ false
    → SomeIff byte P (slice_index xs 0) → IfSome byte (λ b. xs ≡ b ∷ drop 1 xs)
starts_with None P xs some is = tt
starts_with (Some b) P [] some is = absurd (cc)
starts_with (Some b) P (x ∷ xs) some is = ap (λ n. n ∷ xs) (sym is.1)

pub reads_data : (at place : APlace) (b : ℕ) (bytes behind : List ℕ) (unit : Element) → place ≡ at
    → Stands element_rules place (Put b) → place ≡ element_rules.after (Put b) → bytes ≡ b ∷ behind
    → Some (Put b) ≡ Some unit → Stands element_rules at unit × (bytes ≡ element_rules.spelling unit ++ behind)
    × (length behind < length bytes) × (at ≡ element_rules.after unit)
reads_data at place b bytes behind unit same stands after first some =
    let shorter : length behind < length bytes = omega (arith, ap length first) in
    subst (λ (u : Element). Stands element_rules at u × (bytes ≡ element_rules.spelling u ++ behind)
    × (length behind < length bytes) × (at ≡ element_rules.after u))
    (ap (λ (o : Option Element). unwrap_or o unit) some)
    (subst (λ (p : APlace). Stands element_rules p (Put b)) same stands, first, shorter, sym same ∙ after)

module _ {Place U : Type 0} (rules : Rules Place U) (reading : Reading Place) (bytes : List ℕ) (used : ℕ)
    (to : Reading Place) (standing : Standing Place) (slot : Option U) (fresh : reading.begun ≡ []) where
  abbrev Taken : List ℕ
  Taken = take used bytes

  -- the bytes that were taken up to the last
  to_last : (stop : SlotStop rules reading Taken) → stop.before.read.begun ++ stop.last ∷ [] ≡ Taken
  to_last stop = ap (λ (b : List ℕ). b ++ stop.last ∷ [])
      ((runs_on rules reading stop.front stop.before.read stop.before.keep stop.on).1
      ∙ ap (λ (b : List ℕ). b ++ stop.front) fresh) ∙ sym stop.split

  -- the slot has the unit with which the bytes begin
  pub reads_one : (end : End) → IsSlotRun rules reading Taken to standing slot end → (unit : U) → slot ≡ Some unit
      → Stands rules reading.place unit × (bytes ≡ rules.spelling unit ++ drop used bytes)
      × (to ≡ record { place = rules.after unit; begun = [] }) × IsAt rules to standing
  reads_one end run unit some =
      let whole = is_whole rules reading Taken to standing slot end run unit some in
      let stop = whole.stop in
      let on = runs_on rules reading stop.front stop.before.read stop.before.keep stop.on in (
        subst (λ (p : Place). Stands rules p unit) on.0 whole.spelled.stands,
        sym (take-append-drop used bytes)
            ∙ ap (λ (b : List ℕ). b ++ drop used bytes) (sym (whole.spelled.spelled ∙ to_last stop)),
        whole.behind,
        whole.is_at,
      )

  -- or it is empty, and they begin with none
  pub reads_none : IsPrefixFree rules → Begins rules → (end : End)
      → IsSlotRun rules reading Taken to standing slot end → slot ≡ None → (end ≡ More → used ≡ length bytes)
      → (units : List U) → IsChain rules reading.place units → bytes ≡ spelling_of rules units → units ≡ []
  reads_none free begins More run none whole units chain same =
      let on = runs_on rules reading Taken to slot run.0 in
      let all : to.begun ≡ bytes = on.1 ∙ ap (λ (b : List ℕ). b ++ Taken) fresh
      ∙ take_all used bytes (omega (arith, whole refl)) in
      let more : IsUnfinished rules reading.place bytes = subst (λ (p : Place). IsUnfinished rules p bytes) on.0
      (subst (λ (b : List ℕ). IsUnfinished rules to.place b) all run.0.run.unfinished) in
      sym ((one_cut rules free reading.place [] units bytes [] tt chain more (begins _)
      (same ∙ sym (append-nil (spelling_of rules units)))).0)
  reads_none free begins Enough run none whole units chain same =
      absurd (not_whole rules reading Taken to standing slot none run)
  reads_none free begins NoMemory run none whole units chain same = absurd (let e = run.4 in cc)
  reads_none free begins (Bad reason) run none whole units chain same =
      let stop = run.0 in
      let before = stop.before.read in
      let on = runs_on rules reading stop.front before stop.before.keep stop.on in
      absurd (cut_bad rules free begins reading.place [] units before.begun stop.last (drop used bytes) tt chain
      (subst (λ (p : Place). IsUnfinished rules p before.begun) on.0 stop.on.run.unfinished)
      (subst (λ (p : Place). IsPrefix rules p (before.begun ++ stop.last ∷ []) → ⊥) on.0 run.1)
      (sym same ∙ sym (take-append-drop used bytes) ∙ ap (λ (b : List ℕ). b ++ drop used bytes) (sym (to_last stop))
      ∙ append_assoc before.begun (stop.last ∷ []) (drop used bytes)))
