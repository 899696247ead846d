-- A run of bytes that the profile's machine takes into an empty slot, told of a live host's elements.
use Rattle.std.proofs.Common.{◌≡◌, ◌≢◌, ℕ, List, [], ◌∷◌, ◌++◌, Bool, true, false, Option, None, refl, sym, ap}
use Rattle.std.proofs.Common.{◌∙◌, subst, append_assoc, ◌==◌, if◌then◌else◌, inl, ◌<◌, zero, suc, length, take, arith}
use Rattle.std.proofs.lemmas.List.{take_all}
use borrow.Author.Tests.{eqb-true, ne_eqb}
use Rattle.ws_code.specs.Code.{IsSpelled, IsUnfinished}
use Rattle.ws_code.specs.Keep.{KeepsOne, Keeper, slot_keeper}
use Rattle.ws_code.specs.Run.{Reading, IsAt, IsRunOfValues, RunsOn, StopsAtLast, intake, with_keep}
use Rattle.ws_code.specs.declared.keep.Kept.{Kept}
use Rattle.ws_code.specs.declared.reason.Reason.{Reason}
use Rattle.ws_code.specs.declared.run.End.{End}
use Rattle.ws_code.specs.declared.run.End.TheVariants.{More, Enough, NoMemory, Bad}
use Rattle.ws_code.specs.declared.run.Standing.{Standing}
use Rattle.ws_code.proofs.CodeLaws.{no_end}
use Rattle.ws_code.proofs.RunLaws.{has_last, keeps_none, same_reading}
use Rattle.ws_stream.specs.ElementLaws.{element_begins}
use Rattle.ws_stream.specs.Elements.{allows_orders, element_rules}
use Rattle.ws_stream.specs.Reasons.{command_reason, element_reason}
use Rattle.ws_stream.specs.Taking.{reading_of}
use Rattle.ws_stream.specs.UnfinishedElement.{unfinished_of}
use Rattle.ws_stream.specs.declared.command_code.TheConstants.{ESCAPE}
use Rattle.ws_stream.specs.declared.element.Element.{Element}
use Rattle.ws_stream.specs.declared.element.Element.TheVariants.{ClearUnit}
use Rattle.ws_stream.specs.declared.place.Place.{Place}
use Rattle.ws_extended.specs.ExtendedElements.{extended_rules}
use Rattle.ws_extended.specs.ExtendedLaws.{extended_begins}
use Rattle.ws_extended.specs.ExtendedMachine.{element_begun_in, inner_place}
use Rattle.ws_extended.specs.ExtendedReasons.{extended_reason, is_inner}
use Rattle.ws_extended.specs.ExtendedRuns.{GoesInside, kept_end, reading_by}
use Rattle.ws_extended.specs.declared.extended_commands.ExtendedCommands.{ExtendedCommands}
use Rattle.ws_extended.specs.declared.extended_element.ExtendedElement.{ExtendedElement}
use Rattle.ws_extended.specs.declared.extended_element.ExtendedElement.TheVariants.{Profile}
use Rattle.ws_extended.specs.declared.extended_place.ExtendedPlace.{ExtendedPlace}
use Rattle.ws_extended.specs.declared.extended_place.ExtendedPlace.TheVariants.{InProfile}
use Rattle.ws_extended.proofs.Lifting.{prefix_down, unfinished_down}
use Rattle.ws_extended.proofs.MachineLaws.{escape_begun, inside_reasons, same_place}
use Rattle.ws_extended.proofs.Running.{run_both, run_unit}
use Rattle.ws_extended.proofs.SlotRuns.{IsSlotRun, IsWhole, SlotStop, not_whole, runs_on}

-- where an element of the profile is read, and where a machine stands
abbrev pub up : Reading Place → Reading ExtendedPlace
up reading = record { place = InProfile reading.place; begun = reading.begun }

abbrev pub stands_up : Standing Place → Standing ExtendedPlace
stands_up standing = record { place = InProfile standing.place; is_inside = standing.is_inside }

-- an element of the profile that has begun, and one that is whole
begun_there : (place : Place) (bytes : List ℕ) → IsUnfinished element_rules place bytes
    → IsUnfinished extended_rules (InProfile place) bytes
begun_there place bytes more = record {
  unit = Profile more.unit;
  next = more.next;
  rest = more.rest;
  stands = record { is_unit = more.stands.is_unit; may_follow = more.stands.may_follow };
  spelled = more.spelled;
}

spelled_there : (place : Place) (bytes : List ℕ) (e : Element) → IsSpelled element_rules place bytes e
    → IsSpelled extended_rules (InProfile place) bytes (Profile e)
spelled_there place bytes e whole = record {
  stands = record { is_unit = whole.stands.is_unit; may_follow = whole.stands.may_follow };
  spelled = whole.spelled;
}

pub at_up : (reading : Reading Place) (standing : Standing Place) → IsAt element_rules reading standing
    → IsAt extended_rules (up reading) (stands_up standing)
at_up reading standing at = record {
  unfinished = begun_there reading.place reading.begun at.unfinished;
  at_place = ap InProfile at.at_place;
  inside = at.inside;
  between = at.between;
}

-- a front of what only elements of the profile begin with
front_inner : (place : Place) (bytes more : List ℕ) → is_inner (InProfile place) (bytes ++ more) ≡ true
    → bytes ≢ [] → bytes ≢ ESCAPE ∷ [] → is_inner (InProfile place) bytes ≡ true
front_inner place [] more h some escape = absurd (some refl)
front_inner place (b ∷ []) more h some escape =
    rw (ne_eqb b ESCAPE (λ e. escape (ap (λ (n : ℕ). n ∷ []) e))) refl
front_inner place (b ∷ code ∷ bytes) more h some escape = h

-- there the profile refuses a byte for the same reason
alike : (place : Place) (begun : List ℕ) (b : ℕ) → is_inner (InProfile place) (begun ++ b ∷ []) ≡ true
    → element_reason place begun b ≡ extended_reason (InProfile place) begun b
alike place [] b h = refl
alike place (c ∷ []) b h = go (c == ESCAPE) (command_reason b) _
  where
    go : (t : Bool) (x y : Reason)
        → (if t then x else y) ≡ (if (if t then false else true) then (if t then x else y) else x)
    go true x y = refl
    go false x y = refl
alike place (c ∷ code ∷ begun) b h = inside_reasons (InProfile place) (c ∷ code ∷ begun) b h

module _ {K : Type 0} (keeper : Keeper ExtendedElement K)
    (from : Reading Place) (old : K) where
  quiet : (xs : List ℕ) (to : Reading Place) (slot : Option Element)
      → RunsOn (intake element_rules slot_keeper) (with_keep from None) xs (with_keep to slot)
      → RunsOn (intake extended_rules keeper) (with_keep (up from) old) xs (with_keep (up to) old)
  quiet xs to slot on =
      let same = runs_on element_rules from xs to slot on in
      record {
        run = record {
          units = [];
          chain = tt;
          behind = ap InProfile same.0;
          unfinished = begun_there to.place to.begun on.run.unfinished;
          spelled = same.1;
        };
        kept = keeps_none keeper old old refl;
        on = inl refl;
      }

  abbrev quiet_stop : (values : List ℕ) → SlotStop element_rules from values
      → StopsAtLast (intake extended_rules keeper) (with_keep (up from) old) values
  quiet_stop values s = record {
    front = s.front;
    last = s.last;
    split = s.split;
    before = with_keep (up s.before.read) old;
    on = quiet s.front s.before.read s.before.keep s.on;
  }

  -- no element is whole with the values, and they lead on
  pub inner_more : (values : List ℕ) (to : Reading Place) (standing : Standing Place) (slot : Option Element)
      → IsSlotRun element_rules from values to standing slot More
      → IsRunOfValues (intake extended_rules keeper) (with_keep (up from) old) values (with_keep (up to) old)
      (stands_up standing) More
  inner_more values to standing slot run = (quiet values to slot run.0, at_up to standing run.1)

  -- or the last one is refused
  pub inner_bad : (values rest : List ℕ) (to : Reading Place) (standing : Standing Place) (slot : Option Element)
      (end : End) → IsSlotRun element_rules from values to standing slot end → slot ≡ None → (end ≡ More → ⊥)
      → is_inner (InProfile from.place) (from.begun ++ (values ++ rest)) ≡ true
      → (to' : Reading ExtendedPlace) (standing' : Standing ExtendedPlace)
      → IsRunOfValues (intake extended_rules keeper) (with_keep (up from) old) values (with_keep to' old) standing' end
  inner_bad values rest to standing slot More run none stops inner to' standing' = absurd (stops refl)
  inner_bad values rest to standing slot Enough run none stops inner to' standing' =
      absurd (not_whole element_rules from values to standing slot none run)
  inner_bad values rest to standing slot NoMemory run none stops inner to' standing' = absurd (let e = run.4 in cc)
  inner_bad values rest to standing slot (Bad reason) run none stops inner to' standing' =
      let stop = run.0 in
      let before = stop.before.read in
      let same = runs_on element_rules from stop.front before stop.before.keep stop.on in
      let bytes : List ℕ = before.begun ++ stop.last ∷ [] in
      let split : from.begun ++ (values ++ rest) ≡ bytes ++ rest =
      ap (λ (v : List ℕ). from.begun ++ (v ++ rest)) stop.split
      ∙ sym (append_assoc from.begun (stop.front ++ stop.last ∷ []) rest)
      ∙ ap (λ (v : List ℕ). v ++ rest) (sym (append_assoc from.begun stop.front (stop.last ∷ []))
      ∙ ap (λ (v : List ℕ). v ++ stop.last ∷ []) (sym same.1)) in
      let begins : bytes ≢ ESCAPE ∷ [] = λ e. run.1 (rw e (record {
        unit = ClearUnit;
        rest = 0x40 ∷ [];
        stands = record { is_unit = tt; may_follow = refl };
        spelled = refl;
      })) in
      let there : is_inner (InProfile before.place) bytes ≡ true =
      subst (λ (p : Place). is_inner (InProfile p) bytes ≡ true) (sym same.0)
      (front_inner from.place bytes rest (ap (is_inner (InProfile from.place)) (sym split) ∙ inner)
      (has_last before.begun stop.last) begins) in (
        quiet_stop values stop,
        λ front. run.1 (prefix_down (InProfile before.place) bytes there front),
        run.2 ∙ alike before.place before.begun stop.last there,
        keeps_none keeper old old refl,
      )

  -- or it completes an element, which the keep is given
  pub inner_whole : (values : List ℕ) (to : Reading Place) (standing : Standing Place) (e : Element)
      → IsWhole element_rules from values to standing e → (new : K) (answer : Kept)
      → KeepsOne keeper old new (Profile e) answer → keeper.may_answer answer
      → IsRunOfValues (intake extended_rules keeper) (with_keep (up from) old) values (with_keep (up to) new)
      (stands_up standing) (kept_end answer)
  inner_whole values to standing e whole new answer keeps answers =
      let stop = whole.stop in
      let before = stop.before.read in
      let on = quiet stop.front before stop.before.keep stop.on in
      subst (λ (v : List ℕ). IsRunOfValues (intake extended_rules keeper) (with_keep (up from) old) v
      (with_keep (up to) new) (stands_up standing) (kept_end answer)) (sym stop.split)
      (run_both extended_rules keeper (up from) (up before) old old stop.front on (stop.last ∷ []) (up to)
      (stands_up standing) new (kept_end answer)
      (run_unit extended_rules extended_begins keeper (up before) (up to) old new stop.last (stands_up standing) answer
      (Profile e) on.run.unfinished
      (spelled_there before.place (before.begun ++ stop.last ∷ []) e whole.spelled) keeps answers (ap up whole.behind)
      (at_up to standing whole.is_at)))

-- such a run takes a value at least
pub took_some : (from : Reading Place) (values : List ℕ) (used : ℕ) (to : Reading Place) (standing : Standing Place)
    (slot : Option Element) (end : End) → 0 < length values → (end ≡ More → used ≡ length values)
    → IsSlotRun element_rules from (take used values) to standing slot end → 0 < used
took_some from values used to standing slot More some whole run = omega (arith, some, whole refl)
took_some from values (suc used) to standing slot end some whole run = omega arith
took_some from values zero to standing slot Enough some whole run = absurd (no_end run.0.front run.0.last [] run.0.split)
took_some from values zero to standing slot NoMemory some whole run =
    absurd (no_end run.0.front run.0.last [] run.0.split)
took_some from values zero to standing slot (Bad reason) some whole run =
    absurd (no_end run.0.front run.0.last [] run.0.split)

-- where the profile's machine stands as the whole does, it can take the values
begun_down : (place : Place) (bytes values : List ℕ) → is_inner (InProfile place) (bytes ++ values) ≡ true
    → IsUnfinished extended_rules (InProfile place) bytes → IsUnfinished element_rules place bytes
begun_down place [] values h more = element_begins place
begun_down place (b ∷ []) values h more = go (b == ESCAPE) refl
  where
    go : (t : Bool) → (b == ESCAPE) ≡ t → IsUnfinished element_rules place (b ∷ [])
    go true e = subst (λ (n : ℕ). IsUnfinished element_rules place (n ∷ [])) (sym (eqb-true b ESCAPE e))
        (escape_begun place)
    go false e = unfinished_down (InProfile place) (b ∷ []) (rw e refl) more
begun_down place (b ∷ code ∷ bytes) values h more = unfinished_down (InProfile place) (b ∷ code ∷ bytes) h more

module _ (m : ExtendedCommands) (values : List ℕ) (inside : GoesInside m values) where
  inner_at : (reading_of m.inner).place ≡ inside.place
  inner_at = same_place (reading_of m.inner).place inside.place (m.beside
      ∙ ap (λ (p : ExtendedPlace). allows_orders (inner_place p)) inside.is_place)

  -- both read the same
  pub both_read : up (reading_of m.inner) ≡ reading_by m
  both_read = same_reading (InProfile (reading_of m.inner).place) m.place (unfinished_of m.inner)
      (element_begun_in m.phase (unfinished_of m.inner)) (ap InProfile inner_at ∙ sym inside.is_place) (sym inside.begun)

  pub only_inner : is_inner (InProfile (reading_of m.inner).place) (unfinished_of m.inner ++ values) ≡ true
  only_inner = subst (λ (p : Place). is_inner (InProfile p) (unfinished_of m.inner ++ values) ≡ true) (sym inner_at)
      inside.inner

  pub stands_inside : (at : Standing ExtendedPlace) (standing : Standing Place) → IsAt extended_rules (reading_by m) at
      → standing.place ≡ inner_place m.place → standing.is_inside ≡ at.is_inside
      → IsAt element_rules (reading_of m.inner) standing
  stands_inside at standing is_at place is_inside =
      let there : IsAt extended_rules (up (reading_of m.inner)) at =
      subst (λ (r : Reading ExtendedPlace). IsAt extended_rules r at) (sym both_read) is_at in
      record {
        unfinished = begun_down (reading_of m.inner).place (unfinished_of m.inner) values only_inner there.unfinished;
        at_place = place ∙ ap inner_place inside.is_place ∙ sym inner_at;
        inside = λ e. there.inside (sym is_inside ∙ e);
        between = λ e. there.between (sym is_inside ∙ e);
      }

  -- where all values led on, it is inside an element of the profile
  pub still_inner : (used : ℕ) (to : Reading Place) (standing : Standing Place) (slot : Option Element)
      → used ≡ length values → IsSlotRun element_rules (reading_of m.inner) (take used values) to standing slot More
      → is_inner (InProfile standing.place) to.begun ≡ true
  still_inner used to standing slot all run =
      let on = runs_on element_rules (reading_of m.inner) (take used values) to slot run.0 in
      let bytes : to.begun ≡ unfinished_of m.inner ++ values =
      on.1 ∙ ap (λ (v : List ℕ). unfinished_of m.inner ++ v) (take_all used values (omega (arith, all))) in
      subst (λ (p : Place). is_inner (InProfile p) to.begun ≡ true) (sym (run.1.at_place ∙ on.0))
      (subst (λ (l : List ℕ). is_inner (InProfile (reading_of m.inner).place) l ≡ true) (sym bytes) only_inner)

module _ {K : Type 0} (keeper : Keeper ExtendedElement K)
    (from from' to to' : Reading ExtendedPlace) (same : from ≡ from') (behind : to ≡ to') (old new : K)
    (values : List ℕ) (standing : Standing ExtendedPlace) (end : End) where
  pub run_at : IsRunOfValues (intake extended_rules keeper) (with_keep from old) values (with_keep to new) standing end
      → IsRunOfValues (intake extended_rules keeper) (with_keep from' old) values (with_keep to' new) standing end
  run_at run = rw (← same, ← behind) run
