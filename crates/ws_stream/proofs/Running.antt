-- From one byte to a run of them.
use Rattle.std.specs.Prelude.{◌≡◌, ◌≢◌, ◌⊎◌, ℕ, List, [], ◌∷◌, ◌++◌, true, false, Option, Some, None, refl}
use Rattle.std.proofs.Common.{inl, inr, sym, ap, subst}
use Rattle.ws_code.specs.Code.{IsSpelled, IsUnfinished}
use Rattle.ws_code.specs.Keep.{Keeper, holds_last, slot_keeper}
use Rattle.ws_code.specs.Run.{Reading, IsAt, RunsOn, IsRunOfValues, intake, reading, with_keep}
use Rattle.ws_code.specs.declared.run.End.{End}
use Rattle.ws_code.specs.declared.run.End.TheVariants.{More, Enough, NoMemory, Bad}
use Rattle.ws_code.proofs.RunLaws.{runs_more, runs_unit, stops, keeps_none, same_reading}
use Rattle.ws_stream.specs.ElementLaws.{element_begins}
use Rattle.ws_stream.specs.Elements.{element_rules}
use Rattle.ws_stream.specs.Machine.{unfinished_in}
use Rattle.ws_stream.specs.Taking.{Takes, reading_of, standing_of, is_inside}
use Rattle.ws_stream.specs.UnfinishedElement.{unfinished_of}
use Rattle.ws_stream.specs.declared.commands.Commands.{Commands}
use Rattle.ws_stream.specs.declared.commands.phase.Phase.{Phase}
use Rattle.ws_stream.specs.declared.commands.phase.Phase.TheVariants.{Begin}
use Rattle.ws_stream.specs.declared.element.Element.{Element}
use Rattle.ws_stream.specs.declared.place.Place.{Place}

-- what is waited for tells whether an element has begun
inside_begun : (phase : Phase) (bytes kinds controls : List ℕ) → is_inside phase ≡ true
    → unfinished_in phase bytes kinds controls ≢ []
inside_begun Begin bytes kinds controls h e = cc
inside_begun phase bytes kinds controls h e = cc

between_none : (phase : Phase) (bytes kinds controls : List ℕ) → is_inside phase ≡ false
    → unfinished_in phase bytes kinds controls ≡ []
between_none Begin bytes kinds controls h = refl
between_none phase bytes kinds controls h = cc

pub stands_so : (m : Commands) → IsUnfinished element_rules m.place (unfinished_of m)
    → IsAt element_rules (reading_of m) (standing_of m)
stands_so m u = record {
  unfinished = u;
  at_place = refl;
  inside = inside_begun m.phase m.bytes m.kinds m.controls;
  between = between_none m.phase m.bytes m.kinds m.controls;
}

module _ {K : Type 0} where
  -- a byte more with which the machine goes on
  pub takes_more : {keeper : Keeper Element K} {from : Reading Place}
      {old : K} {values : List ℕ} {mid : K} (m : Commands) (values' : List ℕ) (b : ℕ) (m' : Commands) (new : K)
      → RunsOn (intake element_rules keeper) (with_keep from old) values (with_keep (reading_of m) mid)
      → Takes keeper (with_keep (reading_of m) mid) b (with_keep m' new) More → values' ≡ values ++ b ∷ []
      → RunsOn (intake element_rules keeper) (with_keep from old) values' (with_keep (reading_of m') new)
  takes_more {keeper} {from} {old} {values} {mid} m values' b m' new on takes more = elim takes [
    | inl h ↦
        runs_more element_rules keeper from old values values' _ _ mid new b on h.0.2 more
        (same_reading _ _ _ _ h.0.0 h.0.1) h.1
    | inr h ↦
        runs_unit element_rules keeper from old values values' _ _ mid new b h.0 on h.1 h.2.keeps
        h.2.answer element_begins more h.2.behind
  ]

  -- a byte more at which it stops
  pub takes_last : {keeper : Keeper Element K} {from : Reading Place}
      {old : K} {values : List ℕ} {mid : K} (m : Commands) (values' : List ℕ) (b : ℕ) (m' : Commands) (new : K)
      (end : End) → RunsOn (intake element_rules keeper) (with_keep from old) values (with_keep (reading_of m) mid)
      → Takes keeper (with_keep (reading_of m) mid) b (with_keep m' new) end → values' ≡ values ++ b ∷ []
      → (end ≡ More → ⊥)
      → IsRunOfValues (intake element_rules keeper) (with_keep from old) values' (with_keep (reading_of m') new)
      (standing_of m') end
  takes_last m values' b m' new More on takes more ne = absurd (ne refl)
  takes_last {keeper} {from} {old} {values} {mid} m values' b m' new Enough on takes more ne =
      elim takes [
        | inl h ↦ absurd h.0
        | inr h ↦
            let place = ap (λ (r : Reading Place). r.place) h.2.behind in
            let begun = ap (λ (r : Reading Place). r.begun) h.2.behind in
            let unfinished = subst (λ (x : List ℕ). IsUnfinished element_rules m'.place x) (sym begun)
            (element_begins m'.place) in (
              stops element_rules keeper from old values values' _ mid b on more,
              h.0,
              h.1,
              h.2.keeps,
              h.2.answer,
              h.2.behind,
              stands_so m' unfinished,
            )
      ]
  takes_last {keeper} {from} {old} {values} {mid} m values' b m' new NoMemory on takes more ne =
      elim takes [
        | inl h ↦ absurd h.0
        | inr h ↦ (
          stops element_rules keeper from old values values' _ mid b on more,
          h.0,
          h.1,
          h.2.keeps,
          h.2.answer,
        )
      ]
  takes_last {keeper} {from} {old} {values} {mid} m values' b m' new (Bad reason) on takes more ne =
      elim takes [
        | inl h ↦ (
          stops element_rules keeper from old values values' _ mid b on more,
          h.0.0,
          h.0.1,
          keeps_none keeper mid new h.1,
        )
        | inr h ↦ absurd h.2
      ]

last_one : (before : List Element) (unit element : Element) → element ∷ [] ≡ before ++ unit ∷ [] → element ≡ unit
last_one [] unit element e = cc
last_one (x ∷ []) unit element e = cc
last_one (x ∷ y ∷ before) unit element e = cc

-- a slot that has a unit has the one that the byte completes
pub slot_full : (place : Place) (begun : List ℕ) (b : ℕ) (m : Commands) (slot : Option Element) (unit : Element)
    (end : End) → Takes slot_keeper (with_keep (reading place begun) None) b (with_keep m slot) end → slot ≡ Some unit
    → IsSpelled element_rules place (begun ++ b ∷ []) unit
slot_full place begun b m slot unit More takes full = elim takes [
  | inl h ↦ let e = h.1 in absurd (cc)
  | inr h ↦ let e = h.2.answer in absurd (cc)
]
slot_full place begun b m slot unit Enough takes full = elim takes [
  | inl h ↦ absurd h.0
  | inr h ↦
      let held : holds_last (Some unit) (h.0 ∷ []) =
      subst (λ (s : Option Element). holds_last s (h.0 ∷ [])) full (h.2.keeps [] [] refl) in
      subst (λ (u : Element). IsSpelled element_rules place (begun ++ b ∷ []) u) (last_one held.0 unit h.0 held.1) h.1
]
slot_full place begun b m slot unit NoMemory takes full = elim takes [
  | inl h ↦ absurd h.0
  | inr h ↦ let e = h.2.answer in absurd (cc)
]
slot_full place begun b m slot unit (Bad reason) takes full = elim takes [
  | inl h ↦ let e = h.1 in absurd (cc)
  | inr h ↦ absurd h.2
]

-- and one that has none went on, or was refused
pub slot_empty : (place : Place) (begun : List ℕ) (b : ℕ) (m : Commands) (slot : Option Element) (end : End)
    → Takes slot_keeper (with_keep (reading place begun) None) b (with_keep m slot) end
    → (end ≡ Enough) ⊎ (end ≡ NoMemory) → slot ≡ None → ⊥
slot_empty place begun b m slot More takes is none = elim is [ inl e ↦ cc | inr e ↦ cc ]
slot_empty place begun b m slot Enough takes is none = elim takes [
  | inl h ↦ h.0
  | inr h ↦
      let held : h.0 ∷ [] ≡ [] = subst (λ (s : Option Element). holds_last s (h.0 ∷ [])) none (h.2.keeps [] [] refl) in
      cc
]
slot_empty place begun b m slot NoMemory takes is none = elim takes [
  | inl h ↦ h.0
  | inr h ↦ let e = h.2.answer in cc
]
slot_empty place begun b m slot (Bad reason) takes is none = elim is [ inl e ↦ cc | inr e ↦ cc ]
