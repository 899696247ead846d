use Rattle.std.specs.Prelude.{IfSome}
use Rattle.std.proofs.Common.{◌≡◌, ℕ, ◌+◌, ◌-◌, ◌≤◌, Bool, true, false, List, [], ◌∷◌, ◌++◌, Option, Some}
use Rattle.std.proofs.Common.{None, inl, inr, length, take, drop, refl, sym, ap, ◌∙◌, subst, arith, append_assoc}
use Rattle.std.proofs.Common.{length-append, take-append-drop}
use Rattle.std.proofs.Math.Seq.{take-append-add}
use Rattle.std.proofs.lemmas.Bool.{cases_lt, cases_order}
use Rattle.std.proofs.lemmas.List.{append-nil, take-take, take_all}
use Rattle.ws_code.specs.Code.{Rules, IsPrefixFree}
use Rattle.ws_code.specs.declared.reason.Reason.{Reason}
use Rattle.ws_code.proofs.CodeLaws.{Begins}
use Rattle.ws_code.proofs.Lists.{same_last}
use Rattle.ws_telnet.specs.Streams.{IsStream}
use Rattle.ws_record.specs.Refusal.{Layer, IsRight, IsOpen, IsFirstClosed, IsRefused}
use Rattle.ws_record.specs.Refusal.Layer.{Tokens, Header, Body}
use Rattle.ws_record.specs.declared.record.Item.{Item}
use Rattle.ws_record.proofs.Fronts.{one_holding}
use Rattle.ws_program.specs.StreamText.{showing, View, Placed, items_without_places, lines_of, lines_with, HoldsItems}
use Rattle.ws_printing.specs.CheckLine.{line_of}
use Rattle.ws_program.specs.StreamText.{IsComplete, AreShown, IsShown, AreFirstLines, IsEnd}
use Rattle.ws_printing.specs.declared.verdict.Verdict.TheVariants.{Refused}
use Rattle.ws_program.proofs.FrontItems.{front_items}

-- A part of what is shown begins the whole.

-- items and one more don't begin them
not_longer : {A : Type 0} {X : Type 0} (items later : List X) (x : X) → items ≡ (items ++ x ∷ []) ++ later → A
not_longer items later x e = absurd (omega (
  arith,
  ap length e,
  length-append (items ++ x ∷ []) later,
  length-append items (x ∷ []),
))

module _ {Place U : Type 0} (rules : Rules Place U) (prefix_free : IsPrefixFree rules) (begins_all : Begins rules)
    (view : View U) where
  -- the items of fewer bytes begin those of more
  items_begin : (bytes : List ℕ) (few many : ℕ) (items all : List (Item U)) → few ≤ many → HoldsItems rules
      (take few bytes) items → HoldsItems rules (take many bytes) all → (later : List (Item U)) × (all ≡ items ++ later)
  items_begin bytes few many items all le h k =
      let split : take few bytes ++ drop few (take many bytes) ≡ take many bytes = ap
      (λ z. z ++ drop few (take many bytes)) (sym (take-take few many bytes le)) ∙ take-append-drop few
      (take many bytes) in
      front_items rules prefix_free begins_all (take few bytes) (drop few (take many bytes)) items all h
      (subst (λ (z : List ℕ). HoldsItems rules z all) (sym split) k)

  -- bytes that hold no item more hold none that is complete before
  pub none_complete : {A : Type 0} (bytes : List ℕ) (n : ℕ) (items : List (Item U)) (x : Placed U) → HoldsItems rules
      (take n bytes) items → x.0 + 1 ≤ n → IsComplete rules bytes items x → A
  none_complete bytes n items x held le c = let found = items_begin bytes (x.0 + 1) n
      (items ++ x.1 ∷ []) items le c.with_it held in not_longer items found.0 x.1 found.1

  pub one_next : (bytes : List ℕ) (items : List (Item U)) (x y : Placed U) → IsComplete rules bytes items x
      → IsComplete rules bytes items y → x ≡ y
  one_next bytes items x y c d = elim (cases_order x.0 y.0) [
    | inr other ↦ elim other [
      | inl less ↦ none_complete bytes y.0 items x d.not_before (omega (arith, less)) c
      | inr more ↦ none_complete bytes x.0 items y c.not_before (omega (arith, more)) d
    ]
    | inl same ↦
        (let whole = subst (λ (n : ℕ). HoldsItems rules (take (n + 1) bytes) (items ++ x.1 ∷ [])) same c.with_it in
        let item : x.1 ≡ y.1 = (same_last items items x.1 y.1 (one_holding rules prefix_free begins_all
        (take (y.0 + 1) bytes) (items ++ x.1 ∷ []) (items ++ y.1 ∷ []) whole d.with_it)).1 in
        ap (λ (n : ℕ). let p : Placed U = (n, x.1) in p) same ∙ ap (λ (i : Item U). let p : Placed U = (y.0, i) in
        p) item)
  ]

  -- Behind the items of a whole text no item is complete, but one that the screen refuses and that is shown.
  abbrev EndsBehind : List ℕ → List (Item U) → List ℕ → Type 0
  EndsBehind bytes items end = (x : Placed U) → IsComplete rules bytes items x → (reason : Reason)
      × (view.fault items x.1 ≡ Some reason) × ((rest : List ℕ) × (end ≡ view.lines x.0 x.1 ++ rest))

  -- a front of open bytes is open
  front_open : (layer : Layer) (front more : List ℕ) → IsOpen rules layer (front ++ more) → IsOpen rules layer front
  front_open layer front more o = record {
    more = more ++ o.more;
    stream = subst (IsStream (IsRight rules layer))
        (append_assoc front more o.more) o.stream;
  }

  closed_layer : (layer : Layer) (bytes : List ℕ) → IsFirstClosed rules layer bytes
      → ((l : Layer) → IsOpen rules l bytes) → ⊥
  closed_layer Tokens bytes c o = c (o Tokens)
  closed_layer Header bytes c o = c.1 (o Header)
  closed_layer Body bytes c o = c.1 (o Body)

  -- no item that is complete in bytes that no layer refuses ends behind a refused byte
  before_refused : (bytes : List ℕ) (place : ℕ) (reason : Reason) (items : List (Item U)) (x : Placed U)
      → IsRefused rules bytes place reason → IsComplete rules bytes items x → x.0 + 1 ≤ place
  before_refused bytes place reason items x r c = elim (cases_lt x.0 place) [
    | inl h ↦ omega (arith, h)
    | inr h ↦ behind (omega (arith, h))
  ]
    where
      behind : place + 1 ≤ x.0 + 1 → x.0 + 1 ≤ place
      behind le =
          let all : (r.before ++ r.byte ∷ []) ++ r.after ≡ bytes = append_assoc r.before (r.byte ∷ []) r.after
          ∙ sym r.split in
          let size : length (r.before ++ r.byte ∷ []) ≡ place + 1 = omega (
            arith,
            length-append r.before (r.byte ∷ []),
            r.at_place,
          ) in
          let k : ℕ = x.0 - place in
          let front : take (x.0 + 1) bytes ≡ (r.before ++ r.byte ∷ []) ++ take k r.after =
          ap (take (x.0 + 1)) (sym all) ∙ ap (λ n. take n ((r.before ++ r.byte ∷ []) ++ r.after))
          (let q : x.0 + 1 ≡ length (r.before ++ r.byte ∷ []) + k = omega (arith, size, le) in q)
          ∙ take-append-add (r.before ++ r.byte ∷ []) r.after k in
          absurd (closed_layer r.layer (r.before ++ r.byte ∷ []) r.closed (λ l. front_open l (r.before ++ r.byte ∷ [])
          (take k r.after) (subst (λ (z : List ℕ). IsOpen rules l z) front (c.opened l))))

  -- the end of a whole text
  ends_behind : (bytes : List ℕ) (placed : List (Placed U)) (accepted : Bool) (end : List ℕ)
      → IsEnd (showing rules view) bytes placed accepted end → EndsBehind bytes (items_without_places placed) end
  ends_behind bytes placed true end e x c = none_complete bytes (length bytes) (items_without_places placed) x
      (subst (λ (z : List ℕ). HoldsItems rules z (items_without_places placed)) (sym (take_all (length bytes) bytes
      (omega arith)))
      ([], [], e.0)) (omega (arith, c.within)) c
  ends_behind bytes placed false end (inl e) x c = none_complete bytes (length bytes)
      (items_without_places placed) x
      (subst (λ (z : List ℕ). HoldsItems rules z (items_without_places placed)) (sym (take_all (length bytes) bytes
      (omega arith)))
      e.1) (omega (arith, c.within)) c
  ends_behind bytes placed false end (inr (inl e)) x c = none_complete bytes e.0 (items_without_places placed) x e.3
      (before_refused bytes e.0 e.1 (items_without_places placed) x e.2 c) c
  ends_behind bytes placed false end (inr (inr e)) x c =
      let same : e.0 ≡ x = one_next bytes (items_without_places placed) e.0 x e.2 c in (
        e.1,
        subst (λ (y : Placed U). view.fault (items_without_places placed) y.1 ≡ Some e.1) same e.3,
        (
          line_of (Refused e.0.0 e.1) (length bytes),
          e.4 ∙ ap (λ (y : Placed U). view.lines y.0 y.1
              ++ line_of (Refused e.0.0 e.1) (length bytes)) same,
        ),
      )

  lines_on : (x : Placed U) (part : List (Placed U)) (last : Option (Placed U)) → lines_with view (x ∷ part) last
      ≡ view.lines x.0 x.1 ++ lines_with view part last
  lines_on x part None = refl
  lines_on x part (Some y) = append_assoc (view.lines x.0 x.1) (lines_of view part) (view.lines y.0 y.1)

  complete_on : (bytes : List ℕ) (before : List (Item U)) (x : Placed U) (part : List (Placed U))
      (last : Option (Placed U)) → IfSome last (IsComplete rules bytes (before ++ items_without_places (x ∷ part)))
      → IfSome last (IsComplete rules bytes ((before ++ x.1 ∷ []) ++ items_without_places part))
  complete_on bytes before x part None c = tt
  complete_on bytes before x part (Some y) c = subst (λ (z : List (Item U)). IsComplete rules bytes z y)
      (sym (append_assoc before (x.1 ∷ []) (items_without_places part))) c

  -- so the items of a part, and one more that it may have, begin those of the whole
  begins : (bytes : List ℕ) (before : List (Item U)) (part whole : List (Placed U)) (last : Option (Placed U))
      (end : List ℕ) → AreShown (showing rules view) bytes before part
      → IfSome last (IsComplete rules bytes (before ++ items_without_places part)) → AreShown
      (showing rules view) bytes before whole
      → EndsBehind bytes (before ++ items_without_places whole) end
      → (rest : List ℕ) × (lines_of view whole ++ end ≡ lines_with view part last ++ rest)
  begins bytes before [] whole None end p c w e = (lines_of view whole ++ end, refl)
  begins bytes before [] [] (Some x) end p c w e = (e x c).2
  begins bytes before [] (y ∷ whole) (Some x) end p c w e =
      let same : y ≡ x = one_next bytes before y x w.0 (subst (λ (z : List (Item U)). IsComplete rules bytes z x)
      (append-nil before) c) in (
        lines_of view whole ++ end,
        append_assoc (view.lines y.0 y.1) (lines_of view whole) end
            ∙ ap (λ (z : Placed U). view.lines z.0 z.1 ++ (lines_of view whole ++ end)) same,
      )
  begins bytes before (x ∷ part) [] last end p c w e =
      let found = e x (subst (λ (z : List (Item U)). IsComplete rules bytes z x) (sym (append-nil before)) p.0) in
      let none : view.fault before x.1 ≡ None = p.1 in
      let some : view.fault before x.1 ≡ Some found.0 = ap (λ (z : List (Item U)). view.fault z x.1)
      (sym (append-nil before)) ∙ found.1 in cc
  begins bytes before (x ∷ part) (y ∷ whole) last end p c w e =
      let same : y ≡ x = one_next bytes before y x w.0 p.0 in
      let on : (z : Placed U) → y ≡ z → AreShown (showing rules view) bytes (before ++ z.1 ∷ []) whole = λ z same. subst
      (λ (z : Placed U). AreShown (showing rules view) bytes (before ++ z.1 ∷ []) whole) same w.2 in
      let ends : (z : Placed U) → y ≡ z → EndsBehind bytes ((before ++ z.1 ∷ [])
      ++ items_without_places whole) end = λ z same.
      subst (λ (z : Placed U). EndsBehind bytes ((before ++ z.1 ∷ []) ++ items_without_places whole) end) same
      (subst (λ (k : List (Item U)). EndsBehind bytes k end) (sym (append_assoc before (y.1 ∷ [])
      (items_without_places whole))) e)
      in
      let found = begins bytes (before ++ x.1 ∷ []) part whole last end p.2 (complete_on bytes before x part last c)
      (on x same) (ends x same) in (
        found.0,
        append_assoc (view.lines y.0 y.1) (lines_of view whole) end ∙ ap (λ (z : Placed U). view.lines z.0 z.1
            ++ (lines_of view whole ++ end)) same ∙ ap (λ z. view.lines x.0 x.1 ++ z) found.1
            ∙ sym (append_assoc (view.lines x.0 x.1) (lines_with view part last) found.0) ∙ ap (λ z. z ++ found.0)
            (sym (lines_on x part last)),
      )

  -- a part of what is shown begins the whole
  pub part_begins : (bytes : List ℕ) (accepted : Bool) (whole part : List ℕ) → IsShown
      (showing rules view) bytes accepted whole
      → AreFirstLines (showing rules view) bytes part → (rest : List ℕ) × (whole ≡ part ++ rest)
  part_begins bytes accepted whole part w p =
      let found = begins bytes [] p.placed w.placed p.last w.end p.shown p.complete w.shown
      (ends_behind bytes w.placed accepted w.end w.ends) in
      (found.0, w.lines ∙ found.1 ∙ ap (λ z. z ++ found.0) (sym p.lines))
