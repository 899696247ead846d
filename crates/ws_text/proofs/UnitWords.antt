-- The words of units, by what was found of them.

use Rattle.ws_text.proofs.Common.{◌∙◌, ap, ◌≡◌, arith, refl, sym, [], length, ◌∷◌, List, ℕ, ◌++◌, subst, take, ◌+◌, ◌<◌}
use Rattle.ws_text.proofs.Common.{Some, get_or, ◌≤◌, drop, Option, None, take_all, ◌-◌, Bor, MatchOption, suc, zero}
use Rattle.ws_text.proofs.Common.{map-append, ArePairs, AreField, format_and_controls, IsHexByte, IsHexPair, IsNumber}
use Rattle.ws_text.proofs.Common.{codes, AnswerPart, Byte, At, Head, ArePlace, false, true, inl, inr, map, Bool, ◌==◌}
use Rattle.ws_text.proofs.Common.{false≢true, Element, ◌⊎◌}
use Rattle.std.specs.Option.{SomeIff}
use Rattle.std.specs.Str.{bytes_eq}
use Rattle.std.proofs.Math.Seq.{take-suc}
use Rattle.std.proofs.lemmas.Bool.{eqb-true}
use Rattle.std.proofs.lemmas.Slice.Eq.{bytes_eq-Decides}
use Rattle.ws_code.specs.FormatWord.{IsFfw}
use Rattle.ws_stream.specs.FieldOrder.{FieldOrder, IsFieldOrder, HasFormat}
use Rattle.ws_extended.specs.CommandNames.{command_names, look_up_command}
use Rattle.ws_extended.specs.RollParts.{RollParts}
use Rattle.ws_extended.specs.declared.extended_answer_part.ExtendedAnswerPart.{ExtendedAnswerPart}
use Rattle.ws_extended.specs.declared.extended_answer_part.ExtendedAnswerPart.TheVariants as parts
use Rattle.ws_extended.specs.declared.extended_element.ExtendedElement.{ExtendedElement}
use Rattle.ws_text.specs.AnswerWords.{AreHead, IsOnePart}
use Rattle.ws_text.specs.ElementWords.{IsOneElement}
use Rattle.ws_text.specs.ExtendedAnswerWords.{IsOneTold}
use Rattle.ws_text.specs.ExtendedWords.{AreRoll, IsOneExtended}
use Rattle.ws_text.specs.ExtendedWordLaws.{at_once_named, same_told, told_named}
use Rattle.ws_text.specs.WordLaws.{byte_same, field_parts, pairs_same, Fits, one_format, same_format, same_order}
use Rattle.ws_text.proofs.LineWords.{texts}

-- A START OF FIELD

pairs_more : (words : List (List ℕ)) (word : List ℕ) (n : List ℕ) (m : ℕ) → ArePairs words n → IsHexPair word m
    → ArePairs (words ++ word ∷ []) (n ++ m ∷ [])
pairs_more [] word n m a b = (m, [], b, refl, ap (λ z. z ++ m ∷ []) a)
pairs_more (x ∷ words) word n m a b =
    (a.0, a.1 ++ m ∷ [], a.2, pairs_more words word a.1 m a.3 b, ap (λ z. z ++ m ∷ []) a.4)

pub pair_at : (d : Bor (List ℕ)) (words : List (Bor (List ℕ))) (n : List ℕ) (i : ℕ) → ArePairs (texts words) n
    → i < length words → (m : ℕ) × IsHexPair (get_or words i d).now m
pair_at d [] n i a h = absurd (omega (arith, h))
pair_at d (w ∷ words) n zero a h = (a.0, a.2)
pair_at d (w ∷ words) n (suc i) a h = pair_at d words a.1 i a.3 (omega (arith, h))

pub pairs_step : (d : Bor (List ℕ)) (words : List (Bor (List ℕ))) (i : ℕ) (n next : List ℕ) (m : ℕ) → i < length words
    → ArePairs (texts (take i words)) n → IsHexPair (get_or words i d).now m → next ≡ n ++ m ∷ []
    → ArePairs (texts (take (i + 1) words)) next
pairs_step d words i n next m h a b e =
    let next_is : i + 1 ≡ suc i = omega arith in
    let cut : texts (take (i + 1) words) ≡ texts (take i words) ++ (get_or words i d).now ∷ [] =
    ap (λ k. texts (take k words)) next_is ∙ ap texts (take-suc words i d h)
    ∙ map-append (λ w. w.now) (take i words) (get_or words i d ∷ []) in
    rw (e, cut) (pairs_more (texts (take i words)) (get_or words i d).now n m a b)

two_cut : (d : Bor (List ℕ)) (words : List (Bor (List ℕ))) (n : ℕ) → length words ≡ suc (suc n) → texts words
    ≡ texts (take n words) ++ (get_or words n d).now ∷ (get_or words (suc n) d).now ∷ []
two_cut d (a ∷ b ∷ []) zero e = refl
two_cut d (w ∷ words) (suc n) e = ap (λ z. w.now ∷ z) (two_cut d words n (omega (arith, e)))
two_cut d words n e = absurd (omega (arith, e))

pub last_two : (d : Bor (List ℕ)) (words : List (Bor (List ℕ))) → 2 ≤ length words → texts words
    ≡ texts (take (length words - 2) words) ++ (get_or words (length words - 2) d).now
    ∷ (get_or words (length words - 1) d).now ∷ []
last_two d words h =
    let next : suc (length words - 2) ≡ length words - 1 = omega (arith, h) in
    two_cut d words (length words - 2) (omega (arith, h))
    ∙ ap (λ i. texts (take (length words - 2) words) ++ (get_or words (length words - 2) d).now
    ∷ (get_or words i d).now ∷ []) next

-- the first of some numbers, and the others
pub first_of : (pairs now : List ℕ) → now ≡ pairs → 1 ≤ length now → pairs ≡ get_or now 0 0 ∷ drop 1 now
first_of pairs [] e h = absurd (omega (arith, h))
first_of pairs (x ∷ now) e h = sym e

pub fits_none : (pairs now : List ℕ) → now ≡ pairs → length now < 1 → Fits pairs None []
fits_none pairs [] e h = subst (λ (z : List ℕ). Fits z None []) e (refl, refl)
fits_none pairs (x ∷ now) e h = absurd (omega (arith, h))

pub fits_slice : (pairs now : List ℕ) (w : ℕ) → now ≡ pairs → 1 ≤ length now → w ≡ get_or now 0 0
    → Fits pairs (Some w) (take (length now - 1) (drop 1 now))
fits_slice pairs [] w e h f = absurd (omega (arith, h))
fits_slice pairs (x ∷ now) w e h f =
    let whole : take (length (x ∷ now) - 1) now ≡ now = take_all (length (x ∷ now) - 1) now (omega arith) in
    subst (λ (z : List ℕ). Fits z (Some w) (take (length (x ∷ now) - 1) now)) e (ap (λ z. Some z) f, whole)

joined : (pairs : List ℕ) (o : Option ℕ) (controls : List ℕ) → Fits pairs o controls → format_and_controls o controls
    ≡ pairs
joined [] o controls h = ap (λ z. format_and_controls z controls) h.0 ∙ h.1
joined (w ∷ pairs) o controls h = ap (λ z. format_and_controls z controls) h.0 ∙ ap (λ z. w ∷ z) h.1

-- what a field made of parts that were read is
pub made_field : (words front : List (List ℕ)) (a l : List ℕ) (pairs : List ℕ) (f : FieldOrder) (r : Option FieldOrder)
    → words ≡ front ++ a ∷ l ∷ [] → ArePairs front pairs → Fits pairs f.format f.controls → IsHexByte a f.attribute
    → IsNumber l f.length → SomeIff r (IsFieldOrder f) f
    → MatchOption r ((g : FieldOrder) → AreField words g → ⊥) (AreField words)
made_field words front a l pairs f None e p fits attribute length bad = λ g h.
    let parts = field_parts words front a l g e h in
    let same = pairs_same front (format_and_controls g.format g.controls) pairs parts.pairs p in
    let formats = same_format pairs g.format f.format g.controls f.controls
    (one_format g.format g.controls pairs h.legal.formatted same) fits in
    let equal = same_order g f formats.0 formats.1 (byte_same a g.attribute f.attribute parts.attribute attribute)
    (parts.length.2 ∙ sym length.2) in
    bad (subst (λ (z : FieldOrder). IsFieldOrder z) equal h.legal)
made_field words front a l pairs f (Some g) e p fits attribute length good =
    subst (λ (z : FieldOrder). AreField words z) (sym good.1) (record {
      pairs = front;
      attribute = a;
      length = l;
      split = e;
      are_pairs = subst (λ (z : List ℕ). ArePairs front z) (sym (joined pairs f.format f.controls fits)) p;
      is_attribute = attribute;
      is_length = length;
      legal = good.0;
    })

-- no field's format word is a wrong one
pub no_format : (words front : List (List ℕ)) (a l : List ℕ) (pairs : List ℕ) (w : ℕ) (rest : List ℕ) → words ≡ front
    ++ a ∷ l ∷ [] → ArePairs front pairs → pairs ≡ w ∷ rest → ¬ IsFfw w → (f : FieldOrder) → AreField words f → ⊥
no_format words front a l pairs w rest e p is bad f h =
    let parts = field_parts words front a l f e h in
    let same : format_and_controls f.format f.controls ≡ w ∷ rest = pairs_same front _ pairs parts.pairs p ∙ is in
    let fits = one_format f.format f.controls (w ∷ rest) h.legal.formatted same in
    bad (subst (λ (o : Option ℕ). HasFormat o f.controls) fits.0 h.legal.formatted)

-- A PART OF AN ANSWER

pub no_key : (words : List (List ℕ)) (row column hex : List ℕ) → words ≡ row ∷ column ∷ hex ∷ []
    → ((byte : ℕ) → IsHexByte hex byte → ⊥) → (head : ℕ × ℕ) → AreHead words head → ⊥
no_key words row column hex e bad head h = let same : h.0 ≡ hex = cc in bad head.1 (rw same at h.2)

pub no_head : (name : List ℕ) (words : List (List ℕ)) → name ≡ codes "HEAD"
    → ((head : ℕ × ℕ) → AreHead words head → ⊥) → (part : AnswerPart) → IsOnePart name words part → ⊥
no_head name words is bad (Head cursor aid) h = bad (cursor, aid) h.1
no_head name words is bad (At place) h = omega (arith, ap length (sym is ∙ h.0))
no_head name words is bad (Byte byte) h = h

pub no_address : (name : List ℕ) (words : List (List ℕ)) → name ≡ codes "AT"
    → ((place : ℕ) → ArePlace words place → ⊥) → (part : AnswerPart) → IsOnePart name words part → ⊥
no_address name words is bad (Head cursor aid) h = omega (arith, ap length (sym is ∙ h.0))
no_address name words is bad (At place) h = bad place h.1
no_address name words is bad (Byte byte) h = h

-- AN ELEMENT OF A LIVE HOST

module _ {X : Type 0} (word : X → List ℕ) where
  pub no_words : (words : List X) (r : Bool) → r ≡ (length words == 0) → r ≡ true → map word words ≡ []
  no_words [] r is empty = refl
  no_words (x ∷ words) r is empty =
      absurd (omega (arith, eqb-true (length (x ∷ words)) 0 (sym is ∙ empty)))

  pub some_words : (words : List X) (r : Bool) → r ≡ (length words == 0) → r ≡ false → map word words ≡ [] → ⊥
  some_words [] r is some e = false≢true (sym some ∙ is)
  some_words (x ∷ words) r is some e = cc e

-- another name than a Roll's
pub not_roll : (name : List ℕ) (other : Bool) → other ≡ bytes_eq name (codes "ROLL") → other ≡ false
    → name ≡ codes "ROLL" → ⊥
not_roll name other tells unlike roll =
    false≢true (sym unlike ∙ tells ∙ ap (λ (n : List ℕ). bytes_eq n (codes "ROLL")) roll)

module _ (name : List ℕ) (words : List (List ℕ)) (none : (e : Element) → IsOneElement name words e → ⊥) where
  -- no element of the profile, no command by its name alone, and no Roll
  pub not_extended : ((e : ExtendedElement) → words ≡ [] → look_up_command name command_names ≡ Some e → ⊥)
      → ((r : RollParts) → name ≡ codes "ROLL" → AreRoll words r → ⊥)
      → (e : ExtendedElement) → IsOneExtended name words e → ⊥
  not_extended alone roll e (inl h) = none h.0 h.1
  not_extended alone roll e (inr (inl h)) = alone e h.0 h.1
  not_extended alone roll e (inr (inr h)) = roll h.1 h.0 h.2

  -- what a name alone is
  pub named_alone : (other : Bool) → other ≡ bytes_eq name (codes "ROLL") → other ≡ false → (o : Option ExtendedElement)
      → o ≡ look_up_command name command_names → words ≡ []
      → MatchOption o ((e : ExtendedElement) → IsOneExtended name words e → ⊥) (IsOneExtended name words)
  named_alone other tells unlike None is empty =
      not_extended (λ e no_word named. cc (is ∙ named)) (λ r roll are. not_roll name other tells unlike roll)
  named_alone other tells unlike (Some e) is empty = inr (inl (empty, sym is))

  -- no Roll, by that name
  pub no_roll : (o : Option ExtendedElement) → o ≡ None → (same : Bool) → same ≡ bytes_eq name (codes "ROLL")
      → same ≡ true → ((r : RollParts) → AreRoll words r → ⊥)
      → MatchOption o ((e : ExtendedElement) → IsOneExtended name words e → ⊥) (IsOneExtended name words)
  no_roll (Some e) none same tells alike bad = absurd (cc)
  no_roll None none same tells alike bad = not_extended
      (λ e empty named. no_name e (subst (λ (n : List ℕ). look_up_command n command_names ≡ Some e)
      ((bytes_eq-Decides name (codes "ROLL")).0 (sym tells ∙ alike)) named))
      (λ r roll are. bad r are)
    where
      no_name : (e : ExtendedElement) → look_up_command (codes "ROLL") command_names ≡ Some e → ⊥
      no_name e named = cc named

-- WHAT A LIVE HOST'S STATION SENDS

module _ (name : List ℕ) (words : List (List ℕ)) where
  -- no cursor
  pub no_at_once : (name ≡ codes "SCREEN") ⊎ (name ≡ codes "IMMEDIATE") → ((cursor : ℕ) → ArePlace words cursor → ⊥)
      → (part : ExtendedAnswerPart) → IsOneTold name words part → ⊥
  no_at_once is bad (parts.AtOnce cursor) h = bad cursor h.1
  no_at_once is bad parts.QueryReply h = h
  no_at_once is bad (parts.Reply left byte) h = h
  no_at_once is bad p h =
      absurd (omega (arith, same_told name _ _ (told_named name words p h) (at_once_named name is)))

  -- a name of neither
  pub told_either : (name ≡ codes "SAVED" → ⊥) → ((name ≡ codes "SCREEN") ⊎ (name ≡ codes "IMMEDIATE") → ⊥) → (r : Option ExtendedAnswerPart)
      → MatchOption r (((p : AnswerPart) → IsOnePart name words p → ⊥)
      × ((e : ExtendedElement) → IsOneExtended name words e → ⊥)) (IsOneTold name words)
      → MatchOption r ((part : ExtendedAnswerPart) → IsOneTold name words part → ⊥) (IsOneTold name words)
  told_either saved at_once (Some part) h = h
  told_either saved at_once None h = none
    where
      none : (part : ExtendedAnswerPart) → IsOneTold name words part → ⊥
      none (parts.Profile p) is = h.0 p is
      none parts.Saved is = saved is.0
      none (parts.Of e) is = h.1 e is
      none (parts.AtOnce cursor) is = at_once is.0
      none p is = is
