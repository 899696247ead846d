-- What a machine between the bytes of a part of an answer needs.
use Rattle.std.proofs.Common.{◌≡◌, ℕ, ◌+◌, ◌-◌, ◌*◌, ◌≤◌, ◌<◌, ◌/◌, ◌%◌, List, [], ◌∷◌, ◌++◌, Bool, true, false, refl}
use Rattle.std.proofs.Common.{sym, ap, ◌∙◌, subst, arith, take, drop, get_or, nat_le, nat_lt, ◌&&◌, ◌||◌}
use Rattle.std.proofs.lemmas.Bool.{false≢true}
use Rattle.std.proofs.lemmas.List.{get_or_default}
use borrow.Author.Tests.{ltb-true}
use Rattle.ws_code.specs.Address.{IsRowAndColumn, place_of}
use Rattle.ws_code.specs.Code.{IsPrefix, IsUnfinished, Stands}
use Rattle.ws_code.specs.Run.{reading}
use Rattle.ws_code.specs.Step.{IsStep}
use Rattle.ws_code.specs.declared.code.Push.{Push}
use Rattle.ws_code.specs.declared.code.Push.TheVariants.{More}
use Rattle.ws_stream.specs.AnswerParts.{answer_rules}
use Rattle.ws_stream.specs.Elements.{row_and_column}
use Rattle.ws_stream.specs.declared.answer_place.AnswerPlace.TheVariants as answers
use Rattle.ws_stream.proofs.UnfinishedAddress.{address_bytes}
use Rattle.ws_screen.proofs.Applies.{cut_at, longer_by}
use Rattle.ws_extended.specs.ExtendedAnswerLaws.{element_up}
use Rattle.ws_extended.specs.ExtendedAnswerMachine.{is_waiting, reply_place, waits_at, waits_behind}
use Rattle.ws_extended.specs.ExtendedAnswers.{extended_answer_rules}
use Rattle.ws_extended.specs.ExtendedElements.{extended_rules}
use Rattle.ws_extended.specs.QueryReply.{reply_head}
use Rattle.ws_extended.specs.declared.extended_answer_part.ExtendedAnswerPart.{ExtendedAnswerPart}
use Rattle.ws_extended.specs.declared.extended_answer_part.ExtendedAnswerPart.TheVariants.{Profile, QueryReply, Saved}
use Rattle.ws_extended.specs.declared.extended_answer_part.ExtendedAnswerPart.TheVariants.{Of, AtOnce}
use Rattle.ws_extended.specs.declared.extended_answer_place.ExtendedAnswerPlace.{ExtendedAnswerPlace}
use Rattle.ws_extended.specs.declared.extended_answer_place.ExtendedAnswerPlace.TheVariants.{Beginning, Fields, InSaved}
use Rattle.ws_extended.specs.declared.extended_answers.waits.Waits.{Waits}
use Rattle.ws_extended.specs.declared.extended_answers.waits.Waits.TheVariants.{Front, InElement}
use Rattle.ws_extended.specs.declared.extended_place.ExtendedPlace.{ExtendedPlace}

-- the byte is taken, and what is waited for now is after it
pub part_more : (begun : List ℕ) (b : ℕ) (place : ExtendedAnswerPlace) (waits waits' : Waits) (at : ExtendedPlace)
    (bytes : List ℕ) (result : Push ExtendedAnswerPart) → result ≡ More → waits' ≡ waits → waits_at waits at ≡ place
    → waits_behind waits bytes ≡ begun ++ b ∷ [] → IsUnfinished extended_answer_rules place (begun ++ b ∷ [])
    → IsStep extended_answer_rules (reading place begun) b (reading (waits_at waits' at) (waits_behind waits' bytes))
    result
part_more begun b place waits waits' at bytes result is now same has goes_on =
    subst (λ (r : Push ExtendedAnswerPart). IsStep extended_answer_rules (reading place begun) b
    (reading (waits_at waits' at) (waits_behind waits' bytes)) r) (sym is) (
      ap (λ (w : Waits). waits_at w at) now ∙ same,
      ap (λ (w : Waits). waits_behind w bytes) now ∙ has,
      goes_on,
    )

-- AT THE BEGINNING

-- some cell of a row has these bytes
row_bytes : (row : ℕ) → 1 ≤ row → row_and_column ((row - 1) * 80) ≡ row ∷ 1 ∷ []
row_bytes row low =
    let p = (row - 1) * 80 in
    let r : p / 80 + 1 ≡ row = omega (arith, low) in
    let c : p % 80 + 1 ≡ 1 = omega arith in
    ap (λ (n : ℕ). n ∷ (p % 80 + 1) ∷ []) r ∙ ap (λ (n : ℕ). let l : List ℕ = row ∷ n ∷ [] in l) c

pub row_goes_on : (row : ℕ) → 1 ≤ row → row ≤ 24 → IsUnfinished extended_answer_rules Beginning (row ∷ [])
row_goes_on row low high = record {
  unit = AtOnce ((row - 1) * 80);
  next = 1;
  rest = 0 ∷ [];
  stands = record { is_unit = omega (arith, high); may_follow = refl };
  spelled = ap (λ (l : List ℕ). l ++ 0 ∷ []) (row_bytes row low);
}

pub column_goes_on : (row col to : ℕ) → IsRowAndColumn row col → to ≡ place_of row col
    → (row_and_column to ≡ row ∷ col ∷ []) × IsUnfinished extended_answer_rules Beginning (row ∷ col ∷ [])
column_goes_on row col to h e =
    let bytes : row_and_column to ≡ row ∷ col ∷ [] = address_bytes row col to h e in (
      bytes,
      record {
        unit = AtOnce to;
        next = 0;
        rest = [];
        stands = record { is_unit = omega (arith, e, h.0, h.1, h.2, h.3); may_follow = refl };
        spelled = ap (λ (l : List ℕ). l ++ 0 ∷ []) bytes;
      },
    )

pub saved_goes_on : IsUnfinished extended_answer_rules Beginning (0x04 ∷ 0x12 ∷ 0x04 ∷ [])
saved_goes_on = record {
  unit = Saved;
  next = 0x40;
  rest = [];
  stands = record { is_unit = tt; may_follow = refl };
  spelled = refl;
}

-- A REPLY

reply_follows : (again : Bool) → extended_answer_rules.may_follow (reply_place again) QueryReply ≡ true
reply_follows true = refl
reply_follows false = refl

pub below : (again : Bool) (count : ℕ) → is_waiting (Front again count) ≡ true → count < 8
below again count h = go (nat_lt count 8) refl h
  where
    go : (t : Bool) → nat_lt count 8 ≡ t → (t && (again || nat_le 1 count)) ≡ true → count < 8
    go true e h = ltb-true count 8 e
    go false e h = absurd (false≢true h)

-- its front so far, and the next byte
front_cut : (count : ℕ) → count < 8 → take count reply_head
    ++ get_or reply_head count 0 ∷ drop (count + 1) reply_head ≡ reply_head
front_cut count small = cut_at reply_head count (get_or reply_head count 0) small
    (get_or_default reply_head count 0 (get_or reply_head count 0) small)

pub front_goes_on : (again : Bool) (count b : ℕ) → count < 7 → b ≡ get_or reply_head count 0
    → (take (count + 1) reply_head ≡ take count reply_head ++ b ∷ [])
    × IsUnfinished extended_answer_rules (reply_place again) (take count reply_head ++ b ∷ [])
front_goes_on again count b small is =
    let longer : take (count + 1) reply_head ≡ take count reply_head ++ b ∷ [] =
    longer_by reply_head count b (omega arith) (is ∙ get_or_default reply_head count 0 b (omega arith)) in (
      longer,
      record {
        unit = QueryReply;
        next = get_or reply_head (count + 1) 0;
        rest = drop (count + 1 + 1) reply_head;
        stands = record { is_unit = tt; may_follow = reply_follows again };
        spelled = sym (front_cut (count + 1) (omega arith)) ∙ ap (λ (l : List ℕ). l
            ++ get_or reply_head (count + 1) 0 ∷ drop (count + 1 + 1) reply_head) longer;
      },
    )

-- FIELDS

pub fields_up : (bytes : List ℕ) → IsUnfinished answer_rules answers.Fields bytes
    → IsUnfinished extended_answer_rules Fields bytes
fields_up bytes more = record {
  unit = Profile more.unit;
  next = more.next;
  rest = more.rest;
  stands = record { is_unit = more.stands.is_unit; may_follow = more.stands.may_follow };
  spelled = more.spelled;
}

-- A SAVED SCREEN

-- what stands in it is an element
element_down : (at : ExtendedPlace) (part : ExtendedAnswerPart) (bytes rest : List ℕ)
    → Stands extended_answer_rules (InSaved at) part → extended_answer_rules.spelling part ≡ bytes ++ rest
    → IsPrefix extended_rules at bytes
element_down at (Of e) bytes rest s same = record {
  unit = e;
  rest = rest;
  stands = record { is_unit = s.is_unit; may_follow = s.may_follow };
  spelled = same;
}
element_down at part bytes rest s same = absurd (false≢true s.may_follow)

pub prefix_of_element : (at : ExtendedPlace) (bytes : List ℕ) → IsPrefix extended_answer_rules (InSaved at) bytes
    → IsPrefix extended_rules at bytes
prefix_of_element at bytes front = element_down at front.unit bytes front.rest front.stands front.spelled

pub element_more : (waits : Waits) (at at' : ExtendedPlace) (begun now : List ℕ) (b : ℕ) → waits ≡ InElement
    → (at' ≡ at) × (now ≡ begun ++ b ∷ []) × IsUnfinished extended_rules at (begun ++ b ∷ [])
    → (waits_at waits at' ≡ InSaved at) × (waits_behind waits now ≡ begun ++ b ∷ [])
    × IsUnfinished extended_answer_rules (InSaved at) (begun ++ b ∷ [])
element_more waits at at' begun now b is step = (
  ap (λ (w : Waits). waits_at w at') is ∙ ap (λ (p : ExtendedPlace). InSaved p) step.0,
  ap (λ (w : Waits). waits_behind w now) is ∙ step.1,
  element_up at (begun ++ b ∷ []) step.2,
)
