-- What the profile's answers take and refuse, of the bytes of a live host's station.
use Rattle.std.proofs.Common.{◌≡◌, ◌≢◌, ℕ, ◌+◌, ◌%◌, ◌<◌, List, [], ◌∷◌, ◌++◌, Bool, refl, sym, ap, ◌∙◌, arith, inl}
use Rattle.std.proofs.Common.{inr, if◌then◌else◌, append_assoc}
use Rattle.std.proofs.lemmas.Bool.{false≢true}
use borrow.Author.Tests.{ne_eqb}
use Rattle.ws_code.specs.Code.{IsPrefix, IsUnfinished, Stands}
use Rattle.ws_code.specs.declared.reason.Reason.TheVariants.{StructuredField}
use Rattle.ws_stream.specs.AnswerParts.{answer_rules, part_reason, part_spelling}
use Rattle.ws_stream.specs.ElementLaws.{first}
use Rattle.ws_stream.specs.Elements.{row_and_column}
use Rattle.ws_stream.specs.declared.answer_part.AnswerPart.{AnswerPart}
use Rattle.ws_stream.specs.declared.answer_part.AnswerPart.TheVariants.{Head, Byte, At}
use Rattle.ws_stream.specs.declared.answer_place.AnswerPlace.{AnswerPlace}
use Rattle.ws_stream.specs.declared.answer_place.AnswerPlace.TheVariants as answers
use Rattle.ws_extended.specs.ExtendedAnswerLaws.{third}
use Rattle.ws_extended.specs.ExtendedAnswers.{answer_reason, extended_answer_rules, head_reason}
use Rattle.ws_extended.specs.ToldParts.{BeginsTold, answer_place}
use Rattle.ws_extended.specs.declared.extended_answer_part.ExtendedAnswerPart.{ExtendedAnswerPart}
use Rattle.ws_extended.specs.declared.extended_answer_part.ExtendedAnswerPart.TheVariants.{Profile, QueryReply, Saved}
use Rattle.ws_extended.specs.declared.extended_answer_part.ExtendedAnswerPart.TheVariants.{AtOnce}

-- what begins a part of the profile begins one of a live host's station
part_up : (place : AnswerPlace) (p : AnswerPart) → Stands answer_rules place p
    → Stands extended_answer_rules (answer_place place) (Profile p)
part_up answers.Beginning p s = record { is_unit = s.is_unit; may_follow = s.may_follow }
part_up answers.Fields p s = record { is_unit = s.is_unit; may_follow = s.may_follow }

pub answer_taken : (place : AnswerPlace) (bytes : List ℕ) (b : ℕ) → IsUnfinished answer_rules place bytes
    → IsPrefix answer_rules place (bytes ++ b ∷ [])
    → IsPrefix extended_answer_rules (answer_place place) (bytes ++ b ∷ [])
answer_taken place bytes b more front = record {
  unit = Profile front.unit;
  rest = front.rest;
  stands = part_up place front.unit front.stands;
  spelled = front.spelled;
}

-- a row isn't 00
row_there : (p : AnswerPart) (row : ℕ) (rest : List ℕ) → Stands answer_rules answers.Beginning p
    → part_spelling p ≡ row ∷ rest → row ≢ 0
row_there (Head cursor aid) row rest s same = λ e. absurd (omega (arith, ap first same, e))
row_there (Byte b) row rest s same = absurd (false≢true s.may_follow)
row_there (At place) row rest s same = absurd (false≢true s.may_follow)

-- a head has three bytes
head_short : {A : Type 0} (p : AnswerPart) (a b c d : ℕ) (more rest : List ℕ) → Stands answer_rules answers.Beginning p
    → part_spelling p ≡ a ∷ b ∷ c ∷ (more ++ d ∷ rest) → A
head_short (Head cursor aid) a b c d [] rest s same = absurd (cc)
head_short (Head cursor aid) a b c d (x ∷ more) rest s same = absurd (cc)
head_short (Byte x) a b c d more rest s same = absurd (false≢true s.may_follow)
head_short (At place) a b c d more rest s same = absurd (false≢true s.may_follow)

pub same_answer_reason : (place : AnswerPlace) (bytes : List ℕ) (b : ℕ) → IsUnfinished answer_rules place bytes
    → answer_reason (answer_place place) bytes b ≡ part_reason place bytes b
same_answer_reason answers.Fields bytes b more = refl
same_answer_reason answers.Beginning [] b more = refl
same_answer_reason answers.Beginning (row ∷ []) b more =
    ap (λ (t : Bool). if t then StructuredField else head_reason [])
    (ne_eqb row 0 (row_there more.unit row (more.next ∷ more.rest) more.stands more.spelled))
same_answer_reason answers.Beginning (row ∷ col ∷ []) b more =
    ap (λ (t : Bool). if t then StructuredField else head_reason (col ∷ []))
    (ne_eqb row 0 (row_there more.unit row (col ∷ more.next ∷ more.rest) more.stands more.spelled))
same_answer_reason answers.Beginning (row ∷ col ∷ c ∷ bytes) b more =
    head_short more.unit row col c more.next bytes more.rest more.stands more.spelled

-- a cursor begins an answer
head_begins : (c : ℕ) (bytes rest : List ℕ) → c < 1920 → row_and_column c ≡ bytes ++ rest
    → IsPrefix answer_rules answers.Beginning bytes
head_begins c bytes rest small e = record {
  unit = Head c 0xF1;
  rest = rest ++ 0xF1 ∷ [];
  stands = record { is_unit = (small, (omega arith, refl)); may_follow = refl };
  spelled = ap (λ (l : List ℕ). l ++ 0xF1 ∷ []) e ∙ append_assoc bytes rest (0xF1 ∷ []);
}

abbrev two : List ℕ → List ℕ
two (a ∷ b ∷ more) = a ∷ b ∷ []
two bytes = bytes

-- what else is taken begins one of the three
begun_beside : (bytes : List ℕ) (b : ℕ) (part : ExtendedAnswerPart) (rest : List ℕ)
    → IsUnfinished answer_rules answers.Beginning bytes
    → (IsPrefix answer_rules answers.Beginning (bytes ++ b ∷ []) → ⊥)
    → Stands extended_answer_rules (answer_place answers.Beginning) part
    → extended_answer_rules.spelling part ≡ (bytes ++ b ∷ []) ++ rest → BeginsTold answers.Beginning bytes b
begun_beside bytes b (Profile p) rest more bad s same = absurd (bad (record {
  unit = p;
  rest = rest;
  stands = record { is_unit = s.is_unit; may_follow = s.may_follow };
  spelled = same;
}))
begun_beside (row ∷ col ∷ c ∷ bytes) b part rest more bad s same =
    head_short more.unit row col c more.next bytes more.rest more.stands more.spelled
begun_beside [] b QueryReply rest more bad s same = (refl, inl (refl, sym (ap first same)))
begun_beside (row ∷ bytes) b QueryReply rest more bad s same =
    absurd (row_there more.unit row (bytes ++ more.next ∷ more.rest) more.stands more.spelled (sym (ap first same)))
begun_beside [] b Saved rest more bad s same =
    absurd (bad (head_begins 257 (b ∷ []) (0x12 ∷ []) (omega arith) (ap (λ (n : ℕ). n ∷ 0x12 ∷ []) (ap first same))))
begun_beside (row ∷ []) b Saved rest more bad s same =
    absurd (bad (head_begins 257 (row ∷ b ∷ []) [] (omega arith) (ap two same)))
begun_beside (row ∷ col ∷ []) b Saved rest more bad s same =
    (refl, inr (inr (sym (ap two same), sym (ap third same))))
begun_beside [] b (AtOnce c) rest more bad s same =
    absurd (bad (head_begins c (b ∷ []) ((c % 80 + 1) ∷ []) s.is_unit
    (ap (λ (n : ℕ). n ∷ (c % 80 + 1) ∷ []) (ap first same))))
begun_beside (row ∷ []) b (AtOnce c) rest more bad s same =
    absurd (bad (head_begins c (row ∷ b ∷ []) [] s.is_unit (ap two same)))
begun_beside (row ∷ col ∷ []) b (AtOnce c) rest more bad s same =
    (refl, inr (inl (refl, sym (ap third same))))
begun_beside bytes b part rest more bad s same = absurd (false≢true s.may_follow)

-- a part that stands among fields is one of the profile
fields_beside : (bytes : List ℕ) (b : ℕ) (part : ExtendedAnswerPart) (rest : List ℕ)
    → (IsPrefix answer_rules answers.Fields (bytes ++ b ∷ []) → ⊥)
    → Stands extended_answer_rules (answer_place answers.Fields) part
    → extended_answer_rules.spelling part ≡ (bytes ++ b ∷ []) ++ rest → BeginsTold answers.Fields bytes b
fields_beside bytes b (Profile p) rest bad s same = absurd (bad (record {
  unit = p;
  rest = rest;
  stands = record { is_unit = s.is_unit; may_follow = s.may_follow };
  spelled = same;
}))
fields_beside bytes b part rest bad s same = absurd (false≢true s.may_follow)

pub three_only : (place : AnswerPlace) (bytes : List ℕ) (b : ℕ) → IsUnfinished answer_rules place bytes
    → (IsPrefix answer_rules place (bytes ++ b ∷ []) → ⊥)
    → IsPrefix extended_answer_rules (answer_place place) (bytes ++ b ∷ []) → BeginsTold place bytes b
three_only answers.Beginning bytes b more bad front =
    begun_beside bytes b front.unit front.rest more bad front.stands front.spelled
three_only answers.Fields bytes b more bad front = fields_beside bytes b front.unit front.rest bad front.stands
    front.spelled
