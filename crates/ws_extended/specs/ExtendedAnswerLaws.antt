-- The laws of the code of what a live host's station sends.
use Rattle.std.specs.Prelude.{◌≡◌, ◌≢◌, ℕ, zero, suc, ◌+◌, ◌/◌, ◌%◌, List, [], ◌∷◌, true, false, refl}
use Rattle.std.proofs.Common.{sym, ap, ◌∙◌, arith}
use Rattle.std.proofs.lemmas.Bool.{eq-eqb, false≢true}
use borrow.Author.Tests.{eqb-true}
use Rattle.ws_code.specs.Aid.{IsAid, is_aid}
use Rattle.ws_code.specs.Code.{AreBytes, IsChain, IsPrefixFree, IsUnfinished, place_after}
use Rattle.ws_stream.specs.AnswerLaws.{part_bytes, part_nonempty, part_prefix_free}
use Rattle.ws_stream.specs.ElementLaws.{first, same_place}
use Rattle.ws_stream.specs.declared.answer_part.AnswerPart.{AnswerPart}
use Rattle.ws_stream.specs.declared.answer_part.AnswerPart.TheVariants.{Head, Byte, At}
use Rattle.ws_stream.specs.declared.answer_place.AnswerPlace.TheVariants as answers
use Rattle.ws_extended.specs.ExtendedAnswers.{IsAnswerPart, extended_part_spelling, extended_answer_rules}
use Rattle.ws_extended.specs.ExtendedElements.{extended_rules}
use Rattle.ws_extended.specs.ExtendedLaws.{extended_begins, extended_bytes, extended_nonempty, extended_prefix_free}
use Rattle.ws_extended.specs.declared.extended_element.ExtendedElement.{ExtendedElement}
use Rattle.ws_extended.specs.declared.extended_place.ExtendedPlace.{ExtendedPlace}
use Rattle.ws_extended.specs.declared.extended_answer_part.ExtendedAnswerPart.{ExtendedAnswerPart}
use Rattle.ws_extended.specs.declared.extended_answer_part.ExtendedAnswerPart.TheVariants.{Profile, QueryReply, Reply}
use Rattle.ws_extended.specs.declared.extended_answer_part.ExtendedAnswerPart.TheVariants.{Saved, Of, AtOnce}
use Rattle.ws_extended.specs.declared.extended_answer_place.ExtendedAnswerPlace.{ExtendedAnswerPlace}
use Rattle.ws_extended.specs.declared.extended_answer_place.ExtendedAnswerPlace.TheVariants.{Beginning, Fields, InReply}
use Rattle.ws_extended.specs.declared.extended_answer_place.ExtendedAnswerPlace.TheVariants.{Replied, InSaved}

-- each part is spelled by at least one byte
pub answer_nonempty : (p : ExtendedAnswerPart) → IsAnswerPart p → extended_part_spelling p ≢ []
answer_nonempty (Profile p) h none = part_nonempty p h none
answer_nonempty QueryReply h none = cc
answer_nonempty (Reply left byte) h none = cc
answer_nonempty Saved h none = cc
answer_nonempty (Of e) h none = extended_nonempty e h none
answer_nonempty (AtOnce cursor) h none = cc

-- its spelling is of bytes
pub answer_part_bytes : (p : ExtendedAnswerPart) → IsAnswerPart p → AreBytes (extended_part_spelling p)
answer_part_bytes (Profile p) h = part_bytes p h
answer_part_bytes QueryReply h = (
  omega arith,
  (omega arith, (omega arith, (omega arith, (omega arith, (omega arith, (omega arith, (omega arith, tt))))))),
)
answer_part_bytes (Reply left byte) h = (h, tt)
answer_part_bytes Saved h = (omega arith, (omega arith, (omega arith, (omega arith, tt))))
answer_part_bytes (Of e) h = extended_bytes e h
answer_part_bytes (AtOnce cursor) h = (omega (arith, h), (omega arith, (omega arith, tt)))

-- the third byte, which tells what a body is that begins with a cursor
abbrev pub third : List ℕ → ℕ
third (a ∷ b ∷ c ∷ bytes) = c
third bytes = 0

-- no key has it
pub no_aid : {A : Type 0} (a b : ℕ) → IsAid a → is_aid b ≡ false → b ≡ a → A
no_aid a b h none is = absurd (false≢true (sym none ∙ ap is_aid is ∙ h.1))

-- no part's spelling begins another's at the same place
pub answer_prefix_free : IsPrefixFree extended_answer_rules
answer_prefix_free Beginning (Profile p) (Profile q) rest su sv e =
    ap (λ (x : AnswerPart). Profile x) (part_prefix_free answers.Beginning p q rest
    (record { is_unit = su.is_unit; may_follow = su.may_follow })
    (record { is_unit = sv.is_unit; may_follow = sv.may_follow }) e)
answer_prefix_free Beginning (Profile (Head c a)) QueryReply rest su sv e = absurd (omega (arith, ap first e))
answer_prefix_free Beginning (Profile (Head c a)) Saved rest su sv e = no_aid a 0x04 su.is_unit.1 refl (ap third e)
answer_prefix_free Beginning (Profile (Head c a)) (AtOnce d) rest su sv e =
    no_aid a 0x00 su.is_unit.1 refl (ap third e)
answer_prefix_free Beginning (Profile (Byte b)) v rest su sv e = absurd (false≢true su.may_follow)
answer_prefix_free Beginning (Profile (At c)) v rest su sv e = absurd (false≢true su.may_follow)
answer_prefix_free Beginning QueryReply (Profile (Head c a)) rest su sv e = absurd (omega (arith, ap first e))
answer_prefix_free Beginning QueryReply QueryReply rest su sv e = refl
answer_prefix_free Beginning QueryReply Saved rest su sv e = absurd (omega (arith, ap first e))
answer_prefix_free Beginning QueryReply (AtOnce d) rest su sv e = absurd (omega (arith, ap first e))
answer_prefix_free Beginning Saved (Profile (Head c a)) rest su sv e =
    no_aid a 0x04 sv.is_unit.1 refl (sym (ap third e))
answer_prefix_free Beginning Saved QueryReply rest su sv e = absurd (omega (arith, ap first e))
answer_prefix_free Beginning Saved Saved rest su sv e = refl
answer_prefix_free Beginning Saved (AtOnce d) rest su sv e = absurd (omega (arith, ap third e))
answer_prefix_free Beginning (AtOnce c) (Profile (Head d a)) rest su sv e =
    no_aid a 0x00 sv.is_unit.1 refl (sym (ap third e))
answer_prefix_free Beginning (AtOnce c) QueryReply rest su sv e = absurd (omega (arith, ap first e))
answer_prefix_free Beginning (AtOnce c) Saved rest su sv e = absurd (omega (arith, ap third e))
answer_prefix_free Beginning (AtOnce c) (AtOnce d) rest su sv e =
    let row : d / 80 + 1 ≡ c / 80 + 1 = cc in
    let column : d % 80 + 1 ≡ c % 80 + 1 = cc in
    ap (λ (n : ℕ). AtOnce n) (sym (same_place d c row column))
answer_prefix_free Beginning (Reply l x) v rest su sv e = absurd (false≢true su.may_follow)
answer_prefix_free Beginning (Of x) v rest su sv e = absurd (false≢true su.may_follow)
answer_prefix_free Beginning u v rest su sv e = absurd (false≢true sv.may_follow)
answer_prefix_free Fields (Profile p) (Profile q) rest su sv e =
    ap (λ (x : AnswerPart). Profile x) (part_prefix_free answers.Fields p q rest
    (record { is_unit = su.is_unit; may_follow = su.may_follow })
    (record { is_unit = sv.is_unit; may_follow = sv.may_follow }) e)
answer_prefix_free Fields (Profile p) v rest su sv e = absurd (false≢true sv.may_follow)
answer_prefix_free Fields u v rest su sv e = absurd (false≢true su.may_follow)
answer_prefix_free (InReply n) (Reply l x) (Reply k y) rest su sv e =
    let lefts : l ≡ k = eqb-true l n su.may_follow ∙ sym (eqb-true k n sv.may_follow) in
    let bytes : x ≡ y = sym (ap first e) in
    cc
answer_prefix_free (InReply n) (Reply l x) v rest su sv e = absurd (false≢true sv.may_follow)
answer_prefix_free (InReply n) u v rest su sv e = absurd (false≢true su.may_follow)
answer_prefix_free Replied QueryReply QueryReply rest su sv e = refl
answer_prefix_free Replied QueryReply v rest su sv e = absurd (false≢true sv.may_follow)
answer_prefix_free Replied u v rest su sv e = absurd (false≢true su.may_follow)
answer_prefix_free (InSaved at) (Of u) (Of v) rest su sv e =
    ap (λ (x : ExtendedElement). Of x) (extended_prefix_free at u v rest
    (record { is_unit = su.is_unit; may_follow = su.may_follow })
    (record { is_unit = sv.is_unit; may_follow = sv.may_follow }) e)
answer_prefix_free (InSaved at) (Of u) v rest su sv e = absurd (false≢true sv.may_follow)
answer_prefix_free (InSaved at) u v rest su sv e = absurd (false≢true su.may_follow)

-- an unfinished element stands in a saved screen, too
pub element_up : (at : ExtendedPlace) (bytes : List ℕ) → IsUnfinished extended_rules at bytes
    → IsUnfinished extended_answer_rules (InSaved at) bytes
element_up at bytes more = record {
  unit = Of more.unit;
  next = more.next;
  rest = more.rest;
  stands = record { is_unit = more.stands.is_unit; may_follow = more.stands.may_follow };
  spelled = more.spelled;
}

-- a next part can come at each place
pub answer_begins : (place : ExtendedAnswerPlace) → IsUnfinished extended_answer_rules place []
answer_begins Beginning = record {
  unit = Saved;
  next = 0x04;
  rest = 0x12 ∷ 0x04 ∷ 0x40 ∷ [];
  stands = record { is_unit = tt; may_follow = refl };
  spelled = refl;
}
answer_begins Fields = record {
  unit = Profile (At 0);
  next = 0x11;
  rest = 1 ∷ 1 ∷ [];
  stands = record { is_unit = omega arith; may_follow = refl };
  spelled = refl;
}
answer_begins (InReply n) = record {
  unit = Reply n 0;
  next = 0;
  rest = [];
  stands = record { is_unit = omega arith; may_follow = eq-eqb n n refl };
  spelled = refl;
}
answer_begins Replied = record {
  unit = QueryReply;
  next = 0x00;
  rest = 0x00 ∷ 0x88 ∷ 0x00 ∷ 0x3A ∷ 0xD9 ∷ 0x70 ∷ 0x80 ∷ [];
  stands = record { is_unit = tt; may_follow = refl };
  spelled = refl;
}
answer_begins (InSaved at) = element_up at [] (extended_begins at)

-- the rest of a reply
abbrev pub reply_rest : ℕ → List ExtendedAnswerPart
reply_rest zero = Reply 0 0 ∷ []
reply_rest (suc n) = Reply (suc n) 0 ∷ reply_rest n

rest_chain : (n : ℕ) → IsChain extended_answer_rules (InReply n) (reply_rest n)
rest_chain zero = (record { is_unit = omega arith; may_follow = refl }, tt)
rest_chain (suc n) = (record { is_unit = omega arith; may_follow = eq-eqb (suc n) (suc n) refl }, rest_chain n)

rest_ends : (n : ℕ)
    → extended_answer_rules.may_end (place_after extended_answer_rules (InReply n) (reply_rest n)) ≡ true
rest_ends zero = refl
rest_ends (suc n) = rest_ends n

-- from each place a body can come to its end
pub answer_can_end : (place : ExtendedAnswerPlace)
    → (parts : List ExtendedAnswerPart) × IsChain extended_answer_rules place parts
    × (extended_answer_rules.may_end (place_after extended_answer_rules place parts) ≡ true)
answer_can_end (InReply n) = (reply_rest n, rest_chain n, rest_ends n)
answer_can_end Beginning = ([], tt, refl)
answer_can_end Fields = ([], tt, refl)
answer_can_end Replied = ([], tt, refl)
answer_can_end (InSaved at) = ([], tt, refl)
