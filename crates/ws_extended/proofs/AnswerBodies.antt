-- Bodies of the profile, and what is told at once, among the bodies of a live host's station.
use Rattle.std.specs.List.{list_all}
use Rattle.std.proofs.Common.{◌≡◌, ℕ, ◌<◌, List, [], ◌∷◌, ◌++◌, true, length, refl, ap, ◌∙◌, map, nat_lt, suc, drop}
use Rattle.std.proofs.Common.{subst, arith}
use Rattle.std.proofs.lemmas.Bool.{and_parts, eq-eqb}
use borrow.Author.Tests.{ltb-true}
use Rattle.ws_code.specs.Code.{AreBytes, IsChain, IsWhole, place_after, spelling_of}
use Rattle.ws_code.specs.Ebcdic.{byte_of}
use Rattle.ws_nego.specs.declared.terminal.TerminalType.{TerminalType}
use Rattle.ws_nego.specs.declared.terminal.TerminalType.TheVariants.{Ibm5251Model11, Ibm5291Model1, Ibm5292Model2}
use Rattle.ws_nego.specs.declared.terminal.TerminalType.TheVariants.{Ibm3196ModelA1, Ibm3179Model2}
use Rattle.ws_stream.specs.AnswerParts.{answer_rules, part_spelling}
use Rattle.ws_stream.specs.Elements.{row_and_column}
use Rattle.ws_stream.specs.declared.answer_part.AnswerPart.{AnswerPart}
use Rattle.ws_stream.specs.declared.answer_part.AnswerPart.TheVariants.{Byte}
use Rattle.ws_stream.specs.declared.answer_place.AnswerPlace.TheVariants as answers
use Rattle.ws_stream.specs.declared.place.Place.TheVariants.{CommandsOnly}
use Rattle.ws_screen.specs.ScreenParts.{IsClean, IsLegal, ScreenParts}
use Rattle.ws_screen.specs.declared.read_kind.ReadKind.{ReadKind}
use Rattle.ws_screen.specs.declared.read_kind.ReadKind.TheVariants.{Input, MdtAlternate}
use Rattle.ws_keys.specs.Contents.{data_parts}
use Rattle.ws_keys.proofs.AnswerLemmas.{bytes_spelled}
use Rattle.ws_keys.proofs.WholeLaws.{answer_whole}
use Rattle.ws_extended.specs.ExtendedAnswers.{extended_answer_rules}
use Rattle.ws_extended.specs.ExtendedElements.{extended_rules, extended_spelling}
use Rattle.ws_extended.specs.ExtendedStates.{saved_screen}
use Rattle.ws_extended.specs.Image.{IsTyped}
use Rattle.ws_extended.specs.QueryReply.{reply_head}
use Rattle.ws_extended.specs.Telling.{told_of}
use Rattle.ws_extended.specs.ToldParts.{reply_parts, reply_tail, told_parts}
use Rattle.ws_extended.specs.declared.ask.Ask.{Ask}
use Rattle.ws_extended.specs.declared.ask.Ask.TheVariants.{Query, SaveScreen, ReadScreen, ReadImmediate}
use Rattle.ws_extended.specs.declared.ask.Ask.TheVariants.{ReadImmediateAlternate}
use Rattle.ws_extended.specs.declared.extended_answer_part.ExtendedAnswerPart.TheVariants.{Profile, Of, AtOnce}
use Rattle.ws_extended.specs.declared.extended_answer_place.ExtendedAnswerPlace.TheVariants.{Fields, InReply, InSaved}
use Rattle.ws_extended.specs.declared.extended_element.ExtendedElement.{ExtendedElement}
use Rattle.ws_extended.specs.declared.extended_place.ExtendedPlace.{ExtendedPlace}
use Rattle.ws_extended.specs.declared.extended_place.ExtendedPlace.TheVariants.{InProfile}
use Rattle.ws_extended.proofs.StateLaws.{saved_is_body}

-- OF THE PROFILE

fields_chain : (ps : List AnswerPart) → IsChain answer_rules answers.Fields ps
    → IsChain extended_answer_rules Fields (map Profile ps)
fields_chain [] c = tt
fields_chain (p ∷ ps) c =
    (record { is_unit = c.0.is_unit; may_follow = c.0.may_follow }, fields_chain ps c.1)

fields_back : (ps : List AnswerPart) → IsChain extended_answer_rules Fields (map Profile ps)
    → IsChain answer_rules answers.Fields ps
fields_back [] c = tt
fields_back (p ∷ ps) c =
    (record { is_unit = c.0.is_unit; may_follow = c.0.may_follow }, fields_back ps c.1)

fields_end : (ps : List AnswerPart)
    → extended_answer_rules.may_end (place_after extended_answer_rules Fields (map Profile ps)) ≡ true
fields_end [] = refl
fields_end (p ∷ ps) = fields_end ps

pub answer_body : (ps : List AnswerPart) → IsWhole answer_rules ps → IsWhole extended_answer_rules (map Profile ps)
answer_body [] whole = record { chain = tt; ends = refl }
answer_body (p ∷ ps) whole = record {
  chain = (
    record { is_unit = whole.chain.0.is_unit; may_follow = whole.chain.0.may_follow },
    fields_chain ps whole.chain.1,
  );
  ends = fields_end ps;
}

pub body_of_answer : (ps : List AnswerPart) → IsWhole extended_answer_rules (map Profile ps) → IsWhole answer_rules ps
body_of_answer [] whole = record { chain = tt; ends = refl }
body_of_answer (p ∷ ps) whole = record {
  chain = (
    record { is_unit = whole.chain.0.is_unit; may_follow = whole.chain.0.may_follow },
    fields_back ps whole.chain.1,
  );
  ends = refl;
}

pub answer_spelled : (ps : List AnswerPart) → spelling_of extended_answer_rules (map Profile ps)
    ≡ spelling_of answer_rules ps
answer_spelled [] = refl
answer_spelled (p ∷ ps) = ap (λ (l : List ℕ). part_spelling p ++ l) (answer_spelled ps)

-- A REPLY

reply_chain : (byte : ℕ) (bytes : List ℕ) → AreBytes (byte ∷ bytes)
    → IsChain extended_answer_rules (InReply (length bytes)) (reply_parts (byte ∷ bytes))
reply_chain byte [] small = (record { is_unit = small.0; may_follow = refl }, tt)
reply_chain byte (next ∷ bytes) small = (
  record { is_unit = small.0; may_follow = eq-eqb (suc (length bytes)) (suc (length bytes)) refl },
  reply_chain next bytes small.1,
)

reply_ends : (byte : ℕ) (bytes : List ℕ) → extended_answer_rules.may_end
    (place_after extended_answer_rules (InReply (length bytes)) (reply_parts (byte ∷ bytes))) ≡ true
reply_ends byte [] = refl
reply_ends byte (next ∷ bytes) = reply_ends next bytes

reply_spelled : (bytes : List ℕ) → spelling_of extended_answer_rules (reply_parts bytes) ≡ bytes
reply_spelled [] = refl
reply_spelled (byte ∷ bytes) = ap (λ (l : List ℕ). byte ∷ l) (reply_spelled bytes)

-- bytes by a test
bytes_by : (bytes : List ℕ) → list_all (λ n. nat_lt n 256) bytes ≡ true → AreBytes bytes
bytes_by [] h = tt
bytes_by (byte ∷ bytes) h = let both : _ = and_parts (nat_lt byte 256) (list_all (λ n. nat_lt n 256) bytes) h in
    (ltb-true byte 256 both.0, bytes_by bytes both.1)

tail_bytes : (terminal : TerminalType) → list_all (λ n. nat_lt n 256) (reply_tail terminal) ≡ true
unfolding byte_of
tail_bytes Ibm5251Model11 = refl
tail_bytes Ibm5291Model1 = refl
tail_bytes Ibm5292Model2 = refl
tail_bytes Ibm3196ModelA1 = refl
tail_bytes Ibm3179Model2 = refl

tail_chain : (bytes : List ℕ) → AreBytes bytes → length bytes ≡ 53
    → IsChain extended_answer_rules (InReply 52) (reply_parts bytes)
    × (extended_answer_rules.may_end (place_after extended_answer_rules (InReply 52) (reply_parts bytes)) ≡ true)
tail_chain [] small size = absurd (omega (arith, size))
tail_chain (byte ∷ bytes) small size =
    let count : length bytes ≡ 52 = omega (arith, size) in (
      subst (λ (n : ℕ). IsChain extended_answer_rules (InReply n) (reply_parts (byte ∷ bytes))) count
          (reply_chain byte bytes small),
      subst (λ (n : ℕ). extended_answer_rules.may_end
          (place_after extended_answer_rules (InReply n) (reply_parts (byte ∷ bytes))) ≡ true) count
          (reply_ends byte bytes),
    )

tail_size : (terminal : TerminalType) → length (reply_tail terminal) ≡ 53
tail_size Ibm5251Model11 = refl
tail_size Ibm5291Model1 = refl
tail_size Ibm5292Model2 = refl
tail_size Ibm3196ModelA1 = refl
tail_size Ibm3179Model2 = refl

reply_body : (terminal : TerminalType) (row : ℕ) (s : ScreenParts)
    → IsWhole extended_answer_rules (told_parts Query terminal row s)
reply_body terminal row s =
    let tail : _ = tail_chain (reply_tail terminal) (bytes_by (reply_tail terminal) (tail_bytes terminal))
    (tail_size terminal) in
    record { chain = (record { is_unit = tt; may_follow = refl }, tail.0); ends = tail.1 }

-- A SAVED SCREEN

saved_chain : (at : ExtendedPlace) (us : List ExtendedElement) → IsChain extended_rules at us
    → IsChain extended_answer_rules (InSaved at) (map Of us)
saved_chain at [] c = tt
saved_chain at (u ∷ us) c =
    (record { is_unit = c.0.is_unit; may_follow = c.0.may_follow }, saved_chain (extended_rules.after u) us c.1)

saved_ends : (at : ExtendedPlace) (us : List ExtendedElement)
    → extended_answer_rules.may_end (place_after extended_answer_rules (InSaved at) (map Of us)) ≡ true
saved_ends at [] = refl
saved_ends at (u ∷ us) = saved_ends (extended_rules.after u) us

saved_spelled : (us : List ExtendedElement) → spelling_of extended_answer_rules (map Of us)
    ≡ spelling_of extended_rules us
saved_spelled [] = refl
saved_spelled (u ∷ us) = ap (λ (l : List ℕ). extended_spelling u ++ l) (saved_spelled us)

saved_body : (terminal : TerminalType) (row : ℕ) (s : ScreenParts) → IsLegal s → IsTyped s → row < 256
    → IsWhole extended_answer_rules (told_parts SaveScreen terminal row s)
saved_body terminal row s legal typed small =
    let whole : IsWhole extended_rules (saved_screen row s) = saved_is_body row s legal typed small in
    record {
      chain = (
        record { is_unit = tt; may_follow = refl },
        saved_chain (InProfile CommandsOnly) (drop 2 (saved_screen row s)) whole.chain.1.1,
      );
      ends = saved_ends (InProfile CommandsOnly) (drop 2 (saved_screen row s));
    }

-- FIELDS AND CELLS

cells_chain : (bytes : List ℕ) → AreBytes bytes → IsClean bytes
    → IsChain answer_rules answers.Fields (map Byte bytes)
cells_chain [] small clean = tt
cells_chain (byte ∷ bytes) small clean = (
  record { is_unit = (small.0, clean 0); may_follow = refl },
  cells_chain bytes small.1 (λ c. clean (suc c)),
)

at_once : (s : ScreenParts) (ps : List AnswerPart) → IsTyped s → IsChain answer_rules answers.Fields ps
    → IsWhole extended_answer_rules (AtOnce s.cursor ∷ map Profile ps)
at_once s ps typed chain = record {
  chain = (record { is_unit = typed.cursor; may_follow = refl }, fields_chain ps chain);
  ends = fields_end ps;
}

immediate_chain : (kind : ReadKind) (s : ScreenParts) → IsLegal s → IsTyped s
    → IsChain answer_rules answers.Fields (data_parts kind s)
immediate_chain kind s legal typed =
    (answer_whole kind s 0xF1 legal typed.cells typed.cursor (omega arith, refl)).chain.1

-- WHAT IS TOLD

pub told_body : (ask : Ask) (terminal : TerminalType) (row : ℕ) (s : ScreenParts) → IsLegal s → IsTyped s → row < 256
    → IsWhole extended_answer_rules (told_parts ask terminal row s)
told_body Query terminal row s legal typed small = reply_body terminal row s
told_body SaveScreen terminal row s legal typed small = saved_body terminal row s legal typed small
told_body ReadScreen terminal row s legal typed small =
    at_once s (map Byte s.cells) typed (cells_chain s.cells typed.cells legal.clean)
told_body ReadImmediate terminal row s legal typed small =
    at_once s (data_parts Input s) typed (immediate_chain Input s legal typed)
told_body ReadImmediateAlternate terminal row s legal typed small =
    at_once s (data_parts MdtAlternate s) typed (immediate_chain MdtAlternate s legal typed)

pub told_spelled : (ask : Ask) (terminal : TerminalType) (row : ℕ) (s : ScreenParts)
    → spelling_of extended_answer_rules (told_parts ask terminal row s) ≡ told_of ask terminal row s
told_spelled Query terminal row s = ap (λ (l : List ℕ). reply_head ++ l) (reply_spelled (reply_tail terminal))
told_spelled SaveScreen terminal row s =
    ap (λ (l : List ℕ). 0x04 ∷ 0x12 ∷ 0x04 ∷ 0x40 ∷ l) (saved_spelled (drop 2 (saved_screen row s)))
told_spelled ReadScreen terminal row s =
    ap (λ (l : List ℕ). (row_and_column s.cursor ++ 0 ∷ []) ++ l)
    (answer_spelled (map Byte s.cells) ∙ bytes_spelled s.cells)
told_spelled ReadImmediate terminal row s =
    ap (λ (l : List ℕ). (row_and_column s.cursor ++ 0 ∷ []) ++ l) (answer_spelled (data_parts Input s))
told_spelled ReadImmediateAlternate terminal row s =
    ap (λ (l : List ℕ). (row_and_column s.cursor ++ 0 ∷ []) ++ l) (answer_spelled (data_parts MdtAlternate s))
