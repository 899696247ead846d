-- Bytes hold no more records than they are.

use Rattle.ws_end.proofs.Common.{flat_map, ◌≡◌, ◌+◌, ◌≤◌, List, [], ◌∷◌, ◌++◌, refl, ◌∙◌, ℕ, ap, arith, length}
use Rattle.ws_end.proofs.Common.{append_assoc, length-append, map, flat_map-append, Rules, spelling_of, joined}
use Rattle.ws_end.proofs.Common.{command_of, token_rules, Telnet, Holds, commands, Item, RecordItem, TelnetItem, Record}
use Rattle.ws_end.proofs.Common.{records_in}
use Rattle.ws_telnet.specs.declared.token.Token.{Token}
use Rattle.ws_telnet.specs.declared.token.Token.TheVariants.{Eor}

pub records_append : {U : Type 0} (xs ys : List (Item U)) → records_in (xs ++ ys) ≡ records_in xs + records_in ys
records_append [] ys = omega arith
records_append (RecordItem r ∷ xs) ys = omega (arith, records_append xs ys)
records_append (TelnetItem t ∷ xs) ys = records_append xs ys

no_records : (U : Type 0) (ts : List Telnet) → records_in (map (λ (t : Telnet). let i : Item U = TelnetItem t in i) ts)
    ≡ 0
no_records U [] = refl
no_records U (t ∷ ts) = no_records U ts

module _ {U : Type 0} where
  one_a_part : (ss : List (List Token × Record U)) → records_in (flat_map (λ (s : List Token × Record U). commands s.0
      ++ RecordItem s.1 ∷ []) ss) ≡ length ss
  one_a_part [] = refl
  one_a_part (s ∷ ss) =
      let rest : List (Item U) = flat_map (λ (s : List Token × Record U). commands s.0 ++ RecordItem s.1 ∷ []) ss in
      omega (
        arith,
        records_append (commands s.0 ++ RecordItem s.1 ∷ []) rest,
        records_append (commands {U = U} s.0) (RecordItem s.1 ∷ []),
        no_records U (flat_map command_of s.0),
        one_a_part ss,
      )

  two_a_part : (ss : List (List Token × Record U)) (rest : List Token) → length ss ≤ length
      (spelling_of token_rules (joined (map (λ (s : List Token × Record U). s.0) ss) rest))
  two_a_part [] rest = omega arith
  two_a_part (s ∷ ss) rest =
      let more : List Token = joined (map (λ (s : List Token × Record U). s.0) ss) rest in
      let first : List ℕ = spelling_of token_rules (s.0 ++ Eor ∷ []) in
      let split : spelling_of token_rules (joined (map (λ (s : List Token × Record U). s.0) (s ∷ ss)) rest)
      ≡ first ++ spelling_of token_rules more = ap (spelling_of token_rules) (append_assoc (s.0 ++ Eor ∷ []) _ rest)
      ∙ flat_map-append token_rules.spelling (s.0 ++ Eor ∷ []) more in
      let eor : length first ≡ length (spelling_of token_rules s.0) + 2 = ap length (flat_map-append
      token_rules.spelling s.0 (Eor ∷ [])) ∙ length-append (spelling_of token_rules s.0) (0xff ∷ 0xef ∷ []) in
      omega (arith, ap length split, length-append first (spelling_of token_rules more), eor, two_a_part ss rest)

pub records_few : {Place U : Type 0} (rules : Rules Place U) (bytes : List ℕ) (items : List (Item U))
    (so_far begun : List ℕ) → Holds rules bytes items so_far begun → records_in items ≤ length bytes
records_few {U = U} rules bytes items so_far begun h =
    let parts : List
    (Item U) = flat_map (λ (s : List Token × Record U). commands s.0 ++ RecordItem s.1 ∷ []) h.stretches in
    let text : List ℕ =
    spelling_of token_rules (joined (map (λ (s : List Token × Record U). s.0) h.stretches) h.rest) in omega (
      arith,
      ap records_in h.are_items,
      records_append parts (commands h.rest),
      one_a_part h.stretches,
      no_records U (flat_map command_of h.rest),
      two_a_part h.stretches h.rest,
      ap length h.cut.spelled,
      length-append text begun,
    )
