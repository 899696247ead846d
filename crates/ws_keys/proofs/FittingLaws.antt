-- Parts fit a read, part by part, exactly where something is read of them.
use Rattle.std.specs.List.{list_all}
use Rattle.std.specs.Option.{option_map, option_map_or}
use Rattle.std.specs.Prelude.{sum_by, ◌==◌, ◌&&◌, nat_le, nat_lt, is_some, Err, ◌⊎◌}
use Rattle.std.proofs.Common.{◌≡◌, ℕ, ◌+◌, ◌-◌, ◌<◌, ◌≤◌, List, [], ◌∷◌, Bool, true, false, Option, Some, None, length}
use Rattle.std.proofs.Common.{find, if◌then◌else◌, refl, sym, ap, ◌∙◌, subst, arith, inl, inr}
use Rattle.std.proofs.lemmas.List.{length-map}
use borrow.Author.Tests.{ne_eqb, le-leb, leb-true, lt-ltb, ltb-true}
use Rattle.ws_stream.specs.declared.answer_part.AnswerPart.{AnswerPart}
use Rattle.ws_stream.specs.declared.answer_part.AnswerPart.TheVariants.{Head, Byte, At}
use Rattle.ws_screen.specs.Formats.{starts_at}
use Rattle.ws_screen.specs.declared.field.Field.{Field}
use Rattle.ws_screen.specs.declared.read_kind.ReadKind.{ReadKind}
use Rattle.ws_screen.specs.declared.read_kind.ReadKind.TheVariants.{Mdt, MdtAlternate}
use Rattle.ws_keys.specs.Contents.{sent_length}
use Rattle.ws_keys.specs.Fitting.{at_first, behind_part, fits_from}
use Rattle.ws_keys.specs.Parsing.{IsFaultOf, fits_field, is_rising_from}
use Rattle.ws_keys.specs.Readings.{bytes_in, leading_bytes, fields_behind, fields_in, if_cut, if_fit, read_data}
use Rattle.ws_keys.specs.Splits.{SplitsData, IsSplit, input_by_field}
use Rattle.ws_keys.specs.declared.fitting.Expected.{Expected}
use Rattle.ws_keys.specs.declared.host_answer.HostAnswer.{HostAnswer}
use Rattle.ws_keys.specs.declared.host_answer.HostFault.{HostFault}
use Rattle.ws_keys.specs.declared.host_answer.HostFault.TheVariants.{Reason, Memory}
use Rattle.ws_keys.specs.declared.host_answer.ReadField.{ReadField}
use Rattle.ws_keys.proofs.ReadingLaws.{data_read, data_held, bytes_held}

-- MODIFIED FIELDS

same_test : (a b : Bool) → (a ≡ true → b ≡ true) → (b ≡ true → a ≡ true) → a ≡ b
same_test true b f g = sym (f refl)
same_test false true f g = g refl
same_test false false f g = refl

-- one byte more needs one more place
le-shift : (n room : ℕ) → nat_lt 0 room ≡ true → nat_le n (room - 1) ≡ nat_le (n + 1) room
le-shift n room some =
    let low : 0 < room = ltb-true 0 room some in
    same_test (nat_le n (room - 1)) (nat_le (n + 1) room)
    (λ e. let le : n ≤ room - 1 = leb-true n (room - 1) e in le-leb (n + 1) room (omega arith))
    (λ e. let le : n + 1 ≤ room = leb-true (n + 1) room e in le-leb n (room - 1) (omega arith))

no-room : (n room : ℕ) → nat_lt 0 room ≡ false → nat_le (n + 1) room ≡ false
no-room n room none = same_test (nat_le (n + 1) room) false
    (λ e. let le : n + 1 ≤ room = leb-true (n + 1) room e in sym none ∙ lt-ltb 0 room (omega arith)) (λ e. absurd (cc))

-- the fields after the bytes fit, by their addresses from one on
abbrev fit_behind : List Field → ℕ → Option (List ReadField) → Bool
fit_behind fields next o =
    option_map_or (λ read. list_all (fits_field fields) read && is_rising_from next read) o false

and-false : (b : Bool) → (b && false) ≡ false
and-false true = refl
and-false false = refl

-- a field more, by whether its address ascends, what starts there, and the fields after
at_address : (fields : List Field) (n next p : ℕ) (t : Bool) (o : Option Field) (q : Option (List ReadField))
    → option_map_or (λ e. nat_le n e.room && fit_behind fields e.next q)
    (if t then option_map (λ f. let e : Expected = record { next = p + 1; room = sent_length f } in e) o else None)
    false
    ≡ option_map_or (λ read.
    (option_map_or (λ f. nat_le n (sent_length f)) o false && list_all (fits_field fields) read)
    && (t && is_rising_from (p + 1) read)) q false
at_address fields n next p false o None = refl
at_address fields n next p false o (Some read) =
    sym (and-false (option_map_or (λ f. nat_le n (sent_length f)) o false && list_all (fits_field fields) read))
at_address fields n next p true None None = refl
at_address fields n next p true None (Some read) = refl
at_address fields n next p true (Some f) None = and-false (nat_le n (sent_length f))
at_address fields n next p true (Some f) (Some read) = go (nat_le n (sent_length f))
  where
    all : Bool
    all = list_all (fits_field fields) read

    go : (t : Bool) → (t && (all && is_rising_from (p + 1) read)) ≡ ((t && all) && is_rising_from (p + 1) read)
    go true = refl
    go false = refl

mapped : (fields : List Field) (next : ℕ) (r : ReadField) (q : Option (List ReadField))
    → option_map_or (λ read. (fits_field fields r && list_all (fits_field fields) read)
    && (nat_le next r.address && is_rising_from (r.address + 1) read)) q false
    ≡ fit_behind fields next (option_map (λ read. r ∷ read) q)
mapped fields next r None = refl
mapped fields next r (Some read) = refl

fits_from-is : (fields : List Field) (parts : List AnswerPart) (e : Expected)
    → fits_from fields e parts
    ≡ (nat_le (length (leading_bytes parts)) e.room && fit_behind fields e.next (fields_behind parts))
fits_from-is fields [] e = rw (le-leb 0 e.room (omega arith)) refl
fits_from-is fields (Head cursor aid ∷ parts) e = sym (and-false (nat_le 0 e.room))
fits_from-is fields (Byte b ∷ parts) e =
    let longer : n + 1 ≡ length (b ∷ leading_bytes parts) = omega arith in
    go (nat_lt 0 e.room) refl (fits_from-is fields parts) ∙ ap (λ k. nat_le k e.room && rest) longer
  where
    n : ℕ
    n = length (leading_bytes parts)

    rest : Bool
    rest = fit_behind fields e.next (fields_behind parts)

    one_less : Expected
    one_less = record { next = e.next; room = e.room - 1 }

    go : (t : Bool) → nat_lt 0 e.room ≡ t
        → ((x : Expected) → fits_from fields x parts
        ≡ (nat_le n x.room && fit_behind fields x.next (fields_behind parts)))
        → option_map_or (λ x. fits_from fields x parts) (if t then Some one_less else None) false
        ≡ (nat_le (n + 1) e.room && rest)
    go true some known = known one_less ∙ ap (λ t. t && rest) (le-shift n e.room some)
    go false none known = sym (ap (λ t. t && rest) (no-room n e.room none))
fits_from-is fields (At p ∷ parts) e =
    next_is (behind_part fields e (At p)) (fits_from-is fields parts)
    ∙ at_address fields (length (leading_bytes parts)) e.next p (nat_le e.next p) (find (starts_at p) fields)
    (fields_behind parts)
    ∙ mapped fields e.next (record { address = p; content = leading_bytes parts }) (fields_behind parts)
    ∙ ap (λ t. t && fit_behind fields e.next (fields_behind (At p ∷ parts))) (sym (le-leb 0 e.room (omega arith)))
  where
    test : Expected → Bool
    test x = nat_le (length (leading_bytes parts)) x.room && fit_behind fields x.next (fields_behind parts)

    next_is : (o : Option Expected) → ((x : Expected) → fits_from fields x parts ≡ test x)
        → option_map_or (λ x. fits_from fields x parts) o false ≡ option_map_or (λ x. test x) o false
    next_is None known = refl
    next_is (Some x) known = known x

if_fit-some : (fields : List Field) (o : Option (List ReadField)) → is_some (if_fit fields o) ≡ fit_behind fields 0 o
if_fit-some fields None = refl
if_fit-some fields (Some read) = go (list_all (fits_field fields) read && is_rising_from 0 read)
  where
    go : (t : Bool) → is_some (if t then Some read else None) ≡ t
    go true = refl
    go false = refl

pub fits_modified : (fields : List Field) (parts : List AnswerPart)
    → fits_from fields at_first parts ≡ is_some (if_fit fields (fields_in parts))
fits_modified fields [] = fits_from-is fields [] at_first ∙ sym (if_fit-some fields (fields_in []))
fits_modified fields (Head cursor aid ∷ parts) = refl
fits_modified fields (Byte b ∷ parts) = refl
fits_modified fields (At p ∷ parts) =
    fits_from-is fields (At p ∷ parts) at_first ∙ sym (if_fit-some fields (fields_behind (At p ∷ parts)))

-- what both reads of modified fields give
pub modified_data : (kind : ReadKind) (fields : List Field) (parts : List AnswerPart)
    → (kind ≡ Mdt) ⊎ (kind ≡ MdtAlternate)
    → read_data kind fields parts ≡ if_fit fields (fields_in parts)
modified_data kind fields parts (inl e) = ap (λ k. read_data k fields parts) e
modified_data kind fields parts (inr e) = ap (λ k. read_data k fields parts) e

-- ALL INPUT

length-in : (parts : List AnswerPart) (xs : List ℕ) → bytes_in parts ≡ Some xs → length xs ≡ length parts
length-in parts xs e = sym (ap length (bytes_held parts xs e) ∙ length-map xs Byte)

cut_some : (fields : List Field) (b : ℕ) (xs : List ℕ)
    → is_some (if_cut fields (Some (b ∷ xs))) ≡ (length (b ∷ xs) == sum_by sent_length fields)
cut_some fields b xs = decide (length (b ∷ xs) == sum_by sent_length fields)
  where
    decide : (t : Bool) → is_some (if t then Some (input_by_field fields (b ∷ xs)) else None) ≡ t
    decide true = refl
    decide false = refl

pub fits_input : (fields : List Field) (parts : List AnswerPart) → is_some (bytes_in parts) ≡ true
    → is_some (if_cut fields (bytes_in parts))
    ≡ (if length parts == 0 then true else length parts == sum_by sent_length fields)
fits_input fields parts e = go (bytes_in parts) (length-in parts) e
  where
    test : ℕ → Bool
    test n = if n == 0 then true else n == sum_by sent_length fields

    go : (o : Option (List ℕ)) → ((xs : List ℕ) → o ≡ Some xs → length xs ≡ length parts) → is_some o ≡ true
        → is_some (if_cut fields o) ≡ test (length parts)
    go None same e = absurd (cc)
    go (Some []) same e = ap test (same [] refl)
    go (Some (b ∷ xs)) same e =
        let some : (length (b ∷ xs) == 0) ≡ false =
        ne_eqb (length {A = ℕ} (b ∷ xs)) 0 (λ q. absurd (omega (arith, q))) in
        cut_some fields b xs ∙ sym (ap (λ t. if t then true else length (b ∷ xs) == sum_by sent_length fields) some)
        ∙ ap test (same (b ∷ xs) refl)

-- WHAT IS TOLD WHERE MEMORY IS WANTING

pub fault_known : (kind : ReadKind) (fields : List Field) (parts rest : List AnswerPart) (cursor aid : ℕ)
    (fault : HostFault)
    → parts ≡ Head cursor aid ∷ rest → IsFaultOf (read_data kind fields rest) fault
    → IsSplit kind fields parts (Err fault)
fault_known kind fields parts rest cursor aid (Reason why) e h = (
  h.0,
  λ a s. let same : rest ≡ s.0 = cc (e, s.1) in
      let held : SplitsData kind fields rest a.fields =
      subst (λ (l : List AnswerPart). SplitsData kind fields l a.fields) (sym same) s.2 in
      clash (sym h.1 ∙ data_read kind fields rest a.fields held),
)
  where
    clash : {X : Type 0} {x : X} → None ≡ Some x → ⊥
    clash e = cc
fault_known kind fields parts rest cursor aid Memory e h = go (read_data kind fields rest) refl h
  where
    go : (o : Option (List ReadField)) → read_data kind fields rest ≡ o → is_some o ≡ true
        → IsSplit kind fields parts (Err Memory)
    go None q h = absurd (cc)
    go (Some read) q h = let a : HostAnswer = record { cursor = cursor; aid = aid; fields = read } in
        (a, (rest, e, data_held kind fields rest read q))
