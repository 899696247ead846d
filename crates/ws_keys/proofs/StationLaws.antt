-- A station's answer holds what the station sent, over every list of fields that is the station's but for MDTs.
use Rattle.std.specs.List.{flat_map, list_any}
use Rattle.std.specs.List.Sorted.{IsStrictlyIncreasing}
use Rattle.std.specs.Prelude.{Result, Ok, Err, sum_by, All, ◌==◌, slice_index}
use Rattle.std.proofs.Common.{◌≡◌, ℕ, zero, suc, ◌+◌, ◌-◌, ◌<◌, ◌≤◌, List, [], ◌∷◌, Bool, true, false, Some, length}
use Rattle.std.proofs.Common.{find, if◌then◌else◌, refl, sym, ap, ◌∙◌, subst, arith, map, take, drop, get_or, filter}
use Rattle.std.proofs.Common.{inl, inr, length-append, length-take, length-drop}
use Rattle.std.proofs.lemmas.Bool.{eq-eqb}
use Rattle.std.proofs.lemmas.List.{length-map, get_or-map}
use Rattle.std.proofs.lemmas.List.Elements.{All-cons}
use Rattle.std.proofs.lemmas.List.Sums.{sum_by-cons}
use borrow.Author.Tests.{ne_eqb}
use Rattle.ws_code.specs.FormatWord.{shift_number, with_mdt}
use Rattle.ws_stream.specs.declared.answer_part.AnswerPart.{AnswerPart}
use Rattle.ws_screen.specs.ByHost.{layout}
use Rattle.ws_screen.specs.Formats.{starts_at}
use Rattle.ws_screen.specs.Keyed.{returns_data}
use Rattle.ws_screen.specs.ScreenParts.{AreApart, ScreenParts}
use Rattle.ws_screen.specs.declared.field.Field.{Field}
use Rattle.ws_screen.specs.declared.read_kind.ReadKind.{ReadKind}
use Rattle.ws_screen.specs.declared.read_kind.ReadKind.TheVariants.{Input, Mdt, MdtAlternate}
use Rattle.ws_screen.proofs.Legal.{apart-le}
use Rattle.ws_keys.specs.Contents.{field_parts, field_content, has_mdt, sent_length, sent_cells, is_negative}
use Rattle.ws_keys.specs.Contents.{with_nulls_as_sent, blank_for_null, as_sent, modified_fields, content, all_input}
use Rattle.ws_keys.specs.Contents.{data_parts, answer_parts}
use Rattle.ws_keys.specs.Splits.{CutsInput, ReadsModified, SplitsData, Splits, FitsField, SameFields, input_by_field}
use Rattle.ws_keys.specs.Splits.{cut_input, read_back, answer_of, IsSplit, ReadsBack}
use Rattle.ws_keys.specs.declared.host_answer.HostAnswer.{HostAnswer}
use Rattle.ws_keys.specs.declared.host_answer.HostFault.{HostFault}
use Rattle.ws_keys.specs.declared.host_answer.HostFault.TheVariants.{Reason, Memory}
use Rattle.ws_keys.specs.declared.host_answer.ReadField.{ReadField}
use Rattle.ws_keys.proofs.AnswerLemmas.{content_short, sent_less}
use Rattle.ws_keys.proofs.ContentLemmas.{length-with_last_digit_minus}
use Rattle.ws_keys.proofs.SplitLaws.{same_field, one_split}

shift-kept : (w : ℕ) → shift_number (with_mdt w false) ≡ shift_number w
shift-kept w = omega arith

-- fields that differ in their MDTs alone have as many sent cells
pub same_sent : (f g : Field) → layout f ≡ layout g → (f.start ≡ g.start) × (f.length ≡ g.length)
    × (sent_length f ≡ sent_length g)
same_sent f g e =
    let start : f.start ≡ g.start = ap (λ (x : Field). x.start) e in
    let n : f.length ≡ g.length = ap (λ (x : Field). x.length) e in
    let shift : shift_number f.format ≡ shift_number g.format = sym (shift-kept f.format)
    ∙ ap (λ (x : Field). shift_number x.format) e ∙ shift-kept g.format in (
      start,
      n,
      ap (λ k. if k == 7 then f.length - 1 else f.length) shift
          ∙ ap (λ k. if shift_number g.format == 7 then k - 1 else k) n,
    )

pub same_cut : (fs gs : List Field) (bytes : List ℕ) → SameFields fs gs → input_by_field fs bytes
    ≡ input_by_field gs bytes
same_cut [] [] bytes e = refl
same_cut [] (g ∷ gs) bytes e = absurd (cc)
same_cut (f ∷ fs) [] bytes e = absurd (cc)
same_cut (f ∷ fs) (g ∷ gs) bytes e =
    let here : layout f ≡ layout g = cc in
    let rest : SameFields fs gs = cc in
    let same = same_sent f g here in
    ap (λ (x : ReadField). x ∷ input_by_field fs (drop (sent_length f) bytes))
    (same_field (record { address = f.start; content = take (sent_length f) bytes })
    (record { address = g.start; content = take (sent_length g) bytes }) same.0 (ap (λ k. take k bytes) same.2))
    ∙ ap (λ (l : List ReadField). let all : List ReadField =
    record { address = g.start; content = take (sent_length g) bytes } ∷ l in all)
    (ap (λ k. input_by_field fs (drop k bytes)) same.2 ∙ same_cut fs gs (drop (sent_length g) bytes) rest)

pub same_sum : (fs gs : List Field) → SameFields fs gs → sum_by sent_length fs ≡ sum_by sent_length gs
same_sum [] [] e = refl
same_sum [] (g ∷ gs) e = absurd (cc)
same_sum (f ∷ fs) [] e = absurd (cc)
same_sum (f ∷ fs) (g ∷ gs) e =
    let here : layout f ≡ layout g = cc in
    let rest : SameFields fs gs = cc in
    omega (
      arith,
      sum_by-cons sent_length f fs,
      sum_by-cons sent_length g gs,
      (same_sent f g here).2,
      same_sum fs gs rest,
    )

pub same_apart : (low : ℕ) (fs gs : List Field) → SameFields fs gs → AreApart low fs → AreApart low gs
same_apart low [] [] e apart = apart
same_apart low [] (g ∷ gs) e apart = absurd (cc)
same_apart low (f ∷ fs) [] e apart = absurd (cc)
same_apart low (f ∷ fs) (g ∷ gs) e apart =
    let here : layout f ≡ layout g = cc in
    let rest : SameFields fs gs = cc in
    let same = same_sent f g here in
    let end : f.start + f.length ≡ g.start + g.length = omega (arith, same.0, same.1) in (
      omega (arith, same.0, apart.0),
      omega (arith, same.1, apart.1),
      same_apart (g.start + g.length) fs gs rest (subst (λ n. AreApart n fs) end apart.2),
    )

-- a field is found by its start
own_start : (low : ℕ) (fs : List Field) (i : ℕ) (d : Field) → AreApart low fs → i < length fs
    → find (starts_at (get_or fs i d).start) fs ≡ Some (get_or fs i d)
own_start low [] i d apart small = absurd (omega arith)
own_start low (f ∷ fs) zero d apart small = rw (eq-eqb f.start f.start refl) refl
own_start low (f ∷ fs) (suc i) d apart small =
    let later : f.start + f.length ≤ (get_or fs i d).start =
    from_low (f.start + f.length) fs apart.2 i d (omega arith) in
    rw (ne_eqb f.start (get_or fs i d).start (λ e. absurd (omega (arith, e, later, apart.1))))
    (own_start (f.start + f.length) fs i d apart.2 (omega arith))
  where
    from_low : (low : ℕ) (fs : List Field) → AreApart low fs → (j : ℕ) (d : Field) → j < length fs
        → low ≤ (get_or fs j d).start
    from_low low [] apart j d small = absurd (omega arith)
    from_low low (f ∷ fs) apart zero d small = apart.0
    from_low low (f ∷ fs) apart (suc j) d small = let later : f.start + f.length ≤ (get_or fs j d).start =
        from_low (f.start + f.length) fs apart.2 j d (omega arith) in omega (arith, apart.0)

-- what a station sends of a field fits the same field
fits : (kind : ReadKind) (s : ScreenParts) (fs gs : List Field) (i : ℕ) (d : Field) → SameFields fs gs → AreApart 0 fs
    → i < length fs → FitsField gs (field_content kind s (get_or fs i d))
fits kind s fs gs i d e apart small =
    let n : length fs ≡ length gs = sym (length-map fs layout) ∙ ap length e ∙ length-map gs layout in
    let here : layout (get_or fs i d) ≡ layout (get_or gs i d) = sym (get_or-map layout fs i d (layout d) small)
    ∙ ap (λ l. get_or l i (layout d)) e ∙ get_or-map layout gs i d (layout d) (omega (arith, n)) in
    let same = same_sent (get_or fs i d) (get_or gs i d) here in (
      get_or gs i d,
      ap (λ a. find (starts_at a) gs) same.0 ∙ own_start 0 gs i d (same_apart 0 fs gs e apart) (omega (arith, n)),
      omega (arith, same.2, content_short kind s (get_or fs i d)),
    )

all_passed : {X : Type 0} (P : X → Type 0) (g : Field → X) (p : Field → Bool) (fs : List Field)
    → ((i : ℕ) (d : Field) → i < length fs → P (g (get_or fs i d))) → All P (map g (filter p fs))
all_passed P g p [] h = λ k d small. absurd (omega arith)
all_passed P g p (f ∷ fs) h = go (p f) (all_passed P g p fs (λ i d small. h (suc i) d (omega arith)))
  where
    go : (t : Bool) → All P (map g (filter p fs)) → All P (map g (if t then f ∷ filter p fs else filter p fs))
    go true rest = All-cons P (g f) (map g (filter p fs)) (h 0 f (omega arith)) rest
    go false rest = rest

rises_from : (low : ℕ) (fs : List Field) (g : Field → ReadField) → ((f : Field) → (g f).address ≡ f.start)
    → AreApart low fs
    → (0 < length (map (λ (r : ReadField). r.address) (map g (filter has_mdt fs)))
    → low ≤ slice_index (map (λ (r : ReadField). r.address) (map g (filter has_mdt fs))) 0)
    × IsStrictlyIncreasing (map (λ (r : ReadField). r.address) (map g (filter has_mdt fs)))
rises_from low [] g is apart = (λ some. absurd (omega arith), λ k small. absurd (omega arith))
rises_from low (f ∷ fs) g is apart = go (has_mdt f) (rises_from (f.start + f.length) fs g is apart.2)
  where
    places : List Field → List ℕ
    places l = map (λ (r : ReadField). r.address) (map g l)

    cons : (x : ℕ) (xs : List ℕ) → (0 < length xs → x < slice_index xs 0) → IsStrictlyIncreasing xs
        → IsStrictlyIncreasing (x ∷ xs)
    cons x xs h rest zero small = let e : 1 ≡ 0 + 1 = omega arith in
        subst (λ n. x < slice_index (x ∷ xs) n) e (h (omega arith))
    cons x xs h rest (suc k) small = let e : suc (k + 1) ≡ suc k + 1 = omega arith in
        subst (λ n. slice_index xs k < slice_index (x ∷ xs) n) e (rest k (omega arith))

    go : (t : Bool) → (0 < length (places (filter has_mdt fs)) → f.start
        + f.length ≤ slice_index (places (filter has_mdt fs)) 0) × IsStrictlyIncreasing (places (filter has_mdt fs))
        → (0 < length (places (if t then f ∷ filter has_mdt fs else filter has_mdt fs))
        → low ≤ slice_index (places (if t then f ∷ filter has_mdt fs else filter has_mdt fs)) 0)
        × IsStrictlyIncreasing (places (if t then f ∷ filter has_mdt fs else filter has_mdt fs))
    go true h = (
      λ some. omega (arith, is f, apart.0),
      cons (g f).address (places (filter has_mdt fs)) (λ some. omega (arith, is f, h.0 some, apart.1)) h.1,
    )
    go false h = (λ some. omega (arith, h.0 some, apart.0), h.1)

modified_reads : (kind : ReadKind) (s : ScreenParts) (fields : List Field) → AreApart 0 s.fields
    → SameFields s.fields fields → ReadsModified fields (flat_map field_parts (modified_fields kind s))
    (modified_fields kind s)
modified_reads kind s fields apart e = (
  refl,
  (rises_from 0 s.fields (field_content kind s) (λ f. refl) apart).1,
  all_passed (FitsField fields) (field_content kind s) has_mdt s.fields
      (λ i d small. fits kind s s.fields fields i d e apart small),
)

-- ALL INPUT

length-with_nulls_as_sent : (xs : List ℕ) → length (with_nulls_as_sent Input xs) ≡ length xs
length-with_nulls_as_sent xs = length-map xs blank_for_null

length-input : (s : ScreenParts) (f : Field) → length s.cells ≡ 1920 → f.start + f.length ≤ 1920
    → length (content Input s f) ≡ sent_length f
length-input s f size ends = go (is_negative s f)
  where
    cells : length (sent_cells s f) ≡ sent_length f
    cells = omega (
      arith,
      length-take (f.start + sent_length f - f.start) (drop f.start s.cells),
      length-drop f.start s.cells,
      size,
      ends,
      sent_less f,
    )

    go : (t : Bool) → length (as_sent Input t (sent_cells s f)) ≡ sent_length f
    go true = length-with_last_digit_minus (with_nulls_as_sent Input (sent_cells s f))
        ∙ length-with_nulls_as_sent (sent_cells s f) ∙ cells
    go false = length-with_nulls_as_sent (sent_cells s f) ∙ cells

length-all : (s : ScreenParts) (low : ℕ) (fs : List Field) → length s.cells ≡ 1920 → AreApart low fs
    → length (flat_map (content Input s) fs) ≡ sum_by sent_length fs
length-all s low [] size apart = refl
length-all s low (f ∷ fs) size apart =
    let end : f.start + f.length ≤ 1920 = apart-le (f.start + f.length) fs apart.2 in
    length-append (content Input s f) (flat_map (content Input s) fs)
    ∙ omega (
      arith,
      length-input s f size end,
      length-all s (f.start + f.length) fs size apart.2,
      sum_by-cons sent_length f fs,
    )

nothing_cut : (fs gs : List Field) (bytes : List ℕ) → bytes ≡ [] → CutsInput gs bytes (cut_input fs bytes)
nothing_cut fs gs bytes e = inl (e, ap (cut_input fs) e)

something_cut : (fs gs : List Field) (bytes : List ℕ) → SameFields fs gs → length bytes ≡ sum_by sent_length fs
    → CutsInput gs bytes (cut_input fs bytes)
something_cut fs gs [] e n = inl (refl, refl)
something_cut fs gs (b ∷ bytes) e n = inr ((λ k. absurd (cc)), n ∙ same_sum fs gs e, same_cut fs gs (b ∷ bytes) e)

input_reads : (s : ScreenParts) (fields : List Field) → length s.cells ≡ 1920 → AreApart 0 s.fields
    → SameFields s.fields fields → CutsInput fields (all_input s) (cut_input s.fields (all_input s))
input_reads s fields size apart e = go (list_any has_mdt s.fields)
  where
    go : (t : Bool) → CutsInput fields (if t then flat_map (content Input s) s.fields else [])
        (cut_input s.fields (if t then flat_map (content Input s) s.fields else []))
    go true = something_cut s.fields fields (flat_map (content Input s) s.fields) e (length-all s 0 s.fields size apart)
    go false = nothing_cut s.fields fields [] refl

station_data : (kind : ReadKind) (s : ScreenParts) (fields : List Field) → length s.cells ≡ 1920 → AreApart 0 s.fields
    → SameFields s.fields fields → SplitsData kind fields (data_parts kind s) (read_back kind s)
station_data Input s fields size apart e = (all_input s, refl, input_reads s fields size apart e)
station_data Mdt s fields size apart e = modified_reads Mdt s fields apart e
station_data MdtAlternate s fields size apart e = modified_reads MdtAlternate s fields apart e

nothing_data : (kind : ReadKind) (fields : List Field) → SplitsData kind fields [] []
nothing_data Input fields = ([], refl, inl (refl, refl))
nothing_data Mdt fields = (refl, (λ k small. absurd (omega arith)), (λ k d small. absurd (omega arith)))
nothing_data MdtAlternate fields = (refl, (λ k small. absurd (omega arith)), (λ k d small. absurd (omega arith)))

-- the answer of a station with the same fields holds what the station sent
pub station_split : (kind : ReadKind) (s : ScreenParts) (aid : ℕ) (fields : List Field) → length s.cells ≡ 1920
    → AreApart 0 s.fields → SameFields s.fields fields
    → Splits kind fields (answer_parts kind s aid) (answer_of kind s aid)
station_split kind s aid fields size apart e =
    ((if returns_data s aid then data_parts kind s else []), refl, go (returns_data s aid))
  where
    go : (t : Bool) → SplitsData kind fields (if t then data_parts kind s else []) (if t then read_back kind s else [])
    go true = station_data kind s fields size apart e
    go false = nothing_data kind fields

-- so whatever is read of it is that
pub reads_back : (kind : ReadKind) (fields : List Field) (parts : List AnswerPart)
    (result : Result HostAnswer HostFault) → IsSplit kind fields parts result → ReadsBack kind fields parts result
reads_back kind fields parts (Ok a) split = λ s aid legal e is.
    ap (λ (b : HostAnswer). Ok b)
    (one_split kind fields (answer_parts kind s aid) a (answer_of kind s aid)
    (subst (λ (l : List AnswerPart). Splits kind fields l a) is split)
    (station_split kind s aid fields legal.size legal.apart e))
reads_back kind fields parts (Err (Reason why)) split = λ s aid legal e is.
    absurd (split.1 (answer_of kind s aid)
    (subst (λ (l : List AnswerPart). Splits kind fields l (answer_of kind s aid)) (sym is)
    (station_split kind s aid fields legal.size legal.apart e)))
reads_back kind fields parts (Err Memory) split = tt
