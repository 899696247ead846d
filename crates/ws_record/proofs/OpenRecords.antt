-- What bytes of its header and runs of its body make of the open record.
use Rattle.ws_record.proofs.Common as C
use C.{IfSome, slice_index, true, ◌≡◌, ℕ, List, [], ◌∷◌, ◌++◌, take, drop, refl, sym, ap, ◌∙◌, append_assoc, ◌<◌}
use C.{length, ◌*◌, ◌≤◌, inl, inr, arith, ◌+◌, get_or, ◌-◌, length-append, Option, Some, None, length-take}
use C.{drop_of_length-le, common_steps, append-nil, take-append-drop, length-take-le, take-append-le, drop-append-le}
use C.{take_all, Rules, IsSpelled, IsPrefix, IsPrefixFree, place_after, spelling_of, AreBytes, Reading, HasReadValues}
use C.{StopsAtLast, IsRunOfValues, Reason, byte_at, front_bytes, Begins, one_cut, cut_bad, AreBytes-front}
use C.{AreBytes-append, chain_append, place_after-append, AllByRecursion-front, AllByRecursion-last, same_front}
use C.{empty_take, take_short, run_unit, Data, IsWholeRecord, opcode_byte, IsFramed, HeaderSoFar, declared, head_in}
use C.{CanBeFramed, RecordSoFar, no_record, Keeping, HasRead, IsHead, IsDataRefused, IsEndRefused, header_reason}
use C.{Keeper, intake, with_keep, ArePlain, IsTaken, grown, IsHeaderStep, News, More, Whole, Open, NoMemory, Opcode}
use C.{Head}
use Rattle.ws_code.specs.declared.reason.Reason.TheVariants.{TooLong, EndedInside, UnknownOpcode}
use Rattle.ws_code.specs.declared.run.End.{End}
use Rattle.ws_code.specs.declared.run.End.TheVariants as end
use Rattle.ws_code.specs.declared.run.Standing.{Standing}
use Rattle.ws_record.specs.declared.news.News.TheVariants.{Refused}
use Rattle.ws_record.proofs.Headers.{can_be_framed, can_means, header_append, empty_header, next_cell, no_room}
use Rattle.ws_record.proofs.Headers.{header_parts}

pub nothing_framed : CanBeFramed []
nothing_framed = can_be_framed [] tt empty_header (λ k. absurd (omega arith))

-- a head comes with the tenth byte
no_head : (head : Option Head) (bytes : List ℕ) → IsHead head bytes → length bytes < 10 → head ≡ None
no_head head bytes is short = grind (arith, common_steps)

-- where a reader stands in a body, and one that took so many bytes of the body more
abbrev pub reading_of : {Place : Type 0} → Keeping Place → Reading Place
reading_of k = record { place = k.place; begun = k.begun }

abbrev pub moved : {Place : Type 0} → Keeping Place → ℕ → Reading Place → Keeping Place
moved k n to = record { header = k.header; left = k.left - n; place = to.place; begun = to.begun }

module _ {Place U : Type 0} (rules : Rules Place U) where
  -- nothing was read
  pub reads_nothing : Begins rules → (reader : Keeping Place) → reader.header ≡ [] → reader.place ≡ rules.first
      → reader.begun ≡ [] → HasRead rules reader no_record
  reads_nothing begins reader h p b = record {
    bytes = tt;
    framed = nothing_framed;
    head = omega arith;
    header = h;
    left = tt;
    cut = record { chain = tt; more = rw b (begins rules.first); spelled = b };
    at_place = p;
  }

  pub reads_empty : IsPrefixFree rules → Begins rules → (reader : Keeping Place) (so_far : RecordSoFar U)
      → HasRead rules reader so_far → reader.header ≡ [] → so_far ≡ no_record
  reads_empty free begins reader so_far r e =
      let b : so_far.bytes ≡ [] = empty_take _ (sym r.header ∙ e) in
      let h : so_far.head ≡ None = no_head _ _ r.head (omega (arith, ap length b)) in
      let u : so_far.units ≡ [] = (one_cut rules free rules.first so_far.units [] reader.begun [] r.cut.chain tt
      r.cut.more (begins rules.first) (r.cut.spelled ∙ ap (drop 10) b)).0 in
      let all : ◌≡◌ {A = RecordSoFar U} (record { bytes = so_far.bytes; head = so_far.head; units = so_far.units })
      no_record = cc in all

  module _ {reader : Keeping Place} {so_far : RecordSoFar U} (r : HasRead rules reader so_far)
      (short : length reader.header < 10) where
    same : reader.header ≡ so_far.bytes
    same = r.header ∙ take_short so_far.bytes (omega (arith, ap length r.header))

    few : length so_far.bytes < 10
    few = omega (arith, ap length same)

    -- a byte that no header has next
    pub header_refused : (b : ℕ) (reason : Reason) → ((m : List ℕ) → IsFramed (reader.header ++ b ∷ m) → ⊥)
        → reason ≡ header_reason reader.header (Data b) → IsDataRefused rules so_far.bytes b reason
    header_refused b reason bad why = rw (← same) (inl (bad, why))

    pub opcode_refused : (b : ℕ) → length reader.header ≡ 9 → ((opcode : Opcode) → opcode_byte opcode ≡ b → ⊥)
        → IsDataRefused rules so_far.bytes b UnknownOpcode
    opcode_refused b nine none = header_refused b _
        (λ m f. (let o = (next_cell _ b m f).opcode nine in none o.0 o.1)) (rw nine refl)

    -- a byte of the header
    module _ (new : Keeping Place) (b : ℕ) (fits : b < 256) (right : HeaderSoFar (reader.header ++ b ∷ []))
        (e : new.header ≡ reader.header ++ b ∷ []) (p : new.place ≡ reader.place) (f : new.begun ≡ reader.begun) where
      are : AreBytes (so_far.bytes ++ b ∷ [])
      are = AreBytes-append so_far.bytes (b ∷ []) r.bytes (fits, tt)

      header_grown : (after : Option Head) → IsHead after (so_far.bytes ++ b ∷ [])
          → IfSome after (λ h. length (so_far.bytes ++ b ∷ []) + new.left ≡ h.length)
          → HasRead rules new (record so_far { bytes = so_far.bytes ++ b ∷ []; head = after })
      header_grown after is left =
          let n = length-append so_far.bytes (b ∷ []) in
          let on : HeaderSoFar (so_far.bytes ++ b ∷ []) = rw same at right in
          record {
            bytes = are;
            framed = can_be_framed _ are on (λ k. omega (arith, few, n, on.declares k));
            head = is;
            header = rw (take_all 10 (so_far.bytes ++ b ∷ []) (omega (arith, few, n)), ← same) e;
            left = left;
            at_place = p ∙ r.at_place;
            cut = rw (
              drop_of_length-le (so_far.bytes ++ b ∷ []) {i = 10} (omega (arith, few, n)),
              ←
                  drop_of_length-le so_far.bytes {i = 10} (omega (arith, few)),
              f,
            ) r.cut;
          }

      pub header_byte : length reader.header < 9
          → HasRead rules new (record so_far { bytes = so_far.bytes ++ b ∷ [] })
      header_byte under =
          let none = no_head _ _ r.head few in
          header_grown so_far.head (rw none (omega (arith, ap length same, length-append so_far.bytes (b ∷ []))))
          (rw none tt)

      pub opcode_byte_read : (head : Head) (opcode : Opcode) → length reader.header ≡ 9
          → head ≡ head_in reader.header opcode → opcode_byte opcode ≡ b → new.left ≡ head.length - 10
          → (so_far.head ≡ None)
          × HasRead rules new (record so_far { bytes = so_far.bytes ++ b ∷ []; head = Some head })
      opcode_byte_read head opcode nine says op l =
          let xs = so_far.bytes ++ b ∷ [] in
          let on : HeaderSoFar xs = rw same at right in
          let header_is = same in
          let long : length xs ≡ 10 = grind (arith, common_steps) in
          let n_is : head.length ≡ declared xs = grind (arith, common_steps) in
          let flags_are : head.flags ≡ get_or xs 7 0 * 256 + get_or xs 8 0 = grind (arith, common_steps) in
          let cells = header_parts xs head.length head.flags head.opcode are on (omega arith) n_is flags_are
          (grind (arith, common_steps)) in (
            no_head _ _ r.head few,
            header_grown _ (
              omega (arith, flags_are, byte_at xs 7 are, byte_at xs 8 are),
              omega (arith, n_is, byte_at xs 0 are, byte_at xs 1 are),
              grind (arith, common_steps),
            ) (omega (arith, on.declares (omega arith))),
          )

  -- after the tenth byte

  -- ten bytes of a header are all of it
  pub ten_there : {reader : Keeping Place} {so_far : RecordSoFar U} → HasRead rules reader so_far
      → 10 ≤ length reader.header → length reader.header ≡ 10
  ten_there {so_far = so_far} r long = omega (arith, ap length r.header, length-take 10 so_far.bytes)

  module _ {reader : Keeping Place} {so_far : RecordSoFar U} (r : HasRead rules reader so_far)
      (ten : length reader.header ≡ 10) where
    long : 10 ≤ length so_far.bytes
    long = omega (arith, ap length r.header, length-take 10 so_far.bytes)

    some : (h : Head) × (so_far.head ≡ Some h)
    some = elim so_far.head as (λ o. IsHead o so_far.bytes → (h : Head) × (o ≡ Some h)) [
      | None ↦ λ is. absurd (omega (arith, is, long))
      | Some h ↦ λ is. (h, refl)
    ] r.head

    counted : length so_far.bytes + reader.left ≡ declared so_far.bytes
    counted = let s = some in let n = rw s.1 at r.left in let is = rw s.1 at r.head in grind (arith, common_steps)

    more_framed : (v : List ℕ) → AreBytes v → length v ≤ reader.left → CanBeFramed (so_far.bytes ++ v)
    more_framed v are room =
        let n = counted in
        can_be_framed _ (AreBytes-append so_far.bytes v r.bytes are)
        (header_append _ v long (can_means _ r.framed)) (λ _. grind (arith, common_steps, long))

    pub body_refused : (b : ℕ) → reader.left ≡ 0 → IsDataRefused rules so_far.bytes b TooLong
    body_refused b none = inl (
      (λ m f. no_room so_far.bytes b m f (omega (arith, long)) (omega (arith, counted))),
      grind (arith, common_steps, long),
    )

    -- what the body's bytes are
    pub body_drops : (v : List ℕ) → drop 10 (so_far.bytes ++ v) ≡ drop 10 so_far.bytes ++ v
    body_drops v = drop-append-le 10 so_far.bytes v long

    -- values of the body, with which units are complete
    pub body_run : (to : Reading Place) (v : List ℕ) → AreBytes v → length v ≤ reader.left
        → (run : HasReadValues rules (reading_of reader) v to)
        → HasRead rules (moved reader (length v) to) (grown so_far v run.units)
    body_run to v are room run =
        let stands : to.place ≡ place_after rules rules.first (so_far.units ++ run.units) =
        rw (run.behind, r.at_place, ← place_after-append rules rules.first so_far.units run.units) in
        let s = some in
        let is = rw s.1 at r.head in
        record {
          bytes = AreBytes-append so_far.bytes v r.bytes are;
          framed = more_framed v are room;
          head = rw s.1 (is.0, is.1, take-append-le 10 so_far.bytes v long ∙ is.2);
          header = r.header ∙ sym (take-append-le 10 so_far.bytes v long);
          left = rw s.1 (omega (arith, rw s.1 at r.left, length-append so_far.bytes v));
          cut = record {
            chain = chain_append rules rules.first so_far.units run.units r.cut.chain (rw r.at_place at run.chain);
            more = rw stands at run.unfinished;
            spelled = (let dropped = body_drops v in grind (arith, common_steps));
          };
          at_place = stands;
        }

    pub body_bad : IsPrefixFree rules → Begins rules → (b : ℕ) (reason : Reason) → b < 256 → 1 ≤ reader.left
        → (IsPrefix rules reader.place (reader.begun ++ b ∷ []) → ⊥)
        → reason ≡ rules.reason reader.place reader.begun b → IsDataRefused rules so_far.bytes b reason
    body_bad free begins b reason fits room bad why = inr (
      more_framed (b ∷ []) (fits, tt) room,
      (λ m body. cut_bad rules free begins rules.first so_far.units body.units reader.begun b m r.cut.chain
          body.whole.chain r.cut.more (rw r.at_place at bad) (sym body.spelled ∙ body_drops (b ∷ m)
          ∙ rw (← r.cut.spelled, append_assoc (spelling_of rules so_far.units) reader.begun))),
      (so_far.units, reader.begun, r.cut, rw (← r.at_place) why),
    )

    -- the end
    pub end_inside : IsPrefixFree rules → Begins rules → reader.left ≡ 0
        → (reader.begun ≡ [] → rules.may_end reader.place ≡ true → ⊥) → IsEndRefused rules so_far.bytes EndedInside
    end_inside free begins none stops = inr (
      grind (arith, common_steps),
      (λ body. (
          let same = one_cut rules free rules.first _ _ _ _ r.cut.chain body.whole.chain r.cut.more (begins _)
          (r.cut.spelled ∙ body.spelled ∙ sym (append-nil _)) in
          stops same.1 (rw (r.at_place, same.0) body.whole.ends))),
      refl,
    )

    pub end_whole : Begins rules → (new : Keeping Place) (head : Head) (opcode : Opcode) → reader.left ≡ 0
        → reader.begun ≡ [] → rules.may_end reader.place ≡ true → opcode_byte opcode ≡ slice_index reader.header 9
        → head ≡ head_in reader.header opcode → new.header ≡ [] → new.place ≡ rules.first → new.begun ≡ []
        → IsWholeRecord rules so_far head × HasRead rules new no_record
    end_whole begins new head opcode none stops ends op says e p f =
        let s = some in
        let is : IsHead (Some s.0) so_far.bytes = rw s.1 at r.head in
        let count : length so_far.bytes ≡ s.0.length = omega (arith, rw s.1 at r.left) in
        let whole : IsWholeRecord rules so_far s.0 = grind (arith, common_steps) in
        let same : s.0 ≡ head = grind (arith, common_steps) in
        (rw same at whole, reads_nothing begins _ e p f)

-- what a reader inside a body needs to take these values, so many
pub record Ready {Place U : Type 0} (rules : Rules Place U) (reader : Keeping Place) (so_far : RecordSoFar U)
    (v : List ℕ) (used : ℕ) : Type 0 where
  pub reads : HasRead rules reader so_far
  pub ten : length reader.header ≡ 10
  pub are : AreBytes v
  pub long : length v ≡ used
  pub room : used ≤ reader.left

pub ready : {Place U : Type 0} (rules : Rules Place U) {self reader : Keeping Place} {so_far : RecordSoFar U}
    (values : List ℕ) (used : ℕ) → reader ≡ self → HasRead rules self so_far
    → (0 < reader.left → length reader.header ≡ 10) → 0 < length values → length values ≤ self.left
    → used ≤ length values → ((i : ℕ) → get_or values i 0 < 256) → Ready rules reader so_far (take used values) used
ready rules values used same r behind some room within are =
    let left = ap (λ (k : Keeping _). k.left) same in
    record {
      reads = rw same r;
      ten = behind (omega (arith, left));
      are = front_bytes values used are;
      long = length-take-le used values within;
      room = omega (arith, left);
    }

-- the news of a run's end
abbrev news_of : End → News
news_of end.More = More
news_of end.Enough = Whole
news_of end.NoMemory = NoMemory
news_of (end.Bad reason) = Refused reason

module _ {Place U K : Type 0} (rules : Rules Place U) (keeper : Keeper U K) (reader : Keeping Place)
    (so_far : RecordSoFar U) (old : K) (v : List ℕ) (used : ℕ) (y : Ready rules reader so_far v used)
    (free : IsPrefixFree rules) (begins : Begins rules) where
  -- the record after a run over the values
  ran : {to : Reading Place} (run : HasReadValues rules (reading_of reader) v to)
      → HasRead rules (moved reader used to) (grown so_far v run.units)
  ran run = rw y.long at (body_run rules y.reads y.ten _ v y.are (omega (arith, y.long, y.room)) run)

  -- with a unit at which the run stops
  unit_read : (stop : StopsAtLast (intake rules keeper) (with_keep (reading_of reader) old) v) (unit : U)
      (to : Reading Place)
      → IsSpelled rules stop.before.read.place (stop.before.read.begun ++ stop.last ∷ []) unit
      → to ≡ record { place = rules.after unit; begun = [] }
      → HasRead rules (moved reader used to) (grown so_far v (stop.on.run.units ++ unit ∷ []))
  unit_read stop unit to spelled stands =
      let whole = run_unit rules (reading_of reader) stop.front v stop.before.read to stop.last unit stop.on.run spelled
      begins stop.split stands in
      rw whole.1 at (ran whole.0)

  -- before the value at which it stops
  module _ (stop : StopsAtLast (intake rules keeper) (with_keep (reading_of reader) old) v) where
    all_are : AreBytes (stop.front ++ stop.last ∷ [])
    all_are = rw stop.split at y.are

    shorter : length stop.front + 1 ≤ reader.left
    shorter = omega (arith, ap length stop.split, length-append stop.front (stop.last ∷ []), y.long, y.room)

    read_before : HasRead rules (moved reader (length stop.front) stop.before.read) (grown so_far stop.front
        stop.on.run.units)
    read_before = body_run rules y.reads y.ten stop.before.read stop.front
        (AreBytes-front stop.front (stop.last ∷ []) all_are) (omega (arith, shorter)) stop.on.run

  -- What a run over the values makes of the record. After a value that is refused, or a unit that isn't kept, no
  -- matter how the reader and the keep stand.
  pub taken : (end : End) (to : Reading Place) (standing : Standing Place) (kept new : K)
      → IsRunOfValues (intake rules keeper) (with_keep (reading_of reader) old) v (with_keep to kept) standing end
      → ((units : List U) (told : List ℕ) → keeper.holds kept units told → keeper.holds new units (told ++ v))
      → IsTaken (intake rules keeper) (with_keep so_far old) v (with_keep (moved reader used to) new) (news_of end)
  taken end.More to standing kept new run took = (
    run.0.run.units,
    v,
    ran run.0.run,
    body_drops _ y.reads y.ten v,
    (λ units told h. took _ told (run.0.kept units told h)),
    run.0.on,
  )
  taken end.Enough to standing kept new run took = (
    run.0.on.run.units,
    run.1,
    v,
    unit_read run.0 run.1 to run.2 run.5,
    body_drops _ y.reads y.ten v,
    (λ units told h. took _ told
        (rw append_assoc at (run.3 (units ++ run.0.on.run.units) told (run.0.on.kept units told h)))),
    run.0.on.on,
    ap (λ (t : Reading Place). t.begun) run.5,
    run.4,
  )
  taken end.NoMemory to standing kept new run took =
      let stop = run.0 in
      let after : Reading Place = record { place = rules.after run.1; begun = [] } in (
        stop.front,
        stop.last,
        stop.split,
        (
          moved reader used after,
          stop.on.run.units,
          run.1,
          rw (← stop.split) (unit_read stop run.1 after run.2 refl),
          refl,
          run.4,
          stop.on.on,
          (_, read_before stop),
          (v, λ units told h. took _ told (rw append-nil at (run.3 _ told (stop.on.kept units told h)))),
        ),
      )
  taken (end.Bad reason) to standing kept new run took =
      let stop = run.0 in (
        stop.front,
        stop.last,
        stop.split,
        (
          moved reader (length stop.front) stop.before.read,
          stop.on.run.units,
          read_before stop,
          body_bad _ (read_before stop) y.ten free begins _ _ (AllByRecursion-last (λ b. b < 256) stop.front stop.last
              (all_are stop)) (omega (arith, shorter stop)) run.1 run.2,
          stop.on.on,
          (v, λ units told h. took _ told (rw append-nil at (run.3 _ told (stop.on.kept units told h)))),
        ),
      )

module _ {Place U K : Type 0} (rules : Rules Place U) (keeper : Keeper U K) (so_far : RecordSoFar U) (keep : K)
    (v : List ℕ) where
  -- a value of a header after others: it is whole with it, or the value is refused
  pub header_step : (before to : Keeping Place) (front : List ℕ) (b : ℕ) (news : News)
      → HasRead rules before (record so_far { bytes = so_far.bytes ++ front }) → v ≡ front ++ b ∷ []
      → IsHeaderStep rules to (record so_far { bytes = so_far.bytes ++ front }) b news → (news ≡ More → ⊥)
      → IsTaken (intake rules keeper) (with_keep so_far keep) v (with_keep to keep) news
  header_step before to front b More r e s other = absurd (other refl)
  header_step before to front b (Open head) r e s other =
      let same : (so_far.bytes ++ front) ++ b ∷ [] ≡ so_far.bytes ++ v = rw (e, append_assoc) in
      let short : length (so_far.bytes ++ front) < 10 = rw s.0 at r.head in
      (s.0, rw same at s.1, refl, grind (arith, common_steps, same))
  header_step before to front b (Refused reason) r e s other = (
    front,
    b,
    e,
    (
      before,
      [],
      rw (append-nil so_far.units) r,
      s,
      inl refl,
      ([], λ units told h. rw (append-nil told, append-nil units) h),
    ),
  )
  header_step before to front b news r e s other = absurd s

pub plain_front : (piece : List ℕ) (used count : ℕ) → used ≤ length (take count piece) → ArePlain (take count piece)
    → ArePlain (take used piece)
plain_front piece used count k plain =
    rw (same_front piece used count k) at (AllByRecursion-front _ (take used (take count piece))
    (drop used (take count piece)) (rw (← take-append-drop used (take count piece)) at plain))
