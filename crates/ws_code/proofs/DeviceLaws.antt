-- Devices: what some writes or reads make together, and what the devices of this crate tell.
use Rattle.std.specs.Prelude.{◌≡◌, ◌≢◌, ℕ, ◌+◌, ◌-◌, ◌<◌, ◌≤◌, List, [], ◌∷◌, ◌++◌, length, take, drop, Some, refl}
use Rattle.std.proofs.Common.{sym, ap, ◌∙◌, subst, arith, append_assoc, length-append, length-drop, take-append-drop}
use Rattle.std.proofs.Common.{lit≤, inl, inr}
use Rattle.std.proofs.Math.Seq.{take-append-add, take-length, drop-nil}
use Rattle.std.proofs.lemmas.Grind.{flat_map-append}
use Rattle.std.proofs.lemmas.List.{append-nil, nil_from_length, length-take, length-take-le, take-append-le}
use Rattle.ws_code.specs.Device.{MayTake, MayGive, Writer, Reader, Taken, Given, bytes_taken, Writes, WentOut}
use Rattle.ws_code.specs.Device.{FailedAfter, FailedWithin, IsWriteFailure, Reads, bytes_given, most_reads, Gave}
use Rattle.ws_code.specs.Device.{GaveAll, ReadFault, list_gives, list_reader, Held, held_takes, held_writer}

-- `&xs[i..]`
pub rest_from : (xs : List ℕ) (i : ℕ) → take (length xs - i) (drop i xs) ≡ drop i xs
rest_from xs i = ap (λ k. take k (drop i xs)) (sym (length-drop i xs)) ∙ take-length (drop i xs)

pub length_rest : (xs : List ℕ) (i : ℕ) → length (take (length xs - i) (drop i xs)) ≡ length xs - i
length_rest xs i = ap length (rest_from xs i) ∙ length-drop i xs

-- a front and a bit more of it
pub take_front : (xs : List ℕ) (i n : ℕ) → i ≤ length xs → take (i + n) xs ≡ take i xs
    ++ take n (take (length xs - i) (drop i xs))
take_front xs i n h =
    let front : length (take i xs) ≡ i = length-take-le i xs h in
    ap (λ j. take (j + n) xs) (sym front) ∙ ap (take (length (take i xs) + n)) (sym (take-append-drop i xs))
    ∙ take-append-add (take i xs) (drop i xs) n ∙ ap (λ z. take i xs ++ take n z) (sym (rest_from xs i))

module _ {S : Type 0} where
  writes_more : (takes : MayTake S) (from mid to : S) (ws vs : List Taken) → Writes takes from ws mid
      → Writes takes mid vs to → Writes takes from (ws ++ vs) to
  writes_more takes from mid to [] vs p q = let P : S → Type 0 = λ s. Writes takes s vs to in subst P (sym p) q
  writes_more takes from mid to (w ∷ ws) vs p q = (p.0, p.1, p.2, writes_more takes p.0 mid to ws vs p.3 q)

  -- no write, no byte
  pub went_out_none : (writer : Writer S) (s : S) → WentOut writer s s []
  went_out_none writer s = record { writes = []; made = refl; took = refl; uncounted = refl }

  -- one write
  pub went_out_one : (writer : Writer S) (from to : S) (offered : List ℕ) (count : ℕ)
      → writer.takes from offered (Some count) to → count ≢ 0 → writer.failures to ≡ writer.failures from
      → WentOut writer from to (take count offered)
  went_out_one writer from to offered count made some uncounted = record {
    writes = record { offered = offered; count = count } ∷ [];
    made = (to, made, some, refl);
    took = append-nil (take count offered);
    uncounted = uncounted;
  }

  -- one after the other
  pub went_out_both : (writer : Writer S) (from mid to : S) (xs ys : List ℕ)
      → WentOut writer from mid xs → WentOut writer mid to ys
      → WentOut writer from to (xs ++ ys)
  went_out_both writer from mid to xs ys p q = record {
    writes = p.writes ++ q.writes;
    made = writes_more writer.takes from mid to p.writes q.writes p.made q.made;
    took = flat_map-append (λ (w : Taken). take w.count w.offered) p.writes q.writes
        ∙ ap (λ z. z ++ bytes_taken q.writes) p.took ∙ ap (λ z. xs ++ z) q.took;
    uncounted = q.uncounted ∙ p.uncounted;
  }

  -- a failed write after what went out
  pub failed_after_both : (writer : Writer S) (from mid to : S) (xs ys : List ℕ)
      → WentOut writer from mid xs → FailedAfter writer mid to ys
      → FailedAfter writer from to (xs ++ ys)
  failed_after_both writer from mid to xs ys p q = record {
    before = q.before;
    went_out = went_out_both writer from mid q.before xs ys p q.went_out;
    offered = q.offered;
    answer = q.answer;
    last = q.last;
    failed = subst (λ (n : ℕ). IsWriteFailure q.offered q.answer n (writer.failures to)) p.uncounted q.failed;
  }

  -- a failed write in a text's next part is one in the whole text
  pub failed_within_both : (writer : Writer S) (from mid to : S) (xs ys zs : List ℕ)
      → WentOut writer from mid xs → FailedWithin writer mid to ys
      → FailedWithin writer from to (xs ++ (ys ++ zs))
  failed_within_both writer from mid to xs ys zs p q =
      let inside : q.count ≤ length ys = omega (arith, q.within) in
      let text : xs ++ take q.count ys ≡ take (length xs + q.count) (xs ++ (ys ++ zs)) =
      ap (λ z. xs ++ z) (sym (take-append-le q.count ys zs inside)) ∙ sym (take-append-add xs (ys ++ zs) q.count) in
      record {
        count = length xs + q.count;
        within = omega (arith, q.within, length-append xs (ys ++ zs), length-append ys zs);
        failed = subst (FailedAfter writer from to) text
            (failed_after_both writer from mid to xs (take q.count ys) p q.failed);
      }

  reads_more : (gives : MayGive S) (from mid to : S) (rs : List Given) (r : Given) → Reads gives from rs mid
      → gives mid r.room (Some r.given) to → r.given ≢ [] → Reads gives from (rs ++ r ∷ []) to
  reads_more gives from mid to [] r p made some =
      (to, (let P : S → Type 0 = λ s. gives s r.room (Some r.given) to in subst P (sym p) made), some, refl)
  reads_more gives from mid to (q ∷ rs) r p made some = (p.0, p.1, p.2, reads_more gives p.0 mid to rs r p.3 made some)

  -- one read more
  pub gave_more : (reader : Reader S) (from mid to : S) (count : ℕ) (bytes : List ℕ) (room : ℕ)
      (given : List ℕ) → Gave reader from mid count bytes → count < most_reads → reader.gives mid room (Some given) to
      → given ≢ [] → reader.failures to ≡ reader.failures mid → Gave reader from to (count + 1) (bytes ++ given)
  gave_more reader from mid to count bytes room given p one_left made some uncounted =
      let r : Given = record { room = room; given = given } in
      record {
        reads = p.reads ++ r ∷ [];
        made = reads_more reader.gives from mid to p.reads r p.made made some;
        counted = length-append p.reads (r ∷ []) ∙ ap (λ k. k + 1) p.counted;
        within = omega (arith, one_left);
        gave = flat_map-append (λ (q : Given). q.given) p.reads (r ∷ []) ∙ ap (λ z. z ++ (given ++ [])) p.gave
            ∙ ap (λ z. bytes ++ z) (append-nil given);
        uncounted = uncounted ∙ p.uncounted;
      }

  -- a read that gave the end
  pub gave_all : (reader : Reader S) (from mid to : S) (count : ℕ) (bytes : List ℕ) (room : ℕ)
      → Gave reader from mid count bytes → count < most_reads → 0 < room → reader.gives mid room (Some []) to
      → reader.failures to ≡ reader.failures mid → GaveAll reader from to bytes
  gave_all reader from mid to count bytes room p one_left h made uncounted =
      record {
        before = mid;
        count = count;
        gave = p;
        one_left = one_left;
        room = room;
        has_room = h;
        end = made;
        uncounted = uncounted ∙ p.uncounted;
      }

-- some bytes of a slice are not none
pub take_some : (xs : List ℕ) (n : ℕ) → n ≢ 0 → n ≤ length xs → take n xs ≢ []
take_some xs n ne h e = ne (sym (length-take-le n xs h) ∙ ap length e)

-- ---- what the devices of this crate tell

held_writes : (from to : Held) (ws : List Taken) → Writes held_takes from ws to → to.bytes ≡ from.bytes
    ++ bytes_taken ws
held_writes from to [] p = ap (λ (h : Held). h.bytes) (sym p) ∙ sym (append-nil from.bytes)
held_writes from to (w ∷ ws) p =
    let whole : take w.count w.offered ≡ w.offered = ap (λ n. take n w.offered) p.1.0 ∙ take-length w.offered in
    held_writes p.0 to ws p.3 ∙ ap (λ z. z ++ bytes_taken ws) (p.1.1 ∙ ap (λ z. from.bytes ++ z) (sym whole))
    ∙ append_assoc from.bytes (take w.count w.offered) (bytes_taken ws)

-- a sink that grows holds what went out
pub held_went_out : (from to : Held) (bytes : List ℕ) → WentOut held_writer from to bytes
    → to.bytes ≡ from.bytes ++ bytes
held_went_out from to bytes p = held_writes from to p.writes p.made ∙ ap (λ z. from.bytes ++ z) p.took

list_reads : (from to : List ℕ) (rs : List Given) → Reads list_gives from rs to → from ≡ bytes_given rs ++ to
list_reads from to [] p = p
list_reads from to (r ∷ rs) p =
    sym (take-append-drop r.room from)
    ∙ ap (λ z. z ++ drop r.room from) (sym p.1.0)
    ∙ ap (λ z. r.given ++ z) (sym p.1.1 ∙ list_reads p.0 to rs p.3)
    ∙ sym (append_assoc r.given (bytes_given rs) to)

-- each read gave some byte
reads_count : {S : Type 0} (gives : MayGive S) (from to : S) (rs : List Given) → Reads gives from rs to
    → length rs ≤ length (bytes_given rs)
reads_count gives from to [] p = lit≤ tt
reads_count gives from to (r ∷ rs) p =
    let some : length r.given ≢ 0 = λ e. p.2 (nil_from_length r.given e) in
    omega (arith, some, reads_count gives p.0 to rs p.3, length-append r.given (bytes_given rs))

-- what a source over a list gave is the list's front, the rest is left, and there were no more reads than bytes
pub list_gave : (from to : List ℕ) (count : ℕ) (bytes : List ℕ)
    → Gave list_reader from to count bytes → (from ≡ bytes ++ to) × (count ≤ length bytes)
list_gave from to count bytes p = (
  list_reads from to p.reads p.made ∙ ap (λ z. z ++ to) p.gave,
  omega (arith, reads_count list_gives from to p.reads p.made, p.counted, ap length p.gave),
)

-- up to its end it gave the list, and nothing is left
pub list_gave_all : (from to bytes : List ℕ) → GaveAll list_reader from to bytes
    → (bytes ≡ from) × (to ≡ [])
list_gave_all from to bytes p =
    let front = list_gave from p.before p.count bytes p.gave in
    let some : length p.before ≡ 0 = omega (arith, p.has_room, ap length p.end.0, length-take p.room p.before) in
    let none : p.before ≡ [] = nil_from_length p.before some in (
      sym (append-nil bytes) ∙ ap (λ z. bytes ++ z) (sym none) ∙ sym front.0,
      p.end.1 ∙ ap (drop p.room) none
          ∙ drop-nil p.room,
    )

-- and a reader of a list of fewer bytes than the most reads meets no fault
pub list_no_fault : (from to bytes : List ℕ) → length from < most_reads
    → ReadFault list_reader from to bytes → ⊥
list_no_fault from to bytes few (inl p) = p.last
list_no_fault from to bytes few (inr p) =
    let gave = list_gave from to most_reads bytes p in
    absurd (omega (arith, few, gave.1, ap length gave.0, length-append bytes to))
