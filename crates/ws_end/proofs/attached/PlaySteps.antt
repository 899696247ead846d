-- What a prefix of a piece makes of a run's player.

use Rattle.ws_end.proofs.Common as C
use C.{◌≡◌, ◌+◌, ◌≤◌, List, [], ◌∷◌, ◌++◌, refl, subst, ◌∙◌, ℕ, ◌<◌, take, drop, ap, sym, arith, take-append-drop, ◌^◌}
use C.{inl, inr, length, append_assoc, length-append, false, nat_lt, ◌-◌, Err, Ok, length-take-le, nat_tests}
use C.{append-nil, Writer, WentOut, FailedWithin, Fault, Write, Refused, went_out_both, failed_within_both, ap₂}
use C.{TerminalType, Item, element_rules, Element, Key, HoldsItems, fault_of, HaveBroughtPlayer, IsRunFault}
use C.{refusal_count, behind, run_text, RunUnwritten, Player, Refusal, At, EndStep, due, later, Happening, Does, Doing}
use C.{refused_keys, records_in, moments_from, moments, AtStation, StationParts, StationReached, StationEndState}
use C.{new_station_end, Applied, AnswerPart, IsPrefixTaken, Failed, Memory, Result, station_transitions, Arrives}
use Rattle.std.proofs.Common.{add-zero}
use Rattle.std.proofs.lemmas.Bool.{cases_Bool}
use Rattle.ws_end.specs.Acts.{AllTaken}
use Rattle.ws_end.specs.ActLaws.{taken_append}
use Rattle.ws_end.specs.Reaction.{goes_on}
use Rattle.ws_end.specs.driver.Reacting.{at_reaction}
use Rattle.ws_end.specs.station.Stations.{station_driving}
use Rattle.ws_end.specs.station.StationReacting.{station_puts}
use Rattle.ws_end.specs.attached.StationRun.{schedule, outflow, refused_behind}
use Rattle.ws_end.specs.station.StationEndState.{on_profile}
use Rattle.ws_end.proofs.RecordCounts.{records_append}
use Rattle.ws_end.proofs.attached.Plays.{text_append, state_append, refused_append, later_by, none_due, text_of}
use Rattle.ws_end.proofs.attached.Plays.{text_from, state_from, PressedAll}

-- what a prefix gives is known, or its bytes
pub known_step : (new : StationParts) (bytes : List ℕ) (items : List (Item Element)) (state : StationEndState)
    (step is : Result (EndStep Applied (List ℕ)) Refusal) → step ≡ is
    → IsPrefixTaken (station_driving on_profile) new bytes items state step
    → IsPrefixTaken (station_driving on_profile) new bytes items state is
known_step new bytes items state step is e f =
    subst (λ (z : Result (EndStep Applied (List ℕ)) Refusal). IsPrefixTaken (station_driving on_profile) new bytes items
    state z) e f

pub known_bytes : (new : StationParts) (bytes prefix is : List ℕ) (items : List (Item Element))
    (state : StationEndState) (step : Result (EndStep Applied (List ℕ)) Refusal) → prefix ≡ is
    → IsPrefixTaken (station_driving on_profile) new (bytes ++ prefix) items state step
    → IsPrefixTaken (station_driving on_profile) new (bytes ++ is) items state step
known_bytes new bytes prefix is items state step e f =
    subst (λ (z : List ℕ). IsPrefixTaken (station_driving on_profile) new (bytes ++ z) items state step) e f

-- ---- the moments of one item more

-- the keys that are left behind some records, and then behind more
later_on : (m n : ℕ) (keys : List (ℕ × Key)) → m ≤ n → later n (later m keys) ≡ later n keys
later_on m n [] h = refl
later_on m n (k ∷ ks) h = elim (cases_Bool (nat_lt m k.0)) [
  | inl e ↦ ap (later n) (none_due m k ks e).1
  | inr e ↦ (let f : nat_lt n k.0 ≡ false = grind (arith, nat_tests, e, h) in
      ap (later n) (later_by m k ks e) ∙ later_on m n ks h ∙ sym (later_by n k ks f))
]

due_none : (n : ℕ) (keys : List (ℕ × Key)) → due n (later n keys) ≡ []
due_none n [] = refl
due_none n (k ∷ ks) = elim (cases_Bool (nat_lt n k.0)) [
  | inl e ↦ (let q = none_due n k ks e in ap (due n) q.1 ∙ q.0)
  | inr e ↦ ap (due n) (later_by n k ks e) ∙ due_none n ks
]

moments_more : (n : ℕ) (keys : List (ℕ × Key)) (items : List (Item Element)) (item : Item Element)
    → moments_from n keys (items ++ item ∷ []) ≡ moments_from n keys items
    ++ Arrives item ∷ due (n + records_in (items ++ item ∷ [])) (later (n + records_in items) keys)
moments_more n keys [] item =
    ap (λ m. due n keys ++ Arrives item ∷ due (n + records_in (item ∷ [])) (later m keys)) (sym (add-zero n))
moments_more n keys (i ∷ items) item =
    let m : ℕ = n + records_in (i ∷ []) in
    let all : m + records_in (items ++ item ∷ []) ≡ n + records_in (i ∷ (items ++ item ∷ [])) =
    omega (arith, records_append (i ∷ []) (items ++ item ∷ [])) in
    let some : m + records_in items ≡ n + records_in (i ∷ items) = omega (arith, records_append (i ∷ []) items) in
    let left : later (m + records_in items) (later n keys) ≡ later (n + records_in (i ∷ items)) keys =
    later_on n _ keys (omega arith) ∙ ap (λ k. later k keys) some in
    ap (λ z. due n keys ++ Arrives i ∷ z) (moments_more m (later n keys) items item
    ∙ ap₂ (λ a ks. moments_from m (later n keys) items ++ Arrives item ∷ due a ks) all left)
    ∙ sym (append_assoc (due n keys) (Arrives i ∷ moments_from m (later n keys) items)
    (Arrives item ∷ due (n + records_in (i ∷ (items ++ item ∷ []))) (later (n + records_in (i ∷ items)) keys)))

pub keys_taken : (s : StationEndState) (n : ℕ) (ks : List (ℕ × Key)) → AllTaken station_transitions s (due n ks)
keys_taken s n [] = tt
keys_taken s n (k ∷ ks) = elim (cases_Bool (nat_lt n k.0)) [
  | inl e ↦ rw e tt
  | inr e ↦ rw e (tt, keys_taken (state_from s (Does k.1 ∷ [])) n ks)
]

-- What bytes have made of a station: no item is complete with them, or one is, and the keys are due that follow it.
record Goes (keys : List (ℕ × Key)) (new : StationParts) (bytes : List ℕ) (items : List (Item Element))
    (state : StationEndState) (reply : List ℕ) : Type 0 where
  more : List (Item Element)
  happened : List (Happening Element Key)
  next : moments keys more ≡ moments keys items
      ++ (happened ++ due (records_in more) (later (records_in items) keys))
  longer : records_in items ≤ records_in more
  taken : AllTaken station_transitions state happened
  unrefused : refused_keys state happened ≡ 0
  spelled : reply ≡ text_from state happened
  reached : StationReached new bytes more (state_from state happened)

goes : (keys : List (ℕ × Key)) (new : StationParts) (bytes : List ℕ) (items : List (Item Element))
    (state : StationEndState) (step : EndStep Applied (List ℕ))
    → IsPrefixTaken (station_driving on_profile) new bytes items state (Ok step)
    → Goes keys new bytes items state step.reply
goes keys new bytes items state step (inl q) = record {
  more = items;
  happened = [];
  next = sym (ap (λ z. moments keys items ++ z) (due_none (records_in items) keys) ∙ append-nil (moments keys items));
  longer = omega arith;
  taken = tt;
  unrefused = refl;
  spelled = q.1;
  reached = q.0;
}
goes keys new bytes items state step (inr q) =
    let does : station_transitions.at state (Arrives q.0) ≡ record { state = q.1; written = q.2; events = _ } =
    ap (at_reaction (station_puts q.0) state) q.3 in
    record {
      more = items ++ q.0 ∷ [];
      happened = Arrives q.0 ∷ [];
      next = moments_more 0 keys items q.0 ∙ ap₂ (λ a b. moments keys items ++ Arrives q.0 ∷ due a (later b keys))
          (let e : 0 + records_in (items ++ q.0 ∷ []) ≡ records_in (items ++ q.0 ∷ []) = omega arith in e)
          (let e : 0 + records_in items ≡ records_in items = omega arith in e);
      longer = omega (arith, records_append items (q.0 ∷ []));
      taken = (ap goes_on q.3, tt);
      unrefused = refl;
      spelled = q.4 ∙ sym (ap text_of (append-nil q.2))
          ∙ ap (λ (d : Doing StationEndState AnswerPart Applied). text_of (d.written ++ [])) (sym does);
      reached = subst (λ (d : Doing StationEndState AnswerPart Applied).
          StationReached new bytes (items ++ q.0 ∷ []) d.state) (sym does) q.6;
    }

module _ {S : Type 0} (writer : Writer S) (t : TerminalType) (keys : List (ℕ × Key))
    (start now : S) (old : Player) (before : StationParts) (bytes : List ℕ) (items : List (Item Element))
    (piece : List ℕ) (used : ℕ) (within : used ≤ length piece)
    (c : HaveBroughtPlayer (schedule t keys) (outflow writer start now) (record old { station = before }) bytes items)
    (few : length bytes + length piece + 1 < 2 ^ 64) (step : EndStep Applied (List ℕ))
    (prefixed : IsPrefixTaken (station_driving on_profile) old.station (bytes ++ take used piece) items
    (behind (schedule t keys) items).state (Ok step))
  where
    abbrev longer : List ℕ
    longer = bytes ++ take used piece

    abbrev so_far : StationEndState
    so_far = (behind (schedule t keys) items).state

    abbrev gone : Goes keys old.station longer items so_far step.reply
    gone = goes keys old.station longer items so_far step prefixed

    abbrev keys_due : List (Happening Element Key)
    keys_due = due (records_in gone.more) (drop old.pressed keys)

    room : length longer + 1 < 2 ^ 64
    room = omega (arith, few, length-append bytes (take used piece), length-take-le used piece within)

    moments_are : moments keys gone.more ≡ moments keys items ++ (gone.happened ++ keys_due)
    moments_are = gone.next
        ∙ ap (λ z. moments keys items ++ (gone.happened ++ due (records_in gone.more) z)) (sym c.left)

    taken_more : AllTaken station_transitions (new_station_end t) (moments keys gone.more)
    taken_more = rw moments_are (taken_append station_transitions (new_station_end t) (moments keys items)
        (gone.happened ++ keys_due) c.is_behind.taken (taken_append station_transitions so_far gone.happened keys_due
        gone.taken (keys_taken (state_from so_far gone.happened) (records_in gone.more) (drop old.pressed keys))))

    text_more : run_text (schedule t keys) items ++ (step.reply ++ text_from (state_from so_far gone.happened) keys_due)
        ≡ run_text (schedule t keys) gone.more
    text_more = ap (λ z. run_text (schedule t keys) items
        ++ (z ++ text_from (state_from so_far gone.happened) keys_due)) gone.spelled
        ∙ ap (λ z. run_text (schedule t keys) items ++ z) (sym (text_append so_far gone.happened keys_due))
        ∙ sym (text_append (new_station_end t) (moments keys items) (gone.happened ++ keys_due))
        ∙ ap (text_from (new_station_end t)) (sym moments_are)

    refused_more : refused_behind (schedule t keys) gone.more
        ≡ refused_behind (schedule t keys) items + refused_keys (state_from so_far gone.happened) keys_due
    refused_more = ap (refused_keys (new_station_end t)) moments_are ∙ omega (
      arith,
      refused_append (new_station_end t) (moments keys items) (gone.happened ++ keys_due),
      refused_append so_far gone.happened keys_due,
      gone.unrefused,
    )

    state_more : (behind (schedule t keys) gone.more).state ≡ state_from (state_from so_far gone.happened) keys_due
    state_more = ap (state_from (new_station_end t)) moments_are
        ∙ state_append (new_station_end t) (moments keys items) (gone.happened ++ keys_due)
        ∙ state_append so_far gone.happened keys_due

    -- the keys that are due behind it are pressed
    pub goes_behind : (new : Player) (mid to : S) → WentOut writer now mid step.reply
        → PressedAll writer old new mid to keys → (next : List (Item Element))
        × HaveBroughtPlayer (schedule t keys) (outflow writer start to) new longer next
    goes_behind new mid to went pressed =
        let p = pressed longer gone.more (state_from so_far gone.happened) gone.reached room in (
          gone.more,
          record {
            is_behind = record { reached = rw state_more p.0.reached; taken = taken_more };
            refused = p.0.refused (refused_behind (schedule t keys) items) c.refused
                ∙ ap refusal_count (sym refused_more);
            left = p.1 ∙ ap (later (records_in gone.more)) c.left ∙ later_on _ _ keys gone.longer;
            wrote = rw (← text_more)
                (went_out_both writer start now to _ _ c.wrote (went_out_both writer now mid to _ _ went p.0.wrote));
          },
        )

    unwritten : (to : S) → FailedWithin writer start to (run_text (schedule t keys) gone.more)
        → RunUnwritten (schedule t keys) (outflow writer start to) (bytes ++ piece)
    unwritten to failed = record {
      before = longer;
      after = drop used piece;
      split = ap (λ z. bytes ++ z) (sym (take-append-drop used piece)) ∙ sym (append_assoc bytes _ _);
      items = gone.more;
      so_far = gone.reached.so_far.bytes;
      begun = old.station.live.begun;
      holds = gone.reached.reached.holds;
      taken = taken_more;
      failed = failed;
    }

    -- the reply isn't written
    pub reply_fails : (to : S) → FailedWithin writer now to step.reply
        → RunUnwritten (schedule t keys) (outflow writer start to) (bytes ++ piece)
    reply_fails to failed =
        unwritten to (rw (← text_more) (failed_within_both writer start now to _ _ _ c.wrote failed))

    -- or what the keys send
    pub keys_fail : (mid to : S) → WentOut writer now mid step.reply
        → AtStation old.station (λ bytes items state. length bytes + 1 < 2 ^ 64 → FailedWithin writer mid to
        (text_from state (due (records_in items) (drop old.pressed keys))))
        → RunUnwritten (schedule t keys) (outflow writer start to) (bytes ++ piece)
    keys_fail mid to went failed =
        let xs = run_text (schedule t keys) items in
        let ys = text_from (state_from so_far gone.happened) keys_due in
        let text : (xs ++ step.reply) ++ (ys ++ []) ≡ run_text (schedule t keys) gone.more =
        append_assoc xs step.reply (ys ++ []) ∙ ap (λ z. xs ++ (step.reply ++ z)) (append-nil ys) ∙ text_more in
        unwritten to (rw (← text) (failed_within_both writer start mid to (xs ++ step.reply) ys []
        (went_out_both writer start now mid xs step.reply c.wrote went)
        (failed longer gone.more (state_from so_far gone.happened) gone.reached room)))

-- the byte behind a prefix is refused, or its item
pub refused_as : {S : Type 0} (writer : Writer S) (t : TerminalType) (keys : List (ℕ × Key))
    (start now : S) (old : Player) (new : StationParts) (bytes : List ℕ) (items : List (Item Element))
    → HaveBroughtPlayer (schedule t keys) (outflow writer start now) old bytes items
    → (piece prefix : List ℕ) (byte : ℕ) (rest : List ℕ)
    → piece ≡ prefix ++ byte ∷ rest → HoldsItems element_rules (bytes ++ prefix) items → (refusal : Refusal)
    → IsPrefixTaken (station_driving on_profile) new (bytes ++ (prefix ++ byte ∷ [])) items
    (behind (schedule t keys) items).state (Err refusal)
    → IsRunFault (schedule t keys) (outflow writer start now) (length bytes) (bytes ++ piece) (fault_of refusal)
refused_as writer t keys start now old new bytes items c piece prefix byte rest split held (At place reason) f =
    let upto : (bytes ++ prefix) ++ byte ∷ [] ≡ bytes ++ (prefix ++ byte ∷ []) = append_assoc bytes prefix
    (byte ∷ []) in
    let at : place ≡ length (bytes ++ prefix) =
    omega (arith, f.0.0, ap length upto, length-append (bytes ++ prefix) (byte ∷ [])) in
    record {
      before = bytes;
      prefix = prefix;
      byte = byte;
      after = rest;
      split = ap (λ z. bytes ++ z) split ∙ sym (append_assoc bytes prefix (byte ∷ rest));
      at_place = at;
      prompt = omega (arith, at, length-append bytes prefix);
      items = items;
      station = old.station;
      is_behind = c.is_behind;
      inside = held;
      why = rw upto f.0.1;
      wrote = c.wrote;
    }
refused_as writer t keys start now old new bytes items c piece prefix byte rest split held Failed f = f.0
refused_as writer t keys start now old new bytes items c piece prefix byte rest split held Memory f =
    absurd (elim f.0 [ inl q ↦ cc q.0 | inr item ↦ item.so.3 ])

-- a fault of a last read is one where that read began earlier
pub fault_within : (t : TerminalType) (keys : List (ℕ × Key)) {S : Type 0} (writer : Writer S)
    (start now : S) (first first' : ℕ) (bytes : List ℕ) (fault : Fault) → first' ≤ first
    → IsRunFault (schedule t keys) (outflow writer start now) first bytes fault
    → IsRunFault (schedule t keys) (outflow writer start now) first' bytes fault
fault_within t keys writer start now first first' bytes (Refused place reason) le f = record {
  before = f.before;
  prefix = f.prefix;
  byte = f.byte;
  after = f.after;
  split = f.split;
  at_place = f.at_place;
  prompt = omega (arith, le, f.prompt);
  items = f.items;
  station = f.station;
  is_behind = f.is_behind;
  inside = f.inside;
  why = f.why;
  wrote = f.wrote;
}
fault_within t keys writer start now first first' bytes Write le f = f
fault_within t keys writer start now first first' bytes fault le f = absurd f
