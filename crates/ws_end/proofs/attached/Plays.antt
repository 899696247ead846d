-- What the keys of a run make of its player.

use Rattle.ws_end.proofs.Common as C
use C.{◌≡◌, ◌+◌, ◌≤◌, List, [], ◌∷◌, ◌++◌, refl, ◌∙◌, ℕ, suc, ◌<◌, drop, ap, sym, arith, ◌^◌, min, length, get_or}
use C.{append_assoc, add-one, drop-cons, if◌then◌else◌, Bool, true, false, nat_lt, ◌-◌, nat_tests, flat_map-append}
use C.{append-nil, Writer, FailedWithin, went_out_none, went_out_both, failed_within_both, plain_spelling}
use C.{item_spelling, Item, answer_rules, AnswerPart, Element, Key, Did, Doing, Does, Happening, doing, HasDone}
use C.{refusal_count, HasWritten, HasWrittenPrefix, Player, Applied, KeyFault, due, later, refusals_at, refused_keys}
use C.{records_in, AtStation, StationParts, StationReached, StationEndState, KeyReaction, RefusesKey, station_key}
use C.{station_transitions}
use Rattle.ws_end.specs.Acts.{Arrives}
use Rattle.ws_end.specs.ActLaws.{doing_append}
use Rattle.ws_end.specs.Behaviours.{profile_behaviour}
use Rattle.ws_end.specs.driver.DriverBehaviour.{DriverTraces}
use Rattle.ws_end.specs.station.StationActs.{IsKeyRefusalOn, IsKeyTakenOn}
use Rattle.ws_end.specs.station.StationEndState.{on_profile}
use Rattle.ws_end.specs.station.Stations.{station_driving}
use Rattle.ws_end.proofs.EndRequests.{key_did}

-- the text of what is written
abbrev pub text_of : List (Item AnswerPart) → List ℕ
text_of items = plain_spelling answer_rules items

-- the text that a station writes from this state
abbrev pub text_from : StationEndState → List (Happening Element Key) → List ℕ
text_from s hs = text_of (doing station_transitions s hs).written

-- where it stands then
abbrev pub state_from : StationEndState → List (Happening Element Key) → StationEndState
state_from s hs = (doing station_transitions s hs).state

pub text_append : (s : StationEndState) (hs gs : List (Happening Element Key))
    → text_from s (hs ++ gs) ≡ text_from s hs ++ text_from (state_from s hs) gs
text_append s hs gs = ap (λ (d : Doing StationEndState AnswerPart Applied). text_of d.written)
    (doing_append station_transitions s hs gs) ∙ flat_map-append (item_spelling answer_rules)
    (doing station_transitions s hs).written (doing station_transitions (state_from s hs) gs).written

pub state_append : (s : StationEndState) (hs gs : List (Happening Element Key))
    → state_from s (hs ++ gs) ≡ state_from (state_from s hs) gs
state_append s hs gs = ap (λ (d : Doing StationEndState AnswerPart Applied). d.state)
    (doing_append station_transitions s hs gs)

pub refused_append : (s : StationEndState) (hs gs : List (Happening Element Key))
    → refused_keys s (hs ++ gs) ≡ refused_keys s hs + refused_keys (state_from s hs) gs
refused_append s [] gs = omega arith
refused_append s (Arrives item ∷ hs) gs = refused_append (station_transitions.at s (Arrives item)).state hs gs
refused_append s (Does key ∷ hs) gs =
    omega (arith, refused_append (station_transitions.at s (Does key)).state hs gs)

-- ---- a key

unrefused : (z : KeyReaction) → ((fault : KeyFault) → z ≡ RefusesKey fault → ⊥) → refusals_at z ≡ 0
unrefused (RefusesKey fault) taken = absurd (taken fault refl)
unrefused z taken = refl

module _ {S : Type 0} (writer : Writer S) (old : Player) (bytes : List ℕ)
    (items : List (Item Element)) (state : StationEndState) (key : Key) (station : StationParts) (from to : S)
    (l : StationReached old.station bytes items state) (few : length bytes + 1 < 2 ^ 64) where
  pressed : (text : List ℕ) (events : List Applied)
      → DriverTraces (station_driving on_profile) old.station (Did key ∷ []) text events station
      → (text ≡ text_from state (Does key ∷ []))
      × StationReached station bytes items (state_from state (Does key ∷ []))
  pressed text events traces =
      key_did _ bytes items state key text events (traces.led bytes items state l (omega (arith, few)))

  pub taken_done : HasWritten profile_behaviour writer old.station station from to (Did key ∷ []) []
      → IsKeyTakenOn on_profile old.station key
      → HasDone writer bytes items old (record old { station = station }) from to state (Does key ∷ [])
  taken_done h taken =
      let p = pressed _ [] h.led in
      let none = unrefused (station_key state key) (taken.led bytes items state l few) in
      record {
        reached = p.1;
        refused = λ before is. is ∙ ap refusal_count
            (let e : before ≡ before + refused_keys state (Does key ∷ []) = omega (arith, none) in e);
        wrote = rw (← p.0) h.wrote;
      }

  pub press_failed : HasWrittenPrefix profile_behaviour writer old.station station from to (Did key ∷ [])
      → FailedWithin writer from to (text_from state (Does key ∷ []))
  press_failed h = rw (← (pressed _ _ h.led).0) h.failed

  pub refused_done : (fault : KeyFault) (count : ℕ) → station ≡ old.station → to ≡ from
      → IsKeyRefusalOn on_profile old.station key fault → count ≡ min (old.keys_refused + 1) (2 ^ 32 - 1)
      → HasDone writer bytes items old (record old { station = station; keys_refused = count }) from to state
      (Does key ∷ [])
  refused_done fault count same unwritten refusal is =
      let e = refusal.led bytes items state l few in
      record {
        reached = rw (e, same) l;
        refused = λ before q. rw e (let f : count ≡ refusal_count (before + (1 + 0)) = omega (arith, q, is) in f);
        wrote = rw (e, unwritten) (went_out_none writer from);
      }

-- one after another
module _ {S : Type 0} (writer : Writer S) (bytes : List ℕ) (items : List (Item Element)) where
  pub done_both : (old mid new : Player) (place : ℕ) (from between to : S) (state : StationEndState)
      (hs gs : List (Happening Element Key)) → HasDone writer bytes items old mid from between state hs
      → HasDone writer bytes items mid new between to (state_from state hs) gs
      → HasDone writer bytes items old (record new { pressed = place }) from to state (hs ++ gs)
  done_both old mid new place from between to state hs gs p q = record {
    reached = rw (state_append state hs gs) q.reached;
    refused = λ before is. q.refused _ (p.refused before is) ∙ ap refusal_count
        (let e : (before + refused_keys state hs) + refused_keys (state_from state hs) gs
        ≡ before + refused_keys state (hs ++ gs) = omega (arith, refused_append state hs gs) in e);
    wrote = rw (text_append state hs gs) (went_out_both writer from between to _ _ p.wrote q.wrote);
  }

-- ---- the keys that are due

due_by : (n : ℕ) (k : ℕ × Key) (ks : List (ℕ × Key)) → nat_lt n k.0 ≡ false → due n (k ∷ ks) ≡ Does k.1 ∷ due n ks
due_by n k ks e = ap (λ (b : Bool). if b then [] else Does k.1 ∷ due n ks) e

pub later_by : (n : ℕ) (k : ℕ × Key) (ks : List (ℕ × Key)) → nat_lt n k.0 ≡ false → later n (k ∷ ks) ≡ later n ks
later_by n k ks e = ap (λ (b : Bool). if b then k ∷ ks else later n ks) e

pub none_due : (n : ℕ) (k : ℕ × Key) (ks : List (ℕ × Key)) → nat_lt n k.0 ≡ true → (due n (k ∷ ks) ≡ [])
    × (later n (k ∷ ks) ≡ k ∷ ks)
none_due n k ks e = (
  ap (λ (b : Bool). if b then [] else Does k.1 ∷ due n ks) e,
  ap (λ (b : Bool). if b then k ∷ ks else later n ks) e,
)

pub next_key : (keys : List (ℕ × Key)) (p : ℕ) (k : ℕ × Key) → p < length keys → k ≡ get_or keys p k → drop p keys
    ≡ k ∷ drop (p + 1) keys
next_key keys p k h e = drop-cons keys p k h ∙ ap (λ z. z ∷ drop (suc p) keys) (sym e) ∙ ap (λ n. k ∷ drop n keys)
    (sym (add-one p))

-- what the loop over the keys keeps: those so far were due and are pressed
pub record Pressed {S : Type 0} (writer : Writer S) (first now : Player) (from to : S) (keys : List (ℕ × Key))
    (bytes : List ℕ) (items : List (Item Element)) (state : StationEndState) : Type 0 where
  pub happened : List (Happening Element Key)
  pub due_is : due (records_in items) (drop first.pressed keys)
      ≡ happened ++ due (records_in items) (drop now.pressed keys)
  pub later_is : later (records_in items) (drop first.pressed keys) ≡ later (records_in items) (drop now.pressed keys)
  pub did : HasDone writer bytes items first now from to state happened

-- so it is of whatever led to the station
abbrev pub Pressing : {S : Type 0} → Writer S → Player → Player → S → S → List (ℕ × Key) → Type 0
Pressing writer first now from to keys = AtStation first.station (λ bytes items state. length bytes + 1 < 2 ^ 64
    → Pressed writer first now from to keys bytes items state)

-- the keys that are due have been pressed, and these are left
abbrev pub PressedAll : {S : Type 0} → Writer S → Player → Player → S → S → List (ℕ × Key) → Type 0
PressedAll writer first now from to keys = AtStation first.station (λ bytes items state. length bytes + 1 < 2 ^ 64
    → HasDone writer bytes items first now from to state (due (records_in items) (drop first.pressed keys))
    × (drop now.pressed keys ≡ later (records_in items) (drop first.pressed keys)))

module _ {S : Type 0} (writer : Writer S) where
  pub pressing_starts : (first : Player) (from : S) (keys : List (ℕ × Key))
      → Pressing writer first first from from keys
  pressing_starts first from keys bytes items state l few = record {
    happened = [];
    due_is = refl;
    later_is = refl;
    did = record {
      reached = l;
      refused = λ before is. is ∙ ap refusal_count (let e : before ≡ before + 0 = omega arith in e);
      wrote = went_out_none writer from;
    };
  }

  module _ (first now : Player) (from mid : S) (keys : List (ℕ × Key))
      (p : Pressing writer first now from mid keys) where
    ends_by : (bytes : List ℕ) (items : List (Item Element)) (state : StationEndState)
        → Pressed writer first now from mid keys bytes items state
        → due (records_in items) (drop now.pressed keys) ≡ []
        → later (records_in items) (drop now.pressed keys) ≡ drop now.pressed keys
        → HasDone writer bytes items first now from mid state (due (records_in items) (drop first.pressed keys))
        × (drop now.pressed keys ≡ later (records_in items) (drop first.pressed keys))
    ends_by bytes items state d none left = (
      rw (d.due_is ∙ ap (λ z. d.happened ++ z) none ∙ append-nil d.happened) d.did,
      sym left ∙ sym d.later_is,
    )

    -- all keys are pressed
    pub pressing_ends : drop now.pressed keys ≡ [] → PressedAll writer first now from mid keys
    pressing_ends none bytes items state l few = ends_by bytes items state (p bytes items state l few)
        (ap (due (records_in items)) none) (ap (later (records_in items)) none ∙ sym none)

    module _ (k : ℕ × Key) (more : now.pressed < length keys) (is : k ≡ get_or keys now.pressed k) (here n : ℕ)
        (number : n ≡ k.0) (counted : AtStation now.station (λ bytes items state. here ≡ records_in items)) where
      -- the next one isn't due
      pub pressing_waits : here < n → PressedAll writer first now from mid keys
      pressing_waits less bytes items state l few =
          let d = p bytes items state l few in
          let at = counted bytes items (state_from state d.happened) d.did.reached in
          let test : nat_lt (records_in items) k.0 ≡ true = grind (arith, nat_tests, at, less, number) in
          let rest = next_key keys now.pressed k more is in
          let none = none_due (records_in items) k (drop (now.pressed + 1) keys) test in
          ends_by bytes items state d (ap (due (records_in items)) rest ∙ none.0)
          (ap (later (records_in items)) rest ∙ none.1 ∙ sym rest)

      module _ (reached : n ≤ here) where
        test : (bytes : List ℕ) (items : List (Item Element)) (state : StationEndState)
            → Pressed writer first now from mid keys bytes items state → nat_lt (records_in items) k.0 ≡ false
        test bytes items state d =
            let at = counted bytes items (state_from state d.happened) d.did.reached in
            grind (arith, nat_tests, at, reached, number)

        rest_due : (bytes : List ℕ) (items : List (Item Element)) (state : StationEndState)
            → (d : Pressed writer first now from mid keys bytes items state)
            → due (records_in items) (drop first.pressed keys)
            ≡ (d.happened ++ Does k.1 ∷ []) ++ due (records_in items) (drop (now.pressed + 1) keys)
        rest_due bytes items state d = d.due_is ∙ ap (λ z. d.happened ++ z) (ap (due (records_in items))
            (next_key keys _ k more is) ∙ due_by _ k _ (test bytes items state d))
            ∙ sym (append_assoc d.happened (Does k.1 ∷ []) (due (records_in items) (drop (now.pressed + 1) keys)))

        pub pressing_next : (next : Player) (to : S) (place : ℕ) → place ≡ now.pressed + 1
            → AtStation now.station (λ bytes items state. length bytes + 1 < 2 ^ 64
            → HasDone writer bytes items now next mid to state (Does k.1 ∷ []))
            → Pressing writer first (record next { pressed = place }) from to keys
        pressing_next next to place at q bytes items state l few =
            let d = p bytes items state l few in
            record {
              happened = d.happened ++ Does k.1 ∷ [];
              due_is = rest_due bytes items state d
                  ∙ ap (λ n. (d.happened ++ Does k.1 ∷ []) ++ due (records_in items) (drop n keys)) (sym at);
              later_is = d.later_is ∙ ap (later (records_in items)) (next_key keys _ k more is)
                  ∙ later_by _ k _ (test bytes items state d)
                  ∙ ap (λ n. later (records_in items) (drop n keys)) (sym at);
              did = done_both writer bytes items first now next place from mid to state d.happened (Does k.1 ∷ []) d.did
                  (q bytes items _ d.did.reached few);
            }

        -- a write failed at the key
        pub pressing_fails : (to : S) → AtStation now.station (λ bytes items state. length bytes + 1 < 2 ^ 64
            → FailedWithin writer mid to (text_from state (Does k.1 ∷ [])))
            → AtStation first.station (λ bytes items state. length bytes + 1 < 2 ^ 64 → FailedWithin
            writer from to (text_from state (due (records_in items) (drop first.pressed keys))))
        pressing_fails to q bytes items state l few =
            let d = p bytes items state l few in
            let s = state_from state d.happened in
            let rest : List (Happening Element Key) = due (records_in items) (drop (now.pressed + 1) keys) in
            let text : text_from state (due (records_in items) (drop first.pressed keys)) ≡ text_from state d.happened
            ++ (text_from s (Does k.1 ∷ []) ++ text_from (state_from s (Does k.1 ∷ [])) rest) =
            ap (text_from state) (rest_due bytes items state d ∙ append_assoc d.happened (Does k.1 ∷ []) rest)
            ∙ text_append state d.happened (Does k.1 ∷ rest)
            ∙ ap (λ z. text_from state d.happened ++ z) (text_append s (Does k.1 ∷ []) rest) in
            rw text (failed_within_both writer from mid to _ _ _ d.did.wrote (q bytes items s d.did.reached few))
