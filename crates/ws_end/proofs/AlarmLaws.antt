-- How many alarms sound in a body that is read, and by what has happened.

use Rattle.ws_end.proofs.Common as C
use C.{◌&&◌, ◌≡◌, ◌+◌, List, [], ◌∷◌, ◌++◌, refl, ◌∙◌, ℕ, Option, Some, None, ap, arith, if◌then◌else◌, Bool, true}
use C.{false, IsChain, spelling_of, Reason, Opcode, CancelInvite, Record, element_prefix_free, element_begins}
use C.{element_rules, Element, Place, after_elements, after_end, History, Edit, open_write, events_by, opcode_events}
use C.{after_record}
use Rattle.std.specs.Prelude.{cond, count_by}
use Rattle.std.proofs.lemmas.List.Sums.{sum_by-append, sum_by-cons}
use Rattle.ws_code.specs.Run.{Reading}
use Rattle.ws_code.specs.declared.run.End.{End}
use Rattle.ws_code.specs.declared.run.End.TheVariants.{Bad}
use Rattle.ws_code.specs.declared.run.Standing.{Standing}
use Rattle.ws_record.specs.declared.opcode.Opcode.TheVariants.{MessageLightOn, MessageLightOff}
use Rattle.ws_stream.specs.Elements.{is_command}
use Rattle.ws_screen.specs.Bodies.{after_element}
use Rattle.ws_screen.specs.Events.{ended, did}
use Rattle.ws_screen.specs.Given.{ends_of, events_of}
use Rattle.ws_screen.specs.declared.open_write.OpenWrite.{OpenWrite}
use Rattle.ws_end.specs.station.Alarms.{alarm_count, alarms_in, alarms_of, is_alarm, sounds_alarm}
use Rattle.ws_end.proofs.Reading.{HasRead, IsSlotRun, ran_none, ran_some, read_all, read_none}

alarms_of-append : (es h : History) → alarms_of (es ++ h) ≡ alarms_of es + alarms_of h
alarms_of-append es h = sum_by-append (λ e. cond (is_alarm e) 1 0) es h

ends_silent : (w : Option OpenWrite) → alarms_of (ends_of w) ≡ 0
ends_silent None = refl
ends_silent (Some w) = refl

one_element : (w : Option OpenWrite) (e : Element) → alarms_of (events_of w e) ≡ alarms_in (e ∷ [])
one_element None e = go (is_command e)
  where
    go : (t : Bool) → alarms_of (if t && false then did e ∷ ended ∷ [] else did e ∷ []) ≡ alarms_in (e ∷ [])
    go true = omega arith
    go false = refl
one_element (Some w) e = go (is_command e)
  where
    go : (t : Bool) → alarms_of (if t && true then did e ∷ ended ∷ [] else did e ∷ []) ≡ alarms_in (e ∷ [])
    go true = omega arith
    go false = refl

-- an element's alarm, those of several, and none at the end of a write
pub alarms_behind : (h : History) (e : Element) → alarms_of (after_element h e) ≡ alarms_of h + alarms_in (e ∷ [])
alarms_behind h e = omega (
  arith,
  alarms_of-append (events_of (open_write h) e) h,
  one_element (open_write h) e,
)

pub alarms_behind_all : (h : History) (es : List Element)
    → alarms_of (after_elements h es) ≡ alarms_of h + alarms_in es
alarms_behind_all h [] = omega arith
alarms_behind_all h (e ∷ es) = omega (
  arith,
  alarms_behind_all (after_element h e) es,
  alarms_behind h e,
  sum_by-cons (λ x. cond (sounds_alarm x) 1 0) e es,
)

pub alarms_behind_end : (h : History) → alarms_of (after_end h) ≡ alarms_of h
alarms_behind_end h = omega (arith, alarms_of-append (ends_of (open_write h)) h, ends_silent (open_write h))

opcode_silent : (opcode : Opcode) → alarms_of (opcode_events opcode) ≡ 0
opcode_silent CancelInvite = refl
opcode_silent MessageLightOn = refl
opcode_silent MessageLightOff = refl
opcode_silent opcode = refl

pub alarms_behind_opcode : (h : History) (opcode : Opcode) → alarms_of (opcode_events opcode ++ h) ≡ alarms_of h
alarms_behind_opcode h opcode = omega (arith, alarms_of-append (opcode_events opcode) h, opcode_silent opcode)

pub alarms_behind_record : (h : History) (r : Record Element)
    → alarms_of (after_record h r) ≡ alarms_of h + alarms_in r.body
alarms_behind_record h r = omega (
  arith,
  alarms_behind_opcode (after_end (after_elements h r.body)) r.opcode,
  alarms_behind_end (after_elements h r.body),
  alarms_behind_all h r.body,
)

-- a key is silent
pub alarms_behind_key : (h : History) (edit : Option Edit) → alarms_of (events_by edit ++ h) ≡ alarms_of h
alarms_behind_key h None = refl
alarms_behind_key h (Some edit) = omega arith

-- COUNTS

-- those of a record are added to those so far
pub counts_added : (events more n m : ℕ) → events ≡ alarm_count n → more ≡ alarm_count m
    → alarm_count (events + more) ≡ alarm_count (n + m)
counts_added events more n m so_far of_record = omega (arith, so_far, of_record)

-- one unit more, by whether it sounds
pub counts_one : {U : Type 0} (sounds : U → Bool) (alarms next : ℕ) (us : List U) (u : U)
    → alarms ≡ alarm_count (count_by sounds us) → (sounds u ≡ true → next ≡ alarm_count (alarms + 1))
    → (sounds u ≡ false → next ≡ alarms) → next ≡ alarm_count (count_by sounds (us ++ u ∷ []))
counts_one sounds alarms next us u so_far one none = go (sounds u) refl
  where
    more : count_by sounds (us ++ u ∷ []) ≡ count_by sounds us + count_by sounds (u ∷ [])
    more = sum_by-append (λ x. cond (sounds x) 1 0) us (u ∷ [])

    go : (t : Bool) → sounds u ≡ t → next ≡ alarm_count (count_by sounds (us ++ u ∷ []))
    go true is =
        let it : count_by sounds (u ∷ []) ≡ 1 = ap (λ (b : Bool). 0 + cond b 1 0) is in
        omega (arith, more, it, so_far, one is)
    go false is =
        let it : count_by sounds (u ∷ []) ≡ 0 = ap (λ (b : Bool). 0 + cond b 1 0) is in
        omega (arith, more, it, so_far, none is)

-- A body of which these bytes were read: its elements that are whole sound so many alarms.
pub record HasCounted (bytes : List ℕ) (reading : Reading Place) (alarms : ℕ) : Type 0 where
  pub units : List Element
  pub read : HasRead element_rules bytes units reading
  pub counted : alarms ≡ alarm_count (alarms_in units)

pub counted_none : (reading : Reading Place) → reading ≡ record { place = element_rules.first; begun = [] }
    → HasCounted [] reading 0
counted_none reading first = record {
  units = [];
  read = read_none element_rules element_begins reading first;
  counted = refl;
}

pub counted_at : (bytes bytes' : List ℕ) (reading : Reading Place) (alarms alarms' : ℕ) → bytes' ≡ bytes
    → alarms' ≡ alarms → HasCounted bytes reading alarms → HasCounted bytes' reading alarms'
counted_at bytes bytes' reading alarms alarms' e f c = rw (e, f) c

module _ (bytes : List ℕ) (reading : Reading Place) (alarms : ℕ) (c : HasCounted bytes reading alarms) where
  pub counted_still : (values : List ℕ) (to : Reading Place) (standing : Standing Place) (slot : Option Element)
      (end : End) → IsSlotRun element_rules reading values to standing slot end → slot ≡ None
      → ((reason : Reason) → end ≡ Bad reason → ⊥) → HasCounted (bytes ++ values) to alarms
  counted_still values to standing slot end run none good = record {
    units = c.units;
    read = (ran_none element_rules bytes c.units reading c.read values to standing slot end run none good).0;
    counted = c.counted;
  }

  pub counted_more : (values : List ℕ) (to : Reading Place) (standing : Standing Place) (slot : Option Element)
      (end : End) → IsSlotRun element_rules reading values to standing slot end → (e : Element) → slot ≡ Some e
      → (next : ℕ) → (sounds_alarm e ≡ true → next ≡ alarm_count (alarms + 1))
      → (sounds_alarm e ≡ false → next ≡ alarms) → HasCounted (bytes ++ values) to next
  counted_more values to standing slot end run e some next sounds silent =
      let one = ran_some element_rules bytes c.units reading c.read values to standing slot element_begins end run e
      some in
      record {
        units = c.units ++ e ∷ [];
        read = one.one_more;
        counted = counts_one sounds_alarm alarms next c.units e c.counted sounds silent;
      }

  pub counted_all : (body : List Element) → IsChain element_rules element_rules.first body
      → bytes ≡ spelling_of element_rules body → alarms ≡ alarm_count (alarms_in body)
  counted_all body chain same = c.counted ∙ ap (λ (es : List Element). alarm_count (alarms_in es))
      (read_all element_rules bytes c.units reading c.read element_prefix_free element_begins body chain same)
