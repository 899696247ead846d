-- What sounds of what a live host sends, and what doesn't.
use Rattle.std.specs.List.{flat_map}
use Rattle.std.specs.Prelude.{cond}
use Rattle.std.proofs.Common.{◌≡◌, ℕ, ◌+◌, List, [], ◌∷◌, ◌++◌, Bool, true, false, Option, Some, None, map, refl, ap}
use Rattle.std.proofs.Common.{◌∙◌, arith, replicate, if◌then◌else◌}
use Rattle.std.proofs.lemmas.List.Sums.{sum_by-append, sum_by-cons}
use Rattle.ws_code.specs.declared.address.TheConstants.{COLUMNS}
use Rattle.ws_record.specs.declared.record.Record.{Record}
use Rattle.ws_stream.specs.declared.element.Element.{Element}
use Rattle.ws_stream.specs.declared.element.Element.TheVariants.{Write, Soh, Sba, Ic, Put, Mc}
use Rattle.ws_screen.specs.Bodies.{after_elements, after_end, screen_of}
use Rattle.ws_screen.specs.Controls.{has_bit}
use Rattle.ws_screen.specs.Events.{History}
use Rattle.ws_screen.specs.ScreenParts.{ScreenParts}
use Rattle.ws_screen.specs.declared.control.TheConstants.{UNLOCK, MESSAGE_ON, MESSAGE_OFF, BLINK_ON, BLINK_OFF}
use Rattle.ws_screen.specs.declared.field.Field.{Field}
use Rattle.ws_screen.specs.declared.read_kind.ReadKind.{ReadKind}
use Rattle.ws_screen.specs.declared.read_kind.ReadKind.TheVariants.{Input, Mdt, MdtAlternate}
use Rattle.ws_extended.specs.ErrorLine.{RESETS, error_begins, error_row, given_back, put_row, row_start, shows_text}
use Rattle.ws_extended.specs.ExtendedStates.{ExtendedState, Kept, covered, gives_back, reset_history, saved_screen}
use Rattle.ws_extended.specs.ExtendedStates.{state_after, state_after_all, state_after_reset, state_before, uncovered}
use Rattle.ws_extended.specs.ExtendedStates.{rolled_by, uncovers}
use Rattle.ws_extended.specs.Image.{field_image, start_of_header_bytes, home_image, image, lights, read_image}
use Rattle.ws_extended.specs.RollParts.{RollParts}
use Rattle.ws_extended.specs.Rolling.{roll_shown, rolled}
use Rattle.ws_extended.specs.declared.extended_element.ExtendedElement.{ExtendedElement}
use Rattle.ws_extended.specs.declared.extended_element.ExtendedElement.TheVariants.{Profile, Text, RestoreScreen}
use Rattle.ws_extended.specs.declared.extended_element.ExtendedElement.TheVariants.{Roll, WriteError, Asks}
use Rattle.ws_end.specs.declared.station.alarm.TheConstants.{ALARM}
use Rattle.ws_end.specs.station.Alarms.{alarms_in, alarms_of, sounds_alarm}
use Rattle.ws_end.proofs.AlarmLaws.{alarms_behind, alarms_behind_all, alarms_behind_end, alarms_behind_opcode}
use Rattle.ws_extended_station.specs.ExtendedAlarms.{extended_alarms_in, extended_sounds}
use Rattle.ws_extended_station.specs.ExtendedRecords.{state_after_record}

-- ROWS

alarms_in-append : (es fs : List Element) → alarms_in (es ++ fs) ≡ alarms_in es + alarms_in fs
alarms_in-append es fs = sum_by-append (λ e. cond (sounds_alarm e) 1 0) es fs

cells_silent : (bytes : List ℕ) → alarms_in (map Put bytes) ≡ 0
cells_silent [] = refl
cells_silent (b ∷ bytes) = omega (arith, cells_silent bytes)

row_silent : (row : ℕ) (bytes : List ℕ) → alarms_in (put_row row bytes) ≡ 0
row_silent row bytes = omega (arith, cells_silent bytes)

write_silent : (cc1 cc2 : ℕ) → has_bit ALARM cc2 ≡ false → (es : List Element)
    → alarms_in (Write cc1 cc2 ∷ es) ≡ alarms_in es
write_silent cc1 cc2 none es =
    let it : ◌≡◌ {A = ℕ} (cond (has_bit ALARM cc2) 1 0) 0 = ap (λ (b : Bool). cond b 1 0) none in
    omega (arith, it, sum_by-cons (λ x. cond (sounds_alarm x) 1 0) (Write cc1 cc2) es)

back_silent : (cc2 : ℕ) → has_bit ALARM cc2 ≡ false → (kept : Option Kept) → alarms_in (gives_back cc2 kept) ≡ 0
back_silent cc2 none None = refl
back_silent cc2 none (Some kept) = omega (
  arith,
  write_silent 0 cc2 none (put_row kept.row kept.cells),
  row_silent kept.row kept.cells,
)

error_silent : (row : ℕ) → alarms_in (error_begins row) ≡ 0
error_silent row = omega (
  arith,
  write_silent 0x20 0 refl (put_row row (replicate COLUMNS 0) ++ (Sba (row_start row) ∷ [])),
  alarms_in-append (put_row row (replicate COLUMNS 0)) (Sba (row_start row) ∷ []),
  row_silent row (replicate COLUMNS 0),
)

-- STATES

uncovered_silent : (state : ExtendedState) → alarms_of (uncovered 0 state).history ≡ alarms_of state.history
uncovered_silent state = omega (
  arith,
  alarms_behind_all state.history (gives_back 0 state.kept),
  back_silent 0 refl state.kept,
)

covered_silent : (state : ExtendedState) → alarms_of (covered state).history ≡ alarms_of state.history
covered_silent state = omega (
  arith,
  alarms_behind_all state.history (error_begins (error_row state.history)),
  error_silent (error_row state.history),
)

rolled_silent : (r : RollParts) (state : ExtendedState) → alarms_of (rolled_by r state).history
    ≡ alarms_of state.history
rolled_silent r state =
    let cells : List ℕ = rolled r (screen_of state.history).cells in
    let es : List Element = roll_shown r (screen_of state.history).cells in
    omega (
      arith,
      alarms_behind_end (after_elements state.history es),
      alarms_behind_all state.history es,
      write_silent 0 0 refl (put_row r.top cells),
      row_silent r.top cells,
    )

ready_silent : (state : ExtendedState) (e : Element)
    → alarms_of (state_before state e).history ≡ alarms_of state.history
ready_silent state e = go (uncovers e)
  where
    go : (t : Bool) → alarms_of (if t then uncovered 0 state else state).history ≡ alarms_of state.history
    go true = uncovered_silent state
    go false = refl

text_alike : (e : Element) → sounds_alarm (shows_text e) ≡ sounds_alarm e
text_alike (Ic place) = refl
text_alike e = refl

after_one : (state : ExtendedState) (u : ExtendedElement)
    → alarms_of (state_after state u).history ≡ alarms_of state.history + extended_alarms_in (u ∷ [])
after_one state (Profile e) =
    omega (arith, alarms_behind (state_before state e).history e, ready_silent state e)
after_one state (Text e) =
    let same : alarms_in (shows_text e ∷ []) ≡ alarms_in (e ∷ []) = ap (λ (b : Bool). 0 + cond b 1 0) (text_alike e) in
    omega (arith, alarms_behind state.history (shows_text e), same)
after_one state RestoreScreen =
    omega (arith, alarms_behind_end (uncovered 0 state).history, uncovered_silent state)
after_one state (Roll r) = omega (arith, rolled_silent r (uncovered 0 state), uncovered_silent state)
after_one state WriteError = omega (arith, covered_silent (uncovered 0 state), uncovered_silent state)
after_one state (Asks ask) = omega (arith, alarms_behind_end state.history)

after_several : (state : ExtendedState) (us : List ExtendedElement)
    → alarms_of (state_after_all state us).history ≡ alarms_of state.history + extended_alarms_in us
after_several state [] = omega arith
after_several state (u ∷ us) = omega (
  arith,
  after_several (state_after state u) us,
  after_one state u,
  sum_by-cons (λ x. cond (extended_sounds x) 1 0) u us,
)

-- a record sounds by its elements alone
pub alarms_behind_record : (state : ExtendedState) (r : Record ExtendedElement)
    → alarms_of (state_after_record state r).history ≡ alarms_of state.history + extended_alarms_in r.body
alarms_behind_record state r =
    let behind : History = (state_after_all state r.body).history in
    omega (
      arith,
      alarms_behind_opcode (after_end behind) r.opcode,
      alarms_behind_end behind,
      after_several state r.body,
    )

reset_silent : (h : History) (kept : Option Kept) → alarms_of (reset_history h kept) ≡ alarms_of h
reset_silent h None = refl
reset_silent h (Some kept) =
    let back : List Element = given_back RESETS kept.row kept.cells in
    omega (
      arith,
      alarms_behind_end (after_elements h back),
      alarms_behind_all h back,
      write_silent 0 RESETS refl (put_row kept.row kept.cells),
      row_silent kept.row kept.cells,
    )

-- nor does Reset
pub alarms_behind_reset : (state : ExtendedState)
    → alarms_of (state_after_reset state).history ≡ alarms_of state.history
alarms_behind_reset state = reset_silent state.history state.kept

-- A SCREEN THAT WAS SAVED

fields_silent : (fields : List Field) → alarms_in (flat_map field_image fields) ≡ 0
fields_silent [] = refl
fields_silent (f ∷ fields) = omega (
  arith,
  alarms_in-append (field_image f) (flat_map field_image fields),
  fields_silent fields,
)

home_silent : (place : Option ℕ) → alarms_in (home_image place) ≡ 0
home_silent None = refl
home_silent (Some place) = refl

read_silent : (pending : Option ReadKind) → alarms_in (read_image pending) ≡ 0
read_silent None = refl
read_silent (Some Input) = refl
read_silent (Some Mdt) = refl
read_silent (Some MdtAlternate) = refl

lights_silent : (s : ScreenParts) → has_bit ALARM (lights s) ≡ false
lights_silent s = go s.locked s.message s.blink
  where
    go : (locked message blink : Bool) → has_bit ALARM ((if locked then 0 else UNLOCK)
        + (if message then MESSAGE_ON else MESSAGE_OFF) + (if blink then BLINK_ON else BLINK_OFF)) ≡ false
    go true true true = refl
    go true true false = refl
    go true false true = refl
    go true false false = refl
    go false true true = refl
    go false true false = refl
    go false false true = refl
    go false false false = refl

image_silent : (row : ℕ) (s : ScreenParts) → alarms_in (image row s) ≡ 0
image_silent row s =
    let cells : List Element = map Put s.cells in
    let end : List Element = Mc s.cursor ∷ read_image s.pending in
    let rest : List Element = home_image s.home_set ++ (Sba 0 ∷ (cells ++ end)) in
    let body : List Element = flat_map field_image s.fields ++ rest in
    omega (
      arith,
      write_silent 0 (lights s) (lights_silent s) (Soh (start_of_header_bytes row s.switches) ∷ body),
      alarms_in-append (flat_map field_image s.fields) rest,
      fields_silent s.fields,
      alarms_in-append (home_image s.home_set) (Sba 0 ∷ (cells ++ end)),
      home_silent s.home_set,
      alarms_in-append cells end,
      cells_silent s.cells,
      read_silent s.pending,
    )

there : (es : List Element) → extended_alarms_in (map Profile es) ≡ alarms_in es
there [] = refl
there (e ∷ es) = omega (
  arith,
  there es,
  sum_by-cons (λ x. cond (extended_sounds x) 1 0) (Profile e) (map Profile es),
  sum_by-cons (λ x. cond (sounds_alarm x) 1 0) e es,
)

pub saved_silent : (row : ℕ) (s : ScreenParts) → extended_alarms_in (saved_screen row s) ≡ 0
saved_silent row s = there (image row s) ∙ image_silent row s
