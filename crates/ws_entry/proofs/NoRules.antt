-- Where no format word asks for something beside the profile, keys do what they do there.
use Rattle.std.specs.List.{list_any}
use Rattle.std.specs.Option.{option_map_or}
use Rattle.std.proofs.Common.{◌≡◌, ℕ, ◌-◌, List, [], ◌∷◌, Bool, true, false, Option, Some, None, refl, sym, ap, ◌∙◌}
use Rattle.std.proofs.Common.{find}
use Rattle.std.proofs.Common.{◌&&◌, ◌||◌, ◌==◌, not, is_some, if◌then◌else◌, unwrap_or}
use Rattle.ws_code.specs.CodePage.{byte_on, page_number}
use Rattle.ws_code.specs.FormatWord.{is_monocase}
use Rattle.ws_code.specs.declared.code_page.CodePage.{CodePage}
use Rattle.ws_screen.specs.Bodies.{screen_of}
use Rattle.ws_screen.specs.Keyed.{cells_of, only_open, open_field, returns_data}
use Rattle.ws_screen.specs.ScreenParts.{ScreenParts, holds, is_non_bypass}
use Rattle.ws_screen.specs.declared.field.Field.{Field}
use Rattle.ws_keys.specs.Keys.{between, last_entry_cell, of_open}
use Rattle.ws_keys.specs.declared.key.Key.{Key}
use Rattle.ws_keys.specs.declared.key.Key.TheVariants.{Char, Insert, FieldExit, FieldMinus, Dup, Aid}
use Rattle.ws_keys.specs.declared.key.KeyRefusal.{KeyRefusal}
use Rattle.ws_keys.specs.declared.key.KeyRefusal.TheVariants.{MandatoryFill}
use Rattle.ws_extended_station.specs.ExtendedDisplays.{ExtendedEndState, extended}
use Rattle.ws_extended_station.specs.declared.extended_key.ExtendedKey.{ExtendedKey}
use Rattle.ws_extended_station.specs.declared.extended_key.ExtendedKey.TheVariants.{Profile, Reset}
use Rattle.ws_entry.specs.EntryDisplays.{EntryEndState, as_extended, carried_through, entered_key, entered_on}
use Rattle.ws_entry.specs.EntryDisplays.{by_format_words}
use Rattle.ws_entry.specs.EntryDisplays.{extended_state, full_behind, unless_held}
use Rattle.ws_entry.specs.EntryLaws.{AsksNoMore, asks_more}
use Rattle.ws_entry.specs.EntryRules.{are_mixed, as_typed, capital, char_by, ends_blank, ends_by_itself, entering}
use Rattle.ws_entry.specs.EntryRules.{enters_full, fills, full_after, is_entered}
use Rattle.ws_entry.specs.EntryRules.{held_up, is_auto_enter, is_field_exit_required, is_followed, is_mandatory_fill}
use Rattle.ws_entry.specs.EntryRules.{is_numeric_only, is_partly_filled, lacks_bytes}
use Rattle.ws_entry.specs.Following.{follows}
use Rattle.ws_entry.specs.declared.entering.Entering.TheVariants.{Char as CharThere, Insert as InsertThere, Minus}
use Rattle.ws_entry.specs.declared.typed_key.TypedKey.{TypedKey}

-- a test that asks for more fails at each field
abbrev FailsWith : (Field → Bool) → Type 0
FailsWith test = (f : Field) → asks_more f ≡ false → test f ≡ false

first_false : (a b : Bool) → (a || b) ≡ false → a ≡ false
first_false false b e = refl
first_false true b e = e

rest_false : (a b : Bool) → (a || b) ≡ false → b ≡ false
rest_false false b e = e
rest_false true b e = absurd (cc)

found_fails : (p : Field → Bool) (fs : List Field) (f : Field) → list_any asks_more fs ≡ false → find p fs ≡ Some f
    → asks_more f ≡ false
found_fails p [] f none e = absurd (cc)
found_fails p (g ∷ gs) f none e =
    go (p g) e (λ later. found_fails p gs f (rest_false (asks_more g) (list_any asks_more gs) none) later)
  where
    go : (t : Bool) → (if t then Some g else find p gs) ≡ Some f → (find p gs ≡ Some f → asks_more f ≡ false)
        → asks_more f ≡ false
    go true e ih = ap asks_more (sym (ap (λ o. unwrap_or o g) e))
        ∙ first_false (asks_more g) (list_any asks_more gs) none
    go false e ih = ih e

open_fails : (s : ScreenParts) (test : Field → Bool) → list_any asks_more s.fields ≡ false → FailsWith test
    → of_open s test ≡ false
open_fails s test none fails = go (find (λ f. holds f s.cursor) s.fields) refl
  where
    opens : (f : Field) (t : Bool) → asks_more f ≡ false
        → option_map_or test (if t then Some f else None) false ≡ false
    opens f true e = fails f e
    opens f false e = refl

    go : (o : Option Field) → find (λ f. holds f s.cursor) s.fields ≡ o
        → option_map_or test (option_map_or only_open o None) false ≡ false
    go None e = refl
    go (Some f) e = opens f (is_non_bypass f) (found_fails (λ f. holds f s.cursor) s.fields f none e)

any_fails : (fs : List Field) (test : Field → Bool) → list_any asks_more fs ≡ false → FailsWith test
    → list_any test fs ≡ false
any_fails [] test none fails = refl
any_fails (f ∷ fs) test none fails =
    ap (λ t. t || list_any test fs) (fails f (first_false (asks_more f) (list_any asks_more fs) none))
    ∙ any_fails fs test (rest_false (asks_more f) (list_any asks_more fs) none) fails

-- the four parts of what is asked, each as a test
not_required : FailsWith (λ f. is_field_exit_required f.format)
not_required f e = first_false _ _ (first_false _ _ (first_false _ _ e))

not_entered : FailsWith (λ f. is_auto_enter f.format)
not_entered f e = rest_false _ _ (first_false _ _ (first_false _ _ e))

not_mandatory : FailsWith (λ f. is_mandatory_fill f.format)
not_mandatory f e = rest_false _ _ (first_false _ _ e)

not_numeric : FailsWith (λ f. is_numeric_only f.format)
not_numeric f e = rest_false _ _ e

and_false : (a b : Bool) → a ≡ false → (a && b) ≡ false
and_false a b e = ap (λ t. t && b) e

module _ (s : ScreenParts) (none : list_any asks_more s.fields ≡ false) where
  none_fills : of_open s (fills s) ≡ false
  none_fills = open_fails s (fills s) none (λ f e. and_false _ _ (not_required f e))

  none_enters : of_open s (λ f. is_auto_enter f.format) ≡ false
  none_enters = open_fails s (λ f. is_auto_enter f.format) none not_entered

  none_partly : lacks_bytes s ≡ false
  none_partly = any_fails s.fields (is_partly_filled s) none (λ f e.
      and_false _ (is_entered f && are_mixed (cells_of s f)) (not_mandatory f e))

  never : (refusal : KeyRefusal) (a : Bool) → (if a && lacks_bytes s then Some refusal else None) ≡ None
  never refusal true = ap (λ t. if t then Some refusal else None) none_partly
  never refusal false = refl

  no_entering : (key : Key) → ((c : ℕ) → key ≡ Insert c → of_open s (ends_blank s) ≡ false)
      → entering s false key ≡ None
  no_entering (Char c) room = ap (λ t. if t then Some (CharThere c) else None) none_fills
  no_entering (Insert c) room =
      ap (λ t. if t || of_open s (ends_blank s) then Some (InsertThere c) else None) none_fills
      ∙ ap (λ t. if t then Some (InsertThere c) else None) (room c refl)
  no_entering FieldMinus room =
      ap (λ t. if t then Some Minus else None) (open_fails s (λ f. is_numeric_only f.format) none not_numeric)
  no_entering key room = refl

  no_hold : (key : Key) → held_up s false key ≡ None
  no_hold FieldExit = never MandatoryFill (is_some (open_field s))
  no_hold FieldMinus = never MandatoryFill (is_some (open_field s))
  no_hold (Aid aid) = never MandatoryFill (is_some s.pending && returns_data s aid)
  no_hold key = refl

  not_full : (key : Key) → full_after s false key ≡ false
  not_full (Char c) = none_fills
  not_full (Insert c) = none_fills
  not_full key = refl

  full_of : of_open s (enters_full s) ≡ false
  full_of = open_fails s (enters_full s) none (λ f e.
      and_false _ (ends_by_itself f && (s.cursor == last_entry_cell f)) (not_entered f e))

  none_follows : (key : ExtendedKey) → follows s key ≡ false
  none_follows Reset = refl
  none_follows (Profile key) = go key
    where
      go : (key : Key) → is_followed s key ≡ false
      go (Char c) = full_of
      go (Insert c) = full_of
      go FieldExit = none_enters
      go FieldMinus = none_enters
      go Dup = none_enters
      go key = refl

pub alone : (s : ScreenParts) (k : TypedKey) → AsksNoMore s k → follows s k.key ≡ false
alone s k a = none_follows s a.words k.key

either : (b : Bool) (o : Option KeyRefusal) → o ≡ None → (if b then None else o) ≡ None
either true o e = refl
either false o e = e

module _ (s : EntryEndState) (page : CodePage) where
  abbrev now : ScreenParts
  now = screen_of s.happened.shown.state.history

  abbrev there : ExtendedEndState
  there = extended_state s

  at_key : list_any asks_more now.fields ≡ false → (key : ExtendedKey)
      → ((k : Key) → key ≡ Profile k → entered_key page now k ≡ k)
      → ((c : ℕ) → key ≡ Profile (Insert c) → of_open now (ends_blank now) ≡ false)
      → as_extended (full_behind now false key) (entered_on now there false page key)
      ≡ as_extended false (extended.presses there key)
  at_key none Reset typed room = refl
  at_key none (Profile key) typed room =
      let kept : Bool = is_some s.happened.shown.state.kept || now.locked in
      ap (λ t. as_extended t (entered_on now there false page (Profile key))) (not_full now none key)
      ∙ ap (λ k. as_extended false (unless_held (carried_through there k (entering now false k))
      (if kept then None else held_up now false k))) (typed key refl)
      ∙ ap (λ o. as_extended false (unless_held (carried_through there key o)
      (if kept then None else held_up now false key)))
      (no_entering now none key (λ c e. room c (ap Profile e)))
      ∙ ap (λ o. as_extended false (unless_held (extended.presses there (Profile key)) o))
      (either kept (held_up now false key) (no_hold now none key))

pub same : (s : EntryEndState) (k : TypedKey) → s.happened.full ≡ false
    → AsksNoMore (screen_of s.happened.shown.state.history) k
    → by_format_words.presses s k ≡ as_extended false (extended.presses (extended_state s) k.key)
same s k full a =
    let now : ScreenParts = screen_of s.happened.shown.state.history in
    ap (λ t. as_extended (full_behind now t k.key) (entered_on now (extended_state s) t k.page k.key)) full
    ∙ at_key s k.page a.words k.key a.typed a.room

pub typed : (page : CodePage) (s : ScreenParts) (c : ℕ) → page_number page ≡ 37 → between 0xE0 0xFE c ≡ false
    → as_typed page s c ≡ c
typed page s c is other = ap (λ n. if n == 37 then entered else char_by (byte_on page entered)) is
    ∙ go (of_open s (λ f. is_monocase f.format))
  where
    entered : ℕ
    entered = if of_open s (λ f. is_monocase f.format) then capital c else c

    go : (t : Bool) → (if t then capital c else c) ≡ c
    go true = ap (λ b. if b && not (c == 0xF7) then c - 0x20 else c) other
    go false = refl
