-- What a key gives the display that acts on format words.
use Rattle.std.proofs.Common.{◌≡◌, ℕ, Bool, true, false, Option, Some, None, Result, Ok, Err, refl, sym, ap, ◌∙◌}
use Rattle.std.proofs.Common.{subst, is_some, ◌&&◌, ◌||◌, if◌then◌else◌}
use Rattle.ws_code.specs.declared.code_page.CodePage.{CodePage}
use Rattle.ws_record.specs.declared.opcode.Opcode.{Opcode}
use Rattle.ws_screen.specs.Bodies.{screen_of}
use Rattle.ws_screen.specs.ScreenParts.{ScreenParts}
use Rattle.ws_screen.specs.declared.read_kind.ReadKind.{ReadKind}
use Rattle.ws_keys.specs.Keys.{first_refusal, key_refusal}
use Rattle.ws_keys.specs.declared.answer.Answer.{Answer}
use Rattle.ws_keys.specs.declared.answer.Answer.TheVariants.{Read, Attention, SystemRequest}
use Rattle.ws_keys.specs.declared.key.Key.{Key}
use Rattle.ws_keys.specs.declared.key.Key.TheVariants.{Char, Insert, Aid as Send, Attention as Attend}
use Rattle.ws_keys.specs.declared.key.Key.TheVariants.{SystemRequest as Request}
use Rattle.ws_keys.specs.declared.key.KeyRefusal.{KeyRefusal}
use Rattle.ws_keys.specs.declared.key.KeyRefusal.TheVariants.{Locked}
use Rattle.ws_extended.specs.ExtendedKeys.{waits_for_reset}
use Rattle.ws_end.specs.declared.station.key_fault.KeyFault.TheVariants.{Key as Refused}
use Rattle.ws_end.specs.station.Displays.{IsPressedOnDisplay, KeyReactionOn, RefusesKey, Silent, Answers}
use Rattle.ws_end.specs.station.Displays.{Signals}
use Rattle.ws_end.specs.station.StationEndState.{KeyReaction, StationEndState, answers_read, key_by_refusal, presses}
use Rattle.ws_end.specs.station.StationEndState.{profile, screen_at}
use Rattle.ws_extended_station.specs.ExtendedDisplays.{DisplayParts, ExtendedEndState, ExtendedHappened, as_profile}
use Rattle.ws_extended_station.specs.ExtendedDisplays.{extended, profile_state}
use Rattle.ws_extended_station.specs.ScreenKeys.{IsChanged, changes_by}
use Rattle.ws_extended_station.specs.declared.extended_key.ExtendedKey.{ExtendedKey}
use Rattle.ws_extended_station.specs.declared.extended_key.ExtendedKey.TheVariants.{Profile, Reset}
use Rattle.ws_entry.specs.EntryDisplays.{EntryEndState, IsGivenBy, as_extended, carried_through, entered_key}
use Rattle.ws_entry.specs.EntryDisplays.{entered_on, by_format_words, entry_state, extended_state, full_behind}
use Rattle.ws_entry.specs.EntryDisplays.{unless_held}
use Rattle.ws_entry.specs.EntryRules.{entering, entering_edit, entering_refusals, full_after, held_up}
use Rattle.ws_entry.specs.declared.entering.Entering.{Entering}
use Rattle.ws_entry.specs.declared.typed_key.TypedKey.{TypedKey}

-- a key of the display that live hosts use
pub there : (d new : DisplayParts) (s : ExtendedEndState) (key : ExtendedKey)
    (result : Result (Option Answer) KeyRefusal)
    → IsPressedOnDisplay extended d new s key result → IsGivenBy d new s (extended.presses s key) result
there d new s key (Err refusal) p = p
there d new s key (Ok None) p = (p.0, p.1, record { options = p.2.options; given = p.2.given })
there d new s key (Ok (Some (Read body))) p =
    (p.0, p.1, p.2, p.3, p.4, record { options = p.5.options; given = p.5.given })
there d new s key (Ok (Some Attention)) p = p
there d new s key (Ok (Some SystemRequest)) p = p

-- a key that changes the screen
pub changed : (d new : DisplayParts) (s : ExtendedEndState) (reaction : KeyReactionOn ExtendedHappened)
    (result : Result (Option Answer) KeyRefusal) → IsChanged d new s reaction result → IsGivenBy d new s reaction result
changed d new s reaction (Err refusal) p = p
changed d new s reaction (Ok sent) p =
    subst (λ (o : Option Answer). IsGivenBy d new s reaction (Ok o)) (sym p.0)
    (p.1, p.2, record { options = p.3; given = p.4 })

-- WHETHER THE OPEN FIELD IS FULL AFTER A KEY THAT SENDS NO ANSWER BUT A SIGNAL

abbrev Keeps : {H : Type 0} → Bool → Bool → KeyReactionOn H → Type 0
Keeps full behind (Signals opcode flags) = behind ≡ full
Keeps full behind reaction = Unit {0}

module _ (w : ScreenParts) (full : Bool) where
  press_keeps : (s : StationEndState) (key : Key) → Keeps full (full_after w full key) (presses s key)
  press_keeps s (Send aid) = go (screen_at s).pending
    where
      go : (o : Option ReadKind) → Keeps full full (answers_read s aid o)
      go None = tt
      go (Some kind) = tt
  press_keeps s Attend = refl
  press_keeps s Request = refl
  press_keeps s key = tt

  key_keeps : (s : ExtendedEndState) (key : Key) → Keeps full (full_after w full key) (extended.presses s (Profile key))
  key_keeps s key = held (is_some s.happened.state.kept && waits_for_reset key)
    where
      there_keeps : (r : KeyReaction) → Keeps full (full_after w full key) r
          → Keeps full (full_after w full key) (as_profile s r)
      there_keeps (RefusesKey fault) k = tt
      there_keeps (Silent next) k = tt
      there_keeps (Answers next kind aid) k = tt
      there_keeps (Signals opcode flags) k = k

      free : (r : Option KeyRefusal) → Keeps full (full_after w full key) (key_by_refusal (profile_state s) key r)
      free (Some refusal) = tt
      free None = press_keeps (profile_state s) key

      held : (t : Bool) → Keeps full (full_after w full key) (if t then RefusesKey (Refused Locked)
          else as_profile s (profile.presses (profile_state s) key))
      held true = tt
      held false = there_keeps (profile.presses (profile_state s) key)
          (free (key_refusal (screen_at (profile_state s)) key))

  carried_keeps : (s : ExtendedEndState) (key : Key) (o : Option Entering)
      → Keeps full (full_after w full key) (carried_through s key o)
  carried_keeps s key None = key_keeps s key
  carried_keeps s key (Some e) = waits (is_some s.happened.state.kept)
    where
      now : ScreenParts
      now = screen_of s.happened.state.history

      by : (r : Option KeyRefusal) → Keeps full (full_after w full key) (changes_by s (entering_edit e now) r)
      by (Some refusal) = tt
      by None = tt

      waits : (t : Bool) → Keeps full (full_after w full key) (if t then RefusesKey (Refused Locked)
          else changes_by s (entering_edit e now) (first_refusal (entering_refusals e now)))
      waits true = tt
      waits false = by (first_refusal (entering_refusals e now))

  same_after : (page : CodePage) (key : Key) → full_after w full (entered_key page w key) ≡ full_after w full key
  same_after page (Char c) = refl
  same_after page (Insert c) = refl
  same_after page key = refl

  keeps : (s : ExtendedEndState) (page : CodePage) (key : ExtendedKey)
      → Keeps full (full_behind w full key) (entered_on w s full page key)
  keeps s page Reset = tt
  keeps s page (Profile key) = subst (λ (t : Bool). Keeps full t (entered_on w s full page (Profile key)))
      (same_after page key) (go (if is_some s.happened.state.kept || w.locked then None else held_up w full typed))
    where
      typed : Key
      typed = entered_key page w key

      go : (o : Option KeyRefusal)
          → Keeps full (full_after w full typed) (unless_held (carried_through s typed (entering w full typed)) o)
      go (Some refusal) = tt
      go None = carried_keeps s typed (entering w full typed)

-- ON THIS DISPLAY

module _ (d new : DisplayParts) (s : EntryEndState) (k : TypedKey) (full behind : Bool) (same : full ≡ s.happened.full)
    (screen : d.display.screen ≡ screen_of s.happened.shown.state.history)
    (is : behind ≡ full_behind d.display.screen full k.key) where
  abbrev reaction : KeyReactionOn ExtendedHappened
  reaction = entered_on d.display.screen (extended_state s) full k.page k.key

  -- on the screen in hand the reaction is that of the events
  reacts : by_format_words.presses s k ≡ as_extended behind reaction
  reacts =
      ap (λ (w : ScreenParts). as_extended (full_behind w s.happened.full k.key)
      (entered_on w (extended_state s) s.happened.full k.page k.key)) (sym screen)
      ∙ ap (λ (t : Bool). as_extended (full_behind d.display.screen t k.key)
      (entered_on d.display.screen (extended_state s) t k.page k.key)) (sym same)
      ∙ ap (λ (t : Bool). as_extended t reaction) (sym is)

  stays : (opcode : Opcode) (flags : ℕ) → reaction ≡ Signals opcode flags → behind ≡ s.happened.full
  stays opcode flags e = is ∙ subst (λ (r : KeyReactionOn ExtendedHappened).
      Keeps full (full_behind d.display.screen full k.key) r) e
      (keeps d.display.screen full (extended_state s) k.page k.key) ∙ same

  -- a refused key
  pub refused_here : (refusal : KeyRefusal) → IsGivenBy d new (extended_state s) reaction (Err refusal)
      → IsPressedOnDisplay by_format_words (record { display = d; full = full })
      (record { display = new; full = full }) s k
      (Err refusal)
  refused_here refusal p =
      (reacts ∙ ap (as_extended behind) p.0, ap (λ (e : DisplayParts). record { display = e; full = full }) p.1)

  -- a key that is carried out
  pub carried_here : (sent : Option Answer) → IsGivenBy d new (extended_state s) reaction (Ok sent)
      → IsPressedOnDisplay by_format_words (record { display = d; full = full })
      (record { display = new; full = behind }) s k
      (Ok sent)
  carried_here None p = (
    entry_state behind p.0,
    reacts ∙ ap (as_extended behind) p.1,
    record { options = p.2.options; given = record { shown = p.2.given; full = refl } },
  )
  carried_here (Some (Read body)) p = (
    entry_state behind p.0,
    p.1,
    p.2,
    reacts ∙ ap (as_extended behind) p.3,
    p.4,
    record { options = p.5.options; given = record { shown = p.5.given; full = refl } },
  )
  carried_here (Some Attention) p =
      (reacts ∙ ap (as_extended behind) p.0, record { shown = p.1; full = stays _ _ p.0 })
  carried_here (Some SystemRequest) p =
      (reacts ∙ ap (as_extended behind) p.0, record { shown = p.1; full = stays _ _ p.0 })
