-- What a key that changes the screen makes of a display.
use Rattle.std.specs.Prelude.{OnErr, OnOk}
use Rattle.std.proofs.Common.{◌≡◌, List, ◌∷◌, Bool, true, false, Option, Some, None, Result, Ok, Err, refl, sym, ap}
use Rattle.std.proofs.Common.{◌∙◌, subst, is_some, length, if◌then◌else◌}
use Rattle.ws_screen.specs.Bodies.{screen_of}
use Rattle.ws_screen.specs.Events.{Edit, keyed}
use Rattle.ws_screen.specs.ScreenParts.{ScreenParts}
use Rattle.ws_screen.proofs.ScreenLaws.{one_screen}
use Rattle.ws_keys.specs.Keys.{Does, first_refusal}
use Rattle.ws_keys.specs.declared.answer.Answer.{Answer}
use Rattle.ws_keys.specs.declared.key.KeyRefusal.{KeyRefusal}
use Rattle.ws_keys.specs.declared.key.KeyRefusal.TheVariants.{Locked}
use Rattle.ws_extended.specs.ExtendedStates.{ExtendedState}
use Rattle.ws_extended.specs.ExtendedViews.{ExtendedParts, Shows}
use Rattle.ws_end.specs.declared.station.key_fault.KeyFault.TheVariants.{Key as Refused}
use Rattle.ws_end.specs.station.Alarms.{alarm_count}
use Rattle.ws_end.specs.station.Displays.{KeyReactionOn, RefusesKey}
use Rattle.ws_end.proofs.AlarmLaws.{alarms_behind_key}
use Rattle.ws_extended_station.specs.ExtendedDisplays.{DisplayParts, ExtendedEndState, ExtendedGives, ExtendedHappened}
use Rattle.ws_extended_station.specs.ExtendedDisplays.{with_state}
use Rattle.ws_extended_station.specs.ScreenKeys.{IsChanged, changes, changes_by}

module _ (d : DisplayParts) (s : ExtendedEndState) (given : ExtendedGives s.happened d)
    (size : length d.display.screen.cells ≡ 1920) (refusals : ScreenParts → List (Bool × KeyRefusal))
    (edit : ScreenParts → Edit) where
  abbrev old : ScreenParts
  old = d.display.screen

  abbrev reaction : KeyReactionOn ExtendedHappened
  reaction = changes refusals edit s

  -- by whether an error stands, on the screen in hand
  reacts : (t : Bool) → is_some s.happened.state.kept ≡ t
      → reaction ≡ (if t then RefusesKey (Refused Locked) else changes_by s (edit old) (first_refusal (refusals old)))
  reacts t e =
      let now : ScreenParts = screen_of s.happened.state.history in
      ap (λ (b : Bool). if b then RefusesKey (Refused Locked)
      else changes_by s (edit now) (first_refusal (refusals now))) e
      ∙ ap (λ (w : ScreenParts). if t then RefusesKey (Refused Locked)
      else changes_by s (edit w) (first_refusal (refusals w)))
      (sym (one_screen s.happened.state.history old given.shows.gives size))

  free : (new : ExtendedParts) (result : Result (Option Answer) KeyRefusal) → is_some s.happened.state.kept ≡ false
      → Does (refusals old) (Some (edit old)) None old new.screen result → OnErr result (new ≡ d.display)
      → OnOk result ((state : ExtendedState) → Shows state d.display
      → Shows (record state { history = keyed (edit old) ∷ state.history }) new)
      → IsChanged d (record d { display = new }) s reaction result
  free new (Err refusal) e does unchanged shows = (
    reacts false e ∙ ap (changes_by s (edit old)) does.0,
    ap (λ (p : ExtendedParts). record d { display = p }) unchanged,
  )
  free new (Ok sent) e does unchanged shows = (
    does.2,
    with_state s (record s.happened.state { history = keyed (edit old) ∷ s.happened.state.history }),
    reacts false e ∙ ap (changes_by s (edit old)) does.0,
    refl,
    record {
      shows = shows s.happened.state given.shows;
      sounds = given.sounds
          ∙ ap alarm_count (sym (alarms_behind_key s.happened.state.history (Some (edit old))));
      terminal_is = given.terminal_is;
    },
  )

  pub key_changed : (new : ExtendedParts) (result : Result (Option Answer) KeyRefusal)
      → (is_some d.display.kept ≡ true → result ≡ Err Locked)
      → (is_some d.display.kept ≡ false → Does (refusals old) (Some (edit old)) None old new.screen result)
      → OnErr result (new ≡ d.display)
      → OnOk result ((state : ExtendedState) → Shows state d.display
      → Shows (record state { history = keyed (edit old) ∷ state.history }) new)
      → IsChanged d (record d { display = new }) s reaction result
  key_changed new result waits does unchanged shows = go (is_some s.happened.state.kept) refl
    where
      go : (t : Bool) → is_some s.happened.state.kept ≡ t → IsChanged d (record d { display = new }) s reaction result
      go true e =
          let locked : result ≡ Err Locked = waits (ap is_some given.shows.kept_is ∙ e) in
          let back : new ≡ d.display = subst (λ (r : Result (Option Answer) KeyRefusal). OnErr r (new ≡ d.display))
          locked unchanged in
          subst (λ (r : Result (Option Answer) KeyRefusal). IsChanged d (record d { display = new }) s reaction r)
          (sym locked) (reacts true e, ap (λ (p : ExtendedParts). record d { display = p }) back)
      go false e = free new result e (does (ap is_some given.shows.kept_is ∙ e)) unchanged shows
