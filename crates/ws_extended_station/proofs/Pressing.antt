-- What a key of the profile makes of a display.
use Rattle.std.specs.Prelude.{OnErr}
use Rattle.std.proofs.Common.{◌≡◌, ◌++◌, Bool, true, false, Option, Some, None, Result, Ok, Err, refl, sym, ap, ◌∙◌}
use Rattle.std.proofs.Common.{subst, is_some, length, ◌&&◌, if◌then◌else◌}
use Rattle.ws_screen.specs.Events.{Edit, History}
use Rattle.ws_screen.specs.ScreenParts.{ScreenParts}
use Rattle.ws_screen.specs.declared.read_kind.ReadKind.{ReadKind}
use Rattle.ws_keys.specs.Keys.{IsPressed, answer_to, edit_of, events_by, key_refusal, refusals}
use Rattle.ws_keys.specs.declared.answer.Answer.{Answer}
use Rattle.ws_keys.specs.declared.answer.Answer.TheVariants.{Read, Attention, SystemRequest}
use Rattle.ws_keys.specs.declared.key.Key.{Key}
use Rattle.ws_keys.specs.declared.key.Key.TheVariants.{Aid as Send, Attention as Attend, SystemRequest as Request}
use Rattle.ws_keys.specs.declared.key.KeyRefusal.{KeyRefusal}
use Rattle.ws_keys.specs.declared.key.KeyRefusal.TheVariants.{Locked}
use Rattle.ws_keys.proofs.StepLemmas.{does_follow}
use Rattle.ws_extended.specs.ErrorLine.{error_row}
use Rattle.ws_extended.specs.ExtendedKeys.{waits_for_reset}
use Rattle.ws_extended.specs.ExtendedViews.{ExtendedParts}
use Rattle.ws_end.specs.declared.station.key_fault.KeyFault.TheVariants.{Key as Refused}
use Rattle.ws_end.specs.station.Displays.{IsPressedOnDisplay, RefusesKey, Silent, Answers}
use Rattle.ws_end.specs.station.StationEndState.{KeyReaction, StationEndState, answers_read, key_by_refusal, presses}
use Rattle.ws_end.specs.station.StationEndState.{profile, ProfileParts, screen_at}
use Rattle.ws_end.proofs.ProfileKeys.{pressed}
use Rattle.ws_extended_station.specs.ExtendedDisplays.{DisplayParts, ExtendedGives, ExtendedEndState, as_profile}
use Rattle.ws_extended_station.specs.ExtendedDisplays.{extended, profile_state, with_profile}
use Rattle.ws_extended_station.specs.declared.extended_key.ExtendedKey.TheVariants.{Profile}

-- no key moves the error line
abbrev StaysInRow : StationEndState → KeyReaction → Type 0
StaysInRow s (Silent next) = error_row s.happened ≡ error_row next.happened
StaysInRow s (Answers next kind aid) = error_row s.happened ≡ error_row next.happened
StaysInRow s reaction = Unit {0}

row_stays : (h : History) (edit : Option Edit) → error_row h ≡ error_row (events_by edit ++ h)
row_stays h None = refl
row_stays h (Some e) = refl

press_stays : (s : StationEndState) (key : Key) → StaysInRow s (presses s key)
press_stays s (Send aid) = go (screen_at s).pending
  where
    go : (o : Option ReadKind) → StaysInRow s (answers_read s aid o)
    go None = row_stays s.happened (edit_of (screen_at s) (Send aid))
    go (Some kind) = row_stays s.happened (edit_of (screen_at s) (Send aid))
press_stays s Attend = tt
press_stays s Request = tt
press_stays s key = row_stays s.happened (edit_of (screen_at s) key)

key_stays : (s : StationEndState) (key : Key) → StaysInRow s (profile.presses s key)
key_stays s key = go (key_refusal (screen_at s) key)
  where
    go : (r : Option KeyRefusal) → StaysInRow s (key_by_refusal s key r)
    go (Some refusal) = tt
    go None = press_stays s key

module _ (d : DisplayParts) (s : ExtendedEndState) (given : ExtendedGives s.happened d) (key : Key) where
  abbrev held : Bool
  held = is_some s.happened.state.kept && waits_for_reset key

  -- the display as one of the profile, with a screen
  abbrev with_screen : ScreenParts → ProfileParts
  with_screen screen = record { screen = screen; alarms = d.alarms }

  stays : (r : KeyReaction) → profile.presses (profile_state s) key ≡ r → StaysInRow (profile_state s) r
  stays r e = subst (λ (x : KeyReaction). StaysInRow (profile_state s) x) e (key_stays (profile_state s) key)

  reacts : (r : KeyReaction) → held ≡ false → profile.presses (profile_state s) key ≡ r
      → extended.presses s (Profile key) ≡ as_profile s r
  reacts r free e = ap (λ (t : Bool). if t then RefusesKey (Refused Locked)
      else as_profile s (profile.presses (profile_state s) key)) free ∙ ap (as_profile s) e

  comes : (new : ScreenParts) (next : StationEndState) → profile.gives next.happened (with_screen new)
      → error_row s.happened.state.history ≡ error_row next.happened
      → ExtendedGives (with_profile s next).happened (record d { display = record d.display { screen = new } })
  comes new next gives row = record {
    shows = record {
      gives = gives.shows;
      row_is = given.shows.row_is ∙ row;
      kept_is = given.shows.kept_is;
      text_is = given.shows.text_is;
    };
    sounds = gives.sounds;
    terminal_is = given.terminal_is;
  }

  -- a key that doesn't wait does here what it does in the profile
  as_there : (new : ScreenParts) (result : Result (Option Answer) KeyRefusal) → held ≡ false
      → IsPressedOnDisplay profile (with_screen d.display.screen) (with_screen new) (profile_state s) key result
      → IsPressedOnDisplay extended d (record d { display = record d.display { screen = new } }) s (Profile key) result
  as_there new (Err refusal) free p = (
    reacts _ free p.0,
    ap (λ (w : ProfileParts).
        record d { display = record d.display { screen = w.screen } }) p.1,
  )
  as_there new (Ok None) free p = (
    with_profile s p.0,
    reacts _ free p.1,
    record { options = p.2.options; given = comes new p.0 p.2.given (stays _ p.1) },
  )
  as_there new (Ok (Some (Read body))) free p = (
    with_profile s p.0,
    p.1,
    p.2,
    reacts _ free p.3,
    p.4,
    record { options = p.5.options; given = comes new p.0 p.5.given (stays _ p.3) },
  )
  as_there new (Ok (Some Attention)) free p = (reacts _ free p.0, comes new (profile_state s) p.1 refl)
  as_there new (Ok (Some SystemRequest)) free p = (reacts _ free p.0, comes new (profile_state s) p.1 refl)

  pub key_pressed : (new : ExtendedParts) (result : Result (Option Answer) KeyRefusal)
      → length d.display.screen.cells ≡ 1920
      → ((is_some d.display.kept && waits_for_reset key) ≡ true → result ≡ Err Locked)
      → ((is_some d.display.kept && waits_for_reset key) ≡ false → IsPressed key d.display.screen new.screen result)
      → new ≡ record d.display { screen = new.screen } → OnErr result (new ≡ d.display)
      → IsPressedOnDisplay extended d (record d { display = new }) s (Profile key) result
  key_pressed new result size waits does same unchanged = go held refl
    where
      now_held : (is_some d.display.kept && waits_for_reset key) ≡ held
      now_held = ap (λ k. is_some k && waits_for_reset key) given.shows.kept_is

      go : (t : Bool) → held ≡ t → IsPressedOnDisplay extended d (record d { display = new }) s (Profile key) result
      go true e =
          let locked : result ≡ Err Locked = waits (now_held ∙ e) in
          let back : new ≡ d.display = subst (λ (r : Result (Option Answer) KeyRefusal). OnErr r (new ≡ d.display))
          locked unchanged in
          subst (λ (r : Result (Option Answer) KeyRefusal). IsPressedOnDisplay extended d (record d { display = new }) s
          (Profile key) r) (sym locked) (
            ap (λ (t : Bool). if t then RefusesKey (Refused Locked)
                else as_profile s (profile.presses (profile_state s) key)) e,
            ap (λ (p : ExtendedParts). record d { display = p }) back,
          )
      go false e =
          let is = does (now_held ∙ e) in
          let there = pressed (with_screen d.display.screen) (profile_state s)
          (record { shows = given.shows.gives; sounds = given.sounds }) size key new.screen result is
          (does_follow (refusals d.display.screen key) (edit_of d.display.screen key)
          (answer_to d.display.screen key) d.display.screen new.screen result is) in
          subst (λ (p : ExtendedParts). IsPressedOnDisplay extended d (record d { display = p }) s (Profile key) result)
          (sym same) (as_there new.screen result e there)
