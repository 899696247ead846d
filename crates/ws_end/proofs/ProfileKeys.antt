-- What a key makes of the profile's display.

use Rattle.ws_end.proofs.Common as C
use C.{OnOk, ◌≡◌, refl, subst, ◌∙◌, ℕ, Option, Some, None, ap, sym, length, Err, Ok, Result, FollowsAll, ScreenParts}
use C.{ReadKind, one_screen, answer_bytes, edit_of, events_by, key_refusal, answer_to, IsPressed, Read, Key, Send}
use C.{Attend, PressRequest, KeyRefusal, StationEndState, after_key, screen_at, answers_read, key_by_refusal}
use Rattle.std.specs.Option.{option_map}
use Rattle.ws_keys.specs.declared.answer.Answer.{Answer}
use Rattle.ws_end.specs.station.Alarms.{alarm_count}
use Rattle.ws_end.specs.station.Displays.{IsPressedOnDisplay, ComesTo}
use Rattle.ws_end.specs.station.StationEndState.{ProfileGives, ProfileParts, profile}
use Rattle.ws_end.proofs.AlarmLaws.{alarms_behind_key}

module _ (d : ProfileParts) (state : StationEndState) (given : ProfileGives state.happened d)
    (size : length d.screen.cells ≡ 1920) where
  abbrev old : ScreenParts
  old = d.screen

  -- with another screen
  abbrev on : ScreenParts → ProfileParts
  on screen = record d { screen = screen }

  same : old ≡ screen_at state
  same = one_screen state.happened old given.shows size

  reacts : (key : Key) (r : Option KeyRefusal) → key_refusal old key ≡ r
      → profile.presses state key ≡ key_by_refusal state key r
  reacts key r e = ap (key_by_refusal state key) (ap (λ s. key_refusal s key) (sym same) ∙ e)

  -- the state behind the key
  comes : (key : Key) (new : ScreenParts) → FollowsAll (events_by (edit_of old key)) old new
      → ComesTo profile (on new) state (after_key state key)
  comes key new f =
      let g : FollowsAll (events_by (edit_of (screen_at state) key)) old new = rw (← same) f in
      record {
        options = refl;
        given = record {
          shows = g.after state.happened given.shows;
          sounds = given.sounds ∙ ap alarm_count
              (sym (alarms_behind_key state.happened (edit_of (screen_at state) key)));
        };
      }

  -- an AID, by the pending read
  answers : (aid : ℕ) → (o : Option ReadKind) → profile.presses state (Send aid) ≡ answers_read state aid o
      → (new : ScreenParts) → ComesTo profile (on new) state (after_key state (Send aid))
      → IsPressedOnDisplay profile d (on new) state (Send aid) (Ok (option_map
      (λ kind. Read (answer_bytes kind old aid)) o))
  answers aid None is new led = (after_key state (Send aid), is, led)
  answers aid (Some kind) is new led =
      (after_key state (Send aid), kind, aid, is, ap (λ s. answer_bytes kind s aid) same, led)

  -- a key that isn't refused
  does : (key : Key) → key_refusal old key ≡ None → (new : ScreenParts)
      → FollowsAll (events_by (edit_of old key)) old new → IsPressedOnDisplay profile d (on new) state key
      (Ok (answer_to old key))
  does (Send aid) none new f = answers aid _ (reacts (Send aid) None none
      ∙ ap (λ s. answers_read state aid s.pending) (sym same)) new (comes (Send aid) new f)
  does Attend none new f = (reacts Attend None none, (comes Attend new f).given)
  does PressRequest none new f = (reacts PressRequest None none, (comes PressRequest new f).given)
  does key none new f = (after_key state key, reacts key None none, comes key new f)

  pub pressed : (key : Key) (new : ScreenParts) (result : Result (Option Answer) KeyRefusal)
      → IsPressed key old new result → OnOk result (FollowsAll (events_by (edit_of old key)) old new) → IsPressedOnDisplay
      profile d (on new) state key result
  pressed key new (Ok sent) p f = subst (λ (s : Option Answer). IsPressedOnDisplay profile d (on new) state key (Ok s))
      (sym p.2) (does key p.0 new f)
  pressed key new (Err refusal) p f = (reacts key _ p.0, ap on p.1)
