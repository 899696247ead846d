-- What is told of a display, and the bytes of a saved screen.
use Rattle.std.specs.Option.{is_some}
use Rattle.std.proofs.Common.{◌≡◌, ℕ, ◌≤◌, List, ◌∷◌, false, Option, Some, None, length, refl, sym, ap, ◌∙◌, arith}
use Rattle.std.proofs.Common.{subst}
use Rattle.std.proofs.lemmas.Bool.{false≢true}
use Rattle.ws_code.specs.Code.{spelling_of}
use Rattle.ws_nego.specs.declared.terminal.TerminalType.{TerminalType}
use Rattle.ws_screen.specs.Bodies.{screen_of}
use Rattle.ws_screen.specs.Given.{Gives}
use Rattle.ws_screen.specs.ScreenParts.{IsLegal, ScreenParts}
use Rattle.ws_screen.proofs.ScreenLaws.{one_screen}
use Rattle.ws_extended.specs.ErrorLine.{error_row}
use Rattle.ws_extended.specs.ExtendedElements.{extended_rules}
use Rattle.ws_extended.specs.ExtendedStates.{ExtendedState, Kept, reset_history, saved_screen, told_screen}
use Rattle.ws_extended.specs.ExtendedViews.{ExtendedParts, Shows}
use Rattle.ws_extended.specs.Image.{image}
use Rattle.ws_extended.specs.Saving.{IsSaving}
use Rattle.ws_extended.specs.Telling.{told_bytes, told_of}
use Rattle.ws_extended.specs.declared.ask.Ask.{Ask}
use Rattle.ws_extended.proofs.ImageSizes.{image_size}
use Rattle.ws_extended.proofs.ProfileBodies.{profile_spelled}

none_kept : (k : Option Kept) → is_some k ≡ false → k ≡ None
none_kept None e = refl
none_kept (Some k) e = absurd (false≢true (sym e))

-- where no error stands the screen that is seen is told
pub as_seen : (state : ExtendedState) (display : ExtendedParts) (s : ScreenParts) → Shows state display
    → is_some display.kept ≡ false → s ≡ display.screen → length s.cells ≡ 1920 → s ≡ told_screen state
as_seen state display s shows none is size =
    one_screen state.history s (subst (λ (t : ScreenParts). Gives state.history t) (sym is) shows.gives) size
    ∙ ap (λ (k : Option Kept). screen_of (reset_history state.history k))
    (sym (none_kept display.kept none) ∙ shows.kept_is)

pub told_by : (ask : Ask) (terminal : TerminalType) (row : ℕ) (s : ScreenParts) (items : List ℕ)
    (state : ExtendedState) → items ≡ told_of ask terminal row s → row ≡ error_row state.history
    → s ≡ told_screen state → items ≡ told_bytes ask terminal state
told_by ask terminal row s items state e r p =
    e ∙ ap (λ (n : ℕ). told_of ask terminal n s) r
    ∙ ap (λ (t : ScreenParts). told_of ask terminal (error_row state.history) t) p

-- an image that was saved is whole
pub saved_whole : (row : ℕ) (s : ScreenParts) (saved : List ℕ) → IsLegal s → IsSaving (image row s) saved
    → saved ≡ spelling_of extended_rules (saved_screen row s)
saved_whole row s saved legal saving =
    saving (image_size row s legal)
    ∙ ap (λ (l : List ℕ). 0x04 ∷ 0x12 ∷ l) (sym (profile_spelled (image row s)))

pub saved_fits : (row : ℕ) (s : ScreenParts) (saved : List ℕ) → IsLegal s → IsSaving (image row s) saved
    → length saved ≤ 4254
saved_fits row s saved legal saving =
    omega (
      arith,
      image_size row s legal,
      ap (λ (l : List ℕ). length l) (saving (image_size row s legal)),
    )
