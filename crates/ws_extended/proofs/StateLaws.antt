-- Displays with an error line, as the profile's elements, a saved screen and an error leave them.
use Rattle.std.proofs.Common.{◌≡◌, ℕ, ◌<◌, List, [], ◌∷◌, ◌++◌, Bool, true, false, Option, Some, None, map, refl, sym}
use Rattle.std.proofs.Common.{ap, ◌∙◌, subst, unwrap_or, if◌then◌else◌}
use Rattle.ws_code.specs.Code.{IsWhole}
use Rattle.ws_stream.specs.declared.element.Element.{Element}
use Rattle.ws_screen.specs.Bodies.{after_element, after_elements, after_end, element_fault, screen_of}
use Rattle.ws_screen.specs.Events.{History}
use Rattle.ws_screen.specs.Given.{Gives, ends_of}
use Rattle.ws_screen.specs.ScreenParts.{IsLegal, ScreenParts}
use Rattle.ws_screen.specs.Writes.{open_write}
use Rattle.ws_screen.specs.declared.open_write.OpenWrite.{OpenWrite}
use Rattle.ws_screen.proofs.ScreenLaws.{one_screen}
use Rattle.ws_extended.specs.ErrorLine.{IsErrorText, IsRow, error_begins, error_row, error_shown, row_cells, row_of}
use Rattle.ws_extended.specs.ErrorLine.{shows_text, text_cursor}
use Rattle.ws_extended.specs.ExtendedElements.{extended_rules}
use Rattle.ws_extended.specs.ExtendedStates.{ExtendedState, bytes_behind, saved_screen, state_after, state_after_all}
use Rattle.ws_extended.specs.ExtendedStates.{state_after_end, state_after_reset, state_fault, uncovered, uncovers}
use Rattle.ws_extended.specs.Image.{IsTyped, image}
use Rattle.ws_extended.specs.declared.extended_element.ExtendedElement.TheVariants.{Profile, Text, WriteError}
use Rattle.ws_extended.proofs.Carrying.{after_both}
use Rattle.ws_extended.proofs.ErrorLaws.{reset_gives}
use Rattle.ws_extended.proofs.ImageBodies.{image_is_body}
use Rattle.ws_extended.proofs.ImageLaws.{image_gives}
use Rattle.ws_extended.proofs.ImageSizes.{image_row}
use Rattle.ws_extended.proofs.ProfileBodies.{profile_body}

-- a display on which no error stands
abbrev pub plain : History → ℕ → ExtendedState
plain h n = record { history = h; kept = None; text = n }

-- there an element of the profile does what it does in it
acts : (h : History) (n : ℕ) (e : Element) → state_after (plain h n) (Profile e) ≡ plain (after_element h e) n
acts h n e = go (uncovers e)
  where
    before : Bool → ExtendedState
    before t = if t then uncovered 0 (plain h n) else plain h n

    go : (t : Bool) → record (before t) { history = after_element (before t).history e } ≡ plain (after_element h e) n
    go true = refl
    go false = refl

pub profile_acts : (h : History) (n : ℕ) (es : List Element) → state_after_all (plain h n) (map Profile es)
    ≡ plain (after_elements h es) n
profile_acts h n [] = refl
profile_acts h n (e ∷ es) = ap (λ (state : ExtendedState). state_after_all state (map Profile es)) (acts h n e)
    ∙ profile_acts (after_element h e) n es

-- and is refused alike
pub profile_faults : (h : History) (n : ℕ) (e : Element) → state_fault (plain h n) (Profile e) ≡ element_fault h e
profile_faults h n e = go (uncovers e)
  where
    go : (t : Bool) → element_fault (if t then uncovered 0 (plain h n) else plain h n).history e ≡ element_fault h e
    go true = refl
    go false = refl

-- the end of a write leaves none open
pub ends_closed : (h : History) → open_write (after_end h) ≡ None
ends_closed h = go (open_write h) refl
  where
    go : (w : Option OpenWrite) → open_write h ≡ w → open_write (ends_of w ++ h) ≡ None
    go None e = e
    go (Some o) e = refl

-- A SAVED SCREEN

module _ (row : ℕ) (s : ScreenParts) (state : ExtendedState) where
  -- what stands after Restore Screen comes to this display
  abbrev behind : History
  behind = after_end (uncovered 0 state).history

  image_acts : state_after_all state (saved_screen row s) ≡ plain (after_elements behind (image row s)) state.text
  image_acts = profile_acts behind state.text (image row s)

  pub restored_row : error_row (state_after_end (state_after_all state (saved_screen row s))).history ≡ row_of row
  restored_row = ap (λ (k : ExtendedState). error_row (after_end k.history)) image_acts ∙ image_row row s behind

  pub none_stands : (state_after_all state (saved_screen row s)).kept ≡ None
  none_stands = ap (λ (k : ExtendedState). k.kept) image_acts

-- whatever stood on a display, a saved screen that comes back is as it was
pub restores : (g : History) (s : ScreenParts) → Gives g s → IsLegal s → s.writing ≡ None → (row : ℕ)
    (state : ExtendedState) → s ≡ screen_of (state_after_end (state_after_all state (saved_screen row s))).history
restores g s given legal closed row state =
    let behind : History = after_end (uncovered 0 state).history in
    image_gives g s given legal closed row behind (ends_closed (uncovered 0 state).history)
    ∙ ap (λ (k : ExtendedState). screen_of (after_end k.history)) (sym (image_acts row s state))

-- what is sent at Save Screen is a body of live hosts
pub saved_is_body : (row : ℕ) (s : ScreenParts) → IsLegal s → IsTyped s → row < 256
    → IsWhole extended_rules (saved_screen row s)
saved_is_body row s legal typed small =
    let body : IsWhole extended_rules (map Profile (image row s)) =
    profile_body (image row s) (image_is_body row s legal typed small) in
    record { chain = (record { is_unit = tt; may_follow = refl }, body.chain); ends = refl }

-- AN ERROR

-- how long a text is after another
abbrev text_behind : ℕ → List Element → ℕ
text_behind n [] = n
text_behind n (e ∷ text) = text_behind (bytes_behind n e) text

-- text does what it shows
texts_act : (state : ExtendedState) (text : List Element) → state_after_all state (map Text text) ≡ record state {
  history = after_elements state.history (map shows_text text);
  text = text_behind state.text text;
}
texts_act state [] = refl
texts_act state (e ∷ text) = texts_act (state_after state (Text e)) text

-- an error where none stands, and Reset
pub error_resets : (h : History) (s : ScreenParts) → Gives h s → IsLegal s → s.writing ≡ None → (n : ℕ)
    (text : List Element) → IsErrorText text → IsRow (error_row h)
    → Gives (state_after_reset (state_after_end (state_after_all (plain h n) (WriteError ∷ map Text text)))).history
    (record s { locked = false; cursor = unwrap_or (text_cursor text None) s.cursor })
error_resets h s given legal closed n text texts at =
    let row : ℕ = error_row h in
    let showing : History → List ℕ → ℕ → ExtendedState = λ k cells count.
    record { history = k; kept = Some (record { row = row; cells = row_cells row cells }); text = count } in
    let begun : History = after_elements h (error_begins row) in
    let shown : state_after_all (plain h n) (WriteError ∷ map Text text)
    ≡ showing (after_elements h (error_shown row text)) s.cells (text_behind 0 text) =
    texts_act (showing begun (screen_of h).cells 0) text
    ∙ ap (λ (k : History). showing k (screen_of h).cells (text_behind 0 text))
    (sym (after_both h (error_begins row) (map shows_text text)))
    ∙ ap (λ (t : ScreenParts). showing (after_elements h (error_shown row text)) t.cells (text_behind 0 text))
    (sym (one_screen h s given legal.size)) in
    subst (λ (state : ExtendedState). Gives (state_after_reset (state_after_end state)).history
    (record s { locked = false; cursor = unwrap_or (text_cursor text None) s.cursor })) (sym shown)
    (reset_gives h s given legal closed row text at texts)
