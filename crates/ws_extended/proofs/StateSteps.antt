-- What the parts of a display with an error line are after a step.
use Rattle.std.proofs.Common.{◌≡◌, ℕ, ◌+◌, ◌≤◌, List, [], ◌∷◌, ◌++◌, Bool, true, false, Option, Some, None, map}
use Rattle.std.proofs.Common.{replicate, refl, sym, ap, ◌∙◌, subst, unwrap_or, length, if◌then◌else◌}
use Rattle.std.proofs.lemmas.Bool.{false≢true}
use Rattle.ws_stream.specs.declared.element.Element.{Element}
use Rattle.ws_stream.specs.declared.element.Element.TheVariants.{Write, Ra, Ea, Sba, Sf, Put}
use Rattle.ws_screen.specs.Bodies.{after_element, after_elements, after_end, screen_of}
use Rattle.ws_screen.specs.Events.{Edit, History, did}
use Rattle.ws_screen.specs.Faults.{fault}
use Rattle.ws_screen.specs.Given.{FollowsAll, Gives, ends_of, events_of}
use Rattle.ws_screen.specs.ScreenParts.{IsLegal, ScreenParts}
use Rattle.ws_screen.specs.Writes.{open_write}
use Rattle.ws_screen.specs.declared.open_write.OpenWrite.{OpenWrite}
use Rattle.ws_screen.proofs.Applies.{gives_end, gives_next}
use Rattle.ws_screen.proofs.ScreenLaws.{one_screen}
use Rattle.ws_keys.specs.Keys.{events_by}
use Rattle.ws_extended.specs.Carried.{Carries}
use Rattle.ws_extended.specs.ErrorLine.{IsRow, error_begins, error_row, given_back, row_cells, row_start}
use Rattle.ws_extended.specs.ErrorLine.{sets_error_row}
use Rattle.ws_extended.specs.ExtendedStates.{ExtendedState, Kept, covered, gives_back, reset_history, state_after_reset}
use Rattle.ws_extended.specs.ExtendedStates.{rolled_by, uncovered, state_after, uncovers}
use Rattle.ws_extended.specs.ExtendedViews.{ExtendedParts, Shows}
use Rattle.ws_extended.specs.RollParts.{RollParts}
use Rattle.ws_extended.specs.Rolling.{roll_shown, rolled}
use Rattle.ws_extended.specs.declared.extended_element.ExtendedElement.TheVariants.{Profile}
use Rattle.ws_extended.proofs.Blocks.{back_unrefused}
use Rattle.ws_extended.proofs.ErrorLaws.{begins_unrefused}
use Rattle.ws_extended.proofs.ImageSizes.{Quiet, both_quiet, puts_quiet, quiet_end, quiet_rows}

-- a Write to Display ends the open write by itself
closes : (h : History) (cc1 cc2 : ℕ) → after_element (after_end h) (Write cc1 cc2) ≡ after_element h (Write cc1 cc2)
closes h cc1 cc2 = go (open_write h) refl
  where
    go : (w : Option OpenWrite) → open_write h ≡ w
        → after_element (ends_of w ++ h) (Write cc1 cc2) ≡ events_of w (Write cc1 cc2) ++ h
    go None e = ap (λ (w : Option OpenWrite). events_of w (Write cc1 cc2) ++ h) e
    go (Some o) e = refl

pub closes_first : (h : History) (cc1 cc2 : ℕ) (es : List Element)
    → after_elements (after_end h) (Write cc1 cc2 ∷ es) ≡ after_elements h (Write cc1 cc2 ∷ es)
closes_first h cc1 cc2 es = ap (λ (k : History). after_elements k es) (closes h cc1 cc2)

-- a row given back, or an error that begins, leaves the error line
back_quiet : (cc2 : ℕ) (kept : Option Kept) → Quiet (gives_back cc2 kept)
back_quiet cc2 None = tt
back_quiet cc2 (Some kept) = (refl, (refl, puts_quiet kept.cells))

begins_quiet : (row : ℕ) → Quiet (error_begins row)
begins_quiet row = (
  refl,
  (
    refl,
    both_quiet (map Put (replicate 80 0)) (Sba (row_start row) ∷ [])
        (puts_quiet (replicate 80 0)) (refl, tt),
  ),
)

row_stays : (h : History) (es : List Element) → Quiet es → error_row (after_elements h es) ≡ error_row h
row_stays h es quiet = ap (λ (o : Option ℕ). unwrap_or o 24) (quiet_rows h es quiet)

pub back_row : (h : History) (cc2 : ℕ) (kept : Option Kept) → error_row (after_elements h (gives_back cc2 kept))
    ≡ error_row h
back_row h cc2 kept = row_stays h (gives_back cc2 kept) (back_quiet cc2 kept)

pub begins_row : (h : History) (row : ℕ) → error_row (after_elements h (error_begins row)) ≡ error_row h
begins_row h row = row_stays h (error_begins row) (begins_quiet row)

pub end_row : (h : History) → error_row (after_end h) ≡ error_row h
end_row h = ap (λ (o : Option ℕ). unwrap_or o 24) (quiet_end h)

pub reset_row : (h : History) (kept : Option Kept) → error_row (reset_history h kept) ≡ error_row h
reset_row h None = refl
reset_row h (Some kept) = end_row (after_elements h (gives_back 0x48 (Some kept))) ∙ back_row h 0x48 (Some kept)

-- an error begins on a screen whose write was ended
pub begun : (h : History) (old mid new : ScreenParts) (row : ℕ) → Gives h old
    → FollowsAll (ends_of old.writing) old mid → IsLegal mid → mid.writing ≡ None
    → IsRow row → Carries (error_begins row) mid new → Gives (after_elements h (error_begins row)) new
begun h old mid new row g end legal closed at carries =
    let ended : Gives (after_end h) mid = gives_end h old mid g end in
    let rest : List Element = Sba (row_start row) ∷ (map Put (replicate 80 0) ++ (Sba (row_start row) ∷ [])) in
    subst (λ (k : History). Gives k new) (closes_first h 0x20 0 rest)
    (carries.after (after_end h) ended (begins_unrefused mid row legal closed at (after_end h) ended))

-- cells are given back on one, or written anew
pub comes_back : (h : History) (old mid new : ScreenParts) (cc2 row : ℕ) (cells : List ℕ) → Gives h old
    → FollowsAll (ends_of old.writing) old mid → IsLegal mid → mid.writing ≡ None → row_start row + length cells ≤ 1920
    → Carries (given_back cc2 row cells) mid new → Gives (after_elements h (given_back cc2 row cells)) new
comes_back h old mid new cc2 row cells g end legal closed fits carries =
    let ended : Gives (after_end h) mid = gives_end h old mid g end in
    subst (λ (k : History). Gives k new) (closes_first h 0 cc2 (Sba (row_start row) ∷ map Put cells))
    (carries.after (after_end h) ended (back_unrefused mid cc2 row cells legal closed fits (after_end h) ended))

-- A DISPLAY'S PARTS

abbrev parts : ScreenParts → ℕ → Option Kept → ℕ → ExtendedParts
parts screen row kept text = record { screen = screen; error_row = row; kept = kept; text = text }

module _ (state : ExtendedState) (old new : ScreenParts) (row text : ℕ) (kept : Option Kept)
    (shows : Shows state (parts old row kept text)) where
  -- the row given back
  pub uncover_shows : (cc2 : ℕ)
      → ((h : History) → Gives h old → Gives (after_elements h (gives_back cc2 kept)) new)
      → Shows (uncovered cc2 state) (parts new row None text)
  uncover_shows cc2 gives = record {
    gives = subst (λ (k : Option Kept). Gives (after_elements state.history (gives_back cc2 k)) new) shows.kept_is
        (gives state.history shows.gives);
    row_is = shows.row_is ∙ sym (back_row state.history cc2 state.kept);
    kept_is = refl;
    text_is = shows.text_is;
  }

  -- an element of the profile that leaves the error line and its row
  pub own_shows : (e : Element) → uncovers e ≡ false → sets_error_row (did e) ≡ None
      → FollowsAll (events_of old.writing e) old new → Shows (state_after state (Profile e)) (parts new row kept text)
  own_shows e stays quiet follows = go (uncovers e) stays
    where
      go : (t : Bool) → t ≡ false → Shows (record (if t then uncovered 0 state else state) {
        history = after_element (if t then uncovered 0 state else state).history e;
      }) (parts new row kept text)
      go true k = absurd (false≢true (sym k))
      go false k = record {
        gives = gives_next state.history old new e shows.gives follows;
        row_is = shows.row_is ∙ sym (row_stays state.history (e ∷ []) (quiet, tt));
        kept_is = shows.kept_is;
        text_is = shows.text_is;
      }

  -- a Roll
  pub roll_shows : (r : RollParts)
      → ((h : History) → Gives h old → Gives (after_end (after_elements h (roll_shown r (screen_of h).cells))) new)
      → Shows (rolled_by r state) (parts new row kept text)
  roll_shows r gives =
      let h : History = state.history in
      let es : List Element = roll_shown r (screen_of h).cells in
      record {
        gives = gives h shows.gives;
        row_is = shows.row_is ∙ sym (end_row (after_elements h es)
            ∙ row_stays h es (refl, (refl, puts_quiet (rolled r (screen_of h).cells))));
        kept_is = shows.kept_is;
        text_is = shows.text_is;
      }

  -- Reset
  pub reset_shows : ((h : History) → Gives h old → Gives (reset_history h kept) new)
      → Shows (state_after_reset state) (parts new row None text)
  reset_shows gives = record {
    gives = subst (λ (k : Option Kept). Gives (reset_history state.history k) new) shows.kept_is
        (gives state.history shows.gives);
    row_is = shows.row_is ∙ sym (reset_row state.history state.kept);
    kept_is = refl;
    text_is = shows.text_is;
  }

  -- a key
  pub key_shows : (edit : Option Edit) → FollowsAll (events_by edit) old new
      → Shows (record state { history = events_by edit ++ state.history }) (parts new row kept text)
  key_shows edit follows = record {
    gives = follows.after state.history shows.gives;
    row_is = shows.row_is ∙ still edit;
    kept_is = shows.kept_is;
    text_is = shows.text_is;
  }
    where
      still : (edit : Option Edit) → error_row state.history ≡ error_row (events_by edit ++ state.history)
      still None = refl
      still (Some e) = refl

  -- an error that begins, and the row that it keeps
  pub cover_shows : (mid : ScreenParts) (kept' : Kept) → FollowsAll (ends_of old.writing) old mid → IsLegal mid
      → mid.writing ≡ None → length old.cells ≡ 1920 → IsRow row → kept'.row ≡ row
      → kept'.cells ≡ row_cells row old.cells
      → Carries (error_begins row) mid new → Shows (covered state) (parts new row (Some kept') 0)
  cover_shows mid kept' end legal closed size at same of carries =
      let h : History = state.history in
      record {
        gives = subst (λ (n : ℕ). Gives (after_elements h (error_begins n)) new) shows.row_is
            (begun h old mid new row shows.gives end legal closed at carries);
        row_is = shows.row_is ∙ sym (begins_row h (error_row h));
        kept_is = ap (λ (n : ℕ). let k : Kept = record { row = n; cells = kept'.cells } in Some k) (same ∙ shows.row_is)
            ∙ ap (λ (cells : List ℕ). let k : Kept = record { row = error_row h; cells = cells } in Some k)
            (of ∙ ap (λ (n : ℕ). row_cells n old.cells) shows.row_is
            ∙ ap (λ (t : ScreenParts). row_cells (error_row h) t.cells) (one_screen h old shows.gives size));
        text_is = refl;
      }

-- an element before which a row comes back is refused by no screen
pub unrefused : (s : ScreenParts) (e : Element) → uncovers e ≡ true → fault s e ≡ None
unrefused s (Ra place byte) u = absurd (false≢true u)
unrefused s (Ea place kinds) u = absurd (false≢true u)
unrefused s (Sf f) u = absurd (false≢true u)
unrefused s (Put byte) u = absurd (false≢true u)
unrefused s e u = refl
