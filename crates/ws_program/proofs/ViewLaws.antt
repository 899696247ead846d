use Rattle.std.specs.Prelude.{OnOk}
use Rattle.std.proofs.Common.{◌≡◌, List, [], ◌∷◌, ◌++◌, Result, Ok, Err, refl, sym, subst}
use Rattle.ws_record.specs.declared.record.Item.{Item}
use Rattle.ws_stream.specs.declared.element.Element.{Element}
use Rattle.ws_screen.specs.Events.{History}
use Rattle.ws_screen.specs.Given.{Gives}
use Rattle.ws_screen.specs.ScreenParts.{ScreenParts}
use Rattle.ws_extended.specs.ExtendedStates.{ExtendedState}
use Rattle.ws_extended.specs.ExtendedViews.{ExtendedParts, Shows}
use Rattle.ws_extended.specs.declared.extended_element.ExtendedElement.{ExtendedElement}
use Rattle.ws_program.specs.Views.{new_state, state_after_item, state_after_items, after_item, after_items}

-- The events of a host's items.

-- two facts where it is Ok
pub both_ok : {X E : Type 0} {P Q R : Type 0} (r : Result X E) → (P → Q → R) → OnOk r P → OnOk r Q → OnOk r R
both_ok (Ok v) f p q = f p q
both_ok (Err e) f p q = tt

pub after_items_more : (h : History) (items : List (Item Element)) (x : Item Element) → after_items h (items ++ x ∷ [])
    ≡ after_item (after_items h items) x
after_items_more h [] x = refl
after_items_more h (y ∷ ys) x = after_items_more (after_item h y) ys x

-- an item more gives this screen
pub gives_more : (items : List (Item Element)) (x : Item Element) (screen : ScreenParts)
    → Gives (after_item (after_items [] items) x) screen → Gives (after_items [] (items ++ x ∷ [])) screen
gives_more items x screen given = subst (λ (h : History). Gives h screen) (sym (after_items_more [] items x)) given

-- the same of a live host's
pub state_after_items_more : (state : ExtendedState) (items : List (Item ExtendedElement)) (x : Item ExtendedElement)
    → state_after_items state (items ++ x ∷ []) ≡ state_after_item (state_after_items state items) x
state_after_items_more state [] x = refl
state_after_items_more state (y ∷ ys) x = state_after_items_more (state_after_item state y) ys x

pub shows_more : (items : List (Item ExtendedElement)) (x : Item ExtendedElement) (display : ExtendedParts)
    → Shows (state_after_item (state_after_items new_state items) x) display
    → Shows (state_after_items new_state (items ++ x ∷ [])) display
shows_more items x display shows =
    subst (λ (s : ExtendedState). Shows s display) (sym (state_after_items_more new_state items x)) shows
