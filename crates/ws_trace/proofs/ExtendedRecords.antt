use Rattle.ws_extended.proofs.OpenWrites.{finds_write, is_open_at, open_behind}
use Rattle.ws_extended.specs.ExtendedStates.{ExtendedState, state_after, state_after_all, state_fault}
use Rattle.ws_trace.proofs.Common as C
use C.{leaves_write_open, ExtendedElement, extended_rules, elements_fault, NeedsOpenWrite, second_reason, ExtendedParts}
use C.{ExtendedPlace, place_behind, option_or, drop_more, drop_all, is_some, asks_in, IsChain, Option, length, get_or}
use C.{Reason, false, Shows, Bool, true, List, Some, None, drop, refl, ◌≡◌, ◌+◌, ◌<◌, ◌≤◌, ◌∷◌, sym, ◌∙◌, Ask, ap, ℕ}

-- The elements of a live host's record, one after another.

-- what is left at an index
pub rest_at : {X : Type 0} (xs : List X) (i : ℕ) (x : X) → i < length xs → x ≡ get_or xs i x
    → drop i xs ≡ x ∷ drop (i + 1) xs
rest_at xs i x inside is = drop_more xs i x inside ∙ ap (λ y. y ∷ drop (i + 1) xs) (sym is)

-- WHAT THEY ASK

-- up to a rest nothing asked, or one command, so that the rest decides
abbrev pub AskedUpTo : Bool → List ExtendedElement → List ExtendedElement → Type 0
AskedUpTo false es rest = second_reason (asks_in es) ≡ second_reason (asks_in rest)
AskedUpTo true es rest = (ask : Ask) × (second_reason (asks_in es) ≡ second_reason (ask ∷ asks_in rest))

-- WHAT THEY MAKE OF A DISPLAY

-- The elements up to a rest are carried out, and a write is open where an order may stand.
pub record CarriedUpTo (from now : ExtendedParts) (es rest : List ExtendedElement) : Type 0 where
  pub place : ExtendedPlace
  pub chain : IsChain extended_rules place rest
  pub open_ : is_some now.screen.writing ≡ is_open_at place
  pub gives : (state : ExtendedState) → Shows state from → (mid : ExtendedState) × Shows mid now
      × (elements_fault state es ≡ elements_fault mid rest) × (state_after_all state es ≡ state_after_all mid rest)

pub carried_none : (from : ExtendedParts) (es : List ExtendedElement)
    → IsChain extended_rules extended_rules.first es → from.screen.writing ≡ None → CarriedUpTo from from es es
carried_none from es chain closed = record {
  place = extended_rules.first;
  chain = chain;
  open_ = ap is_some closed;
  gives = λ state shows. (state, shows, refl, refl);
}

-- all of them
pub all_carried : (from now : ExtendedParts) (es : List ExtendedElement) (i : ℕ) → length es ≤ i
    → CarriedUpTo from now es (drop i es) → (state : ExtendedState) → Shows state from
    → (None ≡ elements_fault state es) × Shows (state_after_all state es) now
all_carried from now es i over so_far state shows =
    let given = (rw (drop_all i es over) at so_far).gives state shows in
    (sym given.2, rw given.3 given.1)

module _ (from now : ExtendedParts) (es : List ExtendedElement) (i : ℕ) (e : ExtendedElement) (inside : i < length es)
    (is : e ≡ get_or es i e) (so_far : CarriedUpTo from now es (drop i es)) where
  here : CarriedUpTo from now es (e ∷ drop (i + 1) es)
  here = rw (rest_at es i e inside is) at so_far

  pub finds_open : NeedsOpenWrite e now.screen
  finds_open = finds_write e here.place now.screen here.chain.0.may_follow here.open_

  -- one more
  pub carried_one : (new : ExtendedParts) → ((state : ExtendedState) → Shows state now → None ≡ state_fault state e)
      → ((state : ExtendedState) → Shows state now → Shows (state_after state e) new)
      → is_some new.screen.writing ≡ leaves_write_open e → CarriedUpTo from new es (drop (i + 1) es)
  carried_one new none after open_ = record {
    place = place_behind e;
    chain = here.chain.1;
    open_ = open_ ∙ sym (open_behind e);
    gives = λ state shows. (let given = here.gives state shows in (
      state_after given.0 e,
      after given.0 given.1,
      given.2 ∙ ap (λ (o : Option Reason). option_or o (elements_fault (state_after given.0 e) (drop (i + 1) es)))
          (sym (none given.0 given.1)),
      given.3,
    ));
  }

  -- or it is the first that is refused
  pub refused_first : (reason : Reason) → ((state : ExtendedState) → Shows state now
      → Some reason ≡ state_fault state e) → (state : ExtendedState) → Shows state from
      → Some reason ≡ elements_fault state es
  refused_first reason refused state shows =
      let given = here.gives state shows in
      sym (given.2
      ∙ ap (λ (o : Option Reason). option_or o (elements_fault (state_after given.0 e) (drop (i + 1) es)))
      (sym (refused given.0 given.1)))
