-- A body that is carried out on a display, element by element as it is read, and what it asks.
use Rattle.std.specs.Option.{option_or}
use Rattle.std.specs.Prelude.{Ok}
use Rattle.std.proofs.Common.{◌≡◌, ℕ, List, [], ◌∷◌, ◌++◌, Option, Some, None, refl, sym, ap, ◌∙◌, subst, take, drop}
use Rattle.std.proofs.Common.{length, take-append-drop, append_assoc, arith}
use Rattle.std.proofs.lemmas.List.{append-nil, take_all}
use Rattle.ws_code.specs.Code.{IsChain, Stands, spelling_of}
use Rattle.ws_code.specs.Run.{Reading, IsRunOfValues, intake, with_keep}
use Rattle.ws_code.specs.declared.reason.Reason.{Reason}
use Rattle.ws_code.specs.declared.run.End.{End}
use Rattle.ws_code.specs.declared.run.End.TheVariants.{More, Enough, NoMemory, Bad}
use Rattle.ws_code.specs.declared.run.Standing.{Standing}
use Rattle.ws_code.proofs.CodeLaws.{cut_begins}
use Rattle.ws_stream.specs.Elements.{element_rules}
use Rattle.ws_stream.specs.declared.element.Element.{Element}
use Rattle.ws_stream.specs.declared.place.Place.{Place}
use Rattle.ws_screen.proofs.Within.{both_none}
use Rattle.ws_extended.specs.Asking.{HasAsked, asks_in, asked_keeper}
use Rattle.ws_extended.specs.ExtendedElements.{extended_rules, place_behind}
use Rattle.ws_extended.specs.ExtendedLaws.{extended_begins, extended_prefix_free}
use Rattle.ws_extended.specs.ExtendedStates.{ExtendedState, state_after, state_after_all, state_fault}
use Rattle.ws_extended.specs.ExtendedViews.{ExtendedParts, Shows}
use Rattle.ws_extended.specs.declared.asked.Asked.{Asked}
use Rattle.ws_extended.specs.declared.extended_element.ExtendedElement.{ExtendedElement}
use Rattle.ws_extended.specs.declared.extended_element.ExtendedElement.TheVariants.{Profile}
use Rattle.ws_extended.specs.declared.extended_place.ExtendedPlace.{ExtendedPlace}
use Rattle.ws_extended.specs.declared.extended_place.ExtendedPlace.TheVariants.{InProfile}
use Rattle.ws_end.proofs.Reading.{never_bad, read_all, read_run}
use Rattle.ws_extended_station.specs.CarriedOut.{AreCarriedOut, AsksAndSounds, IsUnderWay}
use Rattle.ws_extended_station.specs.ExtendedRecords.{elements_fault}
use Rattle.ws_extended_station.specs.declared.heard.Heard.{Heard}

abbrev pub beginning : Reading ExtendedPlace
beginning = record { place = extended_rules.first; begun = [] }

-- an element more
after_one_more : (state : ExtendedState) (us : List ExtendedElement) (u : ExtendedElement)
    → state_after_all state (us ++ u ∷ []) ≡ state_after (state_after_all state us) u
after_one_more state [] u = refl
after_one_more state (v ∷ us) u = after_one_more (state_after state v) us u

fault_behind : (state : ExtendedState) (us : List ExtendedElement) (u : ExtendedElement) (more : List ExtendedElement)
    → elements_fault state us ≡ None → elements_fault state (us ++ u ∷ more)
    ≡ option_or (state_fault (state_after_all state us) u)
    (elements_fault (state_after (state_after_all state us) u) more)
fault_behind state [] u more none = refl
fault_behind state (v ∷ us) u more none =
    let both = both_none (state_fault state v) (elements_fault (state_after state v) us) none in
    ap (λ (o : Option Reason). option_or o (elements_fault (state_after state v) (us ++ u ∷ more))) both.0
    ∙ fault_behind (state_after state v) us u more both.1

-- an element of the profile that stands at a place of it
pub stands_up : (place : Place) (e : Element) → Stands element_rules place e
    → Stands extended_rules (InProfile place) (Profile e)
stands_up place e stands = record { is_unit = stands.is_unit; may_follow = stands.may_follow }

-- no element is carried out yet
pub none_done : (state : ExtendedState) (body : List ExtendedElement) (now : ExtendedParts) (heard : Heard)
    (bytes : List ℕ) → AsksAndSounds [] heard → IsChain extended_rules extended_rules.first body
    → bytes ≡ spelling_of extended_rules body → Shows state now
    → IsUnderWay state body now heard bytes extended_rules.first
none_done state body now heard bytes none chain same shows = record {
  done = [];
  others = body;
  split = refl;
  carried = (refl, none, shows);
  stand = chain;
  spelled = same;
}

module _ (state : ExtendedState) (body : List ExtendedElement) (now : ExtendedParts) (heard : Heard) (left : List ℕ)
    (place : ExtendedPlace) (way : IsUnderWay state body now heard left place) where
  -- all are
  pub all_done : way.others ≡ [] → AreCarriedOut state body now (Ok heard)
  all_done none =
      let same : body ≡ way.done = way.split ∙ ap (λ (us : List ExtendedElement). way.done ++ us) none
      ∙ append-nil way.done in
      rw same way.carried

  module _ (u : ExtendedElement) (behind : List ℕ) (stands : Stands extended_rules place u)
      (spelled : left ≡ extended_rules.spelling u ++ behind) where
    -- the next one is that with which the bytes left begin
    next_is : (us : List ExtendedElement) × (way.others ≡ u ∷ us) × IsChain extended_rules (place_behind u) us
        × (spelling_of extended_rules us ≡ behind)
    next_is = cut_begins extended_rules extended_prefix_free extended_begins place (u ∷ []) way.others behind
        (stands, tt) way.stand (sym way.spelled ∙ spelled
        ∙ ap (λ (b : List ℕ). b ++ behind) (sym (append-nil (extended_rules.spelling u))))

    -- it is carried out
    pub one_more : (new : ExtendedParts) (heard' : Heard)
        → ((s : ExtendedState) → Shows s now → None ≡ state_fault s u)
        → ((s : ExtendedState) → Shows s now → Shows (state_after s u) new)
        → ((us : List ExtendedElement) → AsksAndSounds us heard → AsksAndSounds (us ++ u ∷ []) heard')
        → IsUnderWay state body new heard' behind (place_behind u)
    one_more new heard' none after hears =
        let found = next_is in
        let s = state_after_all state way.done in
        record {
          done = way.done ++ u ∷ [];
          others = found.0;
          split = way.split ∙ ap (λ (us : List ExtendedElement). way.done ++ us) found.1
              ∙ sym (append_assoc way.done (u ∷ []) found.0);
          carried = (
            fault_behind state way.done u [] way.carried.0
                ∙ ap (λ (o : Option Reason). option_or o None) (sym (none s way.carried.2)),
            hears way.done way.carried.1,
            rw (after_one_more state way.done u) (after s way.carried.2),
          );
          stand = found.2;
          spelled = sym found.3;
        }

    -- or it is the first that is refused
    pub one_refused : (reason : Reason) → ((s : ExtendedState) → Shows s now → Some reason ≡ state_fault s u)
        → elements_fault state body ≡ Some reason
    one_refused reason refused =
        let found = next_is in
        let s = state_after_all state way.done in
        ap (elements_fault state) (way.split ∙ ap (λ (us : List ExtendedElement). way.done ++ us) found.1)
        ∙ fault_behind state way.done u found.0 way.carried.0
        ∙ ap (λ (o : Option Reason). option_or o (elements_fault (state_after s u) found.0))
        (sym (refused s way.carried.2))

-- WHAT A BODY ASKS

module _ (reading to : Reading ExtendedPlace) (old new : Asked) (bytes : List ℕ) (used : ℕ)
    (standing : Standing ExtendedPlace) (first : reading ≡ beginning) (none : HasAsked [] old.ask old.refused)
    (body : List ExtendedElement) (chain : IsChain extended_rules extended_rules.first body)
    (same : bytes ≡ spelling_of extended_rules body) where
  -- a run over all bytes of a body notes all that it asks
  pub all_asked : (end : End) → (end ≡ More → used ≡ length bytes)
      → IsRunOfValues (intake extended_rules asked_keeper) (with_keep reading old) (take used bytes) (with_keep to new)
      standing end
      → HasAsked (asks_in body) new.ask new.refused
  all_asked More whole run =
      let read = read_run extended_rules reading to (take used bytes) run.0.run first in
      let all : take used bytes ≡ spelling_of extended_rules body =
      ap (λ (n : ℕ). take n bytes) (whole refl) ∙ take_all (length bytes) bytes (omega arith) ∙ same in
      subst (λ (us : List ExtendedElement). HasAsked (asks_in us) new.ask new.refused)
      (read_all extended_rules (take used bytes) run.0.run.units to read extended_prefix_free extended_begins body
      chain all) (run.0.kept [] [] none)
  all_asked Enough whole run = absurd (let e = run.4 in cc)
  all_asked NoMemory whole run = absurd (let e = run.4 in cc)
  all_asked (Bad reason) whole run =
      let stop = run.0 in
      let read = read_run extended_rules reading stop.before.read stop.front stop.on.run first in
      let split : stop.front ++ stop.last ∷ drop used bytes ≡ spelling_of extended_rules body =
      sym (append_assoc stop.front (stop.last ∷ []) (drop used bytes))
      ∙ ap (λ (z : List ℕ). z ++ drop used bytes) (sym stop.split) ∙ take-append-drop used bytes ∙ same in
      absurd (never_bad extended_rules stop.front stop.on.run.units stop.before.read read extended_prefix_free
      extended_begins body chain stop.last (drop used bytes) split run.1)
