use Rattle.std.proofs.Common.{◌≡◌, ap, ◌∙◌, sym, subst, is_some}
use Rattle.std.proofs.lemmas.Result.{err_from_is_err_and}
use Rattle.ws_stream.specs.Elements.{allows_orders, element_rules}
use Rattle.ws_stream.specs.declared.place.Place.{Place}
use Rattle.ws_screen.proofs.Applies.{allows_after}
use Rattle.ws_extended.specs.declared.extended_element.ExtendedElement.TheVariants.{Profile}
use Rattle.ws_extended.specs.declared.extended_place.ExtendedPlace.TheVariants.{InProfile}
use Rattle.ws_extended.proofs.OpenWrites.{finds_write}
use Rattle.ws_extended_station.specs.CarriedOut.{IsUnderWay}
use Rattle.ws_extended_station.proofs.CarryingOut.{none_done, one_more, one_refused, stands_up}
use Rattle.ws_extended_station.proofs.Units.{empty}
use Rattle.ws_extended_station.proofs.carrying_out.apply_prefix.Goals as goal

pub loop-element-init : goal.loop-element-init
loop-element-init c =
    let first = c.start-reader.ensures ∙ c.first.ensures in
    record {
      open_ = ap is_some c.requires.closed ∙ ap allows_orders (sym first);
      way = λ state body chain same shows. subst (λ (p : Place). IsUnderWay state body c.args.display.now c.new-heard.result
          c.args.bytes.now (InProfile p)) (sym first)
          (none_done state body c.args.display.now c.new-heard.result c.args.bytes.now c.new-heard.ensures chain same shows);
    }

pub apply_profile-requires : goal.apply_profile-requires
apply_profile-requires c =
    let now = c.loop-element in
    finds_write (Profile c.in-Some.element) (InProfile now.reader) now.display.screen
    (c.read_element-behind.ensures.some c.in-Some.element c.in-Some.is).0.may_follow now.invariant.open_

pub loop-element-preserved : goal.loop-element-preserved
loop-element-preserved c =
    let now = c.loop-element in
    let read = c.read_element-behind in
    let e = c.in-Some.element in
    let one = read.ensures.some e c.in-Some.is in
    let behind : read.new.self ≡ element_rules.after e = one.3 in
    record {
      open_ = c.in_ok-apply_profile.ensures.open_ ∙ sym (allows_after e) ∙ ap allows_orders (sym behind);
      way = λ state body chain same shows. subst (λ (p : Place). IsUnderWay state body c.apply_profile.new.self
          c.hear_profile.new.self read.result.now (InProfile p)) (sym behind)
          (one_more state body now.display now.heard now.left.now (InProfile now.reader)
          (now.invariant.way state body chain same shows) (Profile e) read.result.now
          (stands_up now.reader e one.0) one.1
          c.apply_profile.new.self c.hear_profile.new.self c.in_ok-apply_profile.ensures.fault
          c.in_ok-apply_profile.ensures.after c.hear_profile.ensures);
    }

pub returns-in_err-apply_profile-clause-refused : goal.returns-in_err-apply_profile-clause-refused
returns-in_err-apply_profile-clause-refused c =
    let p = err_from_is_err_and c.from_residual.result c.from_residual.ensures.1 in
    let now = c.loop-element in
    let read = c.read_element-behind in
    let e = c.in-Some.element in
    let one = read.ensures.some e c.in-Some.is in
    rw (p.1, p.2) (λ state body chain same shows.
    one_refused state body now.display now.heard now.left.now (InProfile now.reader)
    (now.invariant.way state body chain same shows) (Profile e) read.result.now
    (stands_up now.reader e one.0) one.1 _
    c.in_err-apply_profile.ensures.fault)

pub returns-in_default-clause-open_ : goal.returns-in_default-clause-open_
returns-in_default-clause-open_ c =
    let same = c.place-place.ensures ∙ c.read_element-behind.ensures.stays (empty _ c.in_default.not-Some) in
    c.loop-element.invariant.open_ ∙ ap allows_orders (sym same)

pub returns-in_default-clause-carried : goal.returns-in_default-clause-carried
returns-in_default-clause-carried c = λ state body chain same shows.
    let now = c.loop-element in
    let at = c.place-place.ensures ∙ c.read_element-behind.ensures.stays (empty _ c.in_default.not-Some) in
    subst (λ (p : Place). IsUnderWay state body now.display now.heard now.left.now (InProfile p)) (sym at)
    (now.invariant.way state body chain same shows)
