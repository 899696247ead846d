use Rattle.std.proofs.Common.{◌≡◌, ap, ◌∙◌, sym, subst}
use Rattle.std.proofs.lemmas.Result.{err_from_is_err_and}
use Rattle.ws_extended.specs.ExtendedElements.{place_behind}
use Rattle.ws_extended.specs.declared.extended_place.ExtendedPlace.{ExtendedPlace}
use Rattle.ws_extended.proofs.OpenWrites.{finds_write, is_open_at, open_behind}
use Rattle.ws_extended_station.specs.CarriedOut.{IsUnderWay}
use Rattle.ws_extended_station.proofs.CarryingOut.{all_done, one_more, one_refused}
use Rattle.ws_extended_station.proofs.Units.{empty}
use Rattle.ws_extended_station.proofs.carrying_out.apply_rest.Goals as goal

pub loop-slot-init : goal.loop-slot-init
loop-slot-init c =
    let at = c.start-reader.ensures in
    record {
      open_ = c.requires.open_ ∙ ap is_open_at (sym at);
      way = λ state body way. subst (λ (p : ExtendedPlace). IsUnderWay state body c.args.display.now c.args.front.heard
          c.args.front.left.now p) (sym at) way;
    }

pub apply-requires : goal.apply-requires
apply-requires c =
    let now = c.loop-slot in
    finds_write c.in-Some.element now.reader now.display.screen
    (c.read-behind.ensures.some c.in-Some.element c.in-Some.is).0.may_follow now.invariant.open_

pub loop-slot-preserved : goal.loop-slot-preserved
loop-slot-preserved c =
    let now = c.loop-slot in
    let read = c.read-behind in
    let u = c.in-Some.element in
    let one = read.ensures.some u c.in-Some.is in
    let behind : read.new.self ≡ place_behind u = one.3 in
    record {
      open_ = c.in_ok-apply.ensures.open_ ∙ sym (open_behind u) ∙ ap is_open_at (sym behind);
      way = λ state body way. subst (λ (p : ExtendedPlace). IsUnderWay state body c.apply.new.self c.hear.new.self
          read.result.now p) (sym behind)
          (one_more state body now.display now.heard now.left.now now.reader (now.invariant.way state body way) u
          read.result.now one.0 one.1
          c.apply.new.self c.hear.new.self c.in_ok-apply.ensures.fault c.in_ok-apply.ensures.after c.hear.ensures);
    }

pub returns-in_err-apply : goal.returns-in_err-apply
returns-in_err-apply c =
    let p = err_from_is_err_and c.from_residual.result c.from_residual.ensures.1 in
    let now = c.loop-slot in
    let read = c.read-behind in
    let one = read.ensures.some c.in-Some.element c.in-Some.is in
    rw (p.1, p.2) (λ state body way.
    one_refused state body now.display now.heard now.left.now now.reader (now.invariant.way state body way)
    c.in-Some.element read.result.now one.0
    one.1 _ c.in_err-apply.ensures.fault)

pub returns-in_default : goal.returns-in_default
returns-in_default c = λ state body way.
    let now = c.loop-slot in
    let on = now.invariant.way state body way in
    all_done state body now.display now.heard now.left.now now.reader on
    (c.read-behind.ensures.none (empty _ c.in_default.not-Some) on.others on.stand on.spelled)

pub loop-slot-smaller : goal.loop-slot-smaller
loop-slot-smaller c = (c.read-behind.ensures.some c.in-Some.element c.in-Some.is).2
