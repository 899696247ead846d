use Rattle.std.proofs.Common.{◌≡◌, ℕ, List, [], ◌++◌, take, drop, true, refl, sym, ap, subst, take-append-drop}
use Rattle.ws_code.specs.Run.{IsRunOfValues, Reading, intake, with_keep}
use Rattle.ws_code.specs.declared.run.End.{End}
use Rattle.ws_code.specs.declared.run.End.TheVariants.{More}
use Rattle.ws_code.proofs.RunLaws.{same_reading}
use Rattle.ws_stream.specs.Elements.{allows_orders, element_rules}
use Rattle.ws_stream.specs.Taking.{reading_of}
use Rattle.ws_stream.specs.UnfinishedElement.{unfinished_of}
use Rattle.ws_stream.specs.declared.place.Place.{Place}
use Rattle.ws_extended.specs.ExtendedElements.{extended_rules}
use Rattle.ws_extended.specs.ExtendedMachine.{fits_phase}
use Rattle.ws_extended.specs.ExtendedReasons.{is_inner}
use Rattle.ws_extended.specs.ExtendedRuns.{reading_by}
use Rattle.ws_extended.specs.declared.extended_commands.phase.Phase.TheVariants.{Begin}
use Rattle.ws_extended.specs.declared.extended_place.ExtendedPlace.TheVariants.{InProfile}
use Rattle.ws_extended.proofs.InnerRuns.{both_read, inner_bad, inner_more, inner_whole, only_inner, run_at}
use Rattle.ws_extended.proofs.InnerRuns.{stands_inside, still_inner, stands_up, took_some, up}
use Rattle.ws_extended.proofs.SlotRuns.{is_whole}
use Rattle.ws_extended.proofs.extended_commands.ExtendedCommands.run_inside.Goals as goal

pub run-used-requires : goal.run-used-requires
run-used-requires g c = stands_inside c.args.self.now c.args.values.now c.requires.inside c.args.at.now _ c.requires.at
    c.place_inside.ensures refl

pub invariant_of-self : goal.invariant_of-self
invariant_of-self g c =
    let run = c.run-used in
    let whole = is_whole element_rules (reading_of c.args.self.now.inner) _ (reading_of run.new.self) run.new.at
    run.new.keep run.result.end run.ensures.run c.in-Some.element c.in-Some.is in
    record {
      beside = ap allows_orders (sym whole.is_at.at_place);
      sound = subst (λ (l : List ℕ). fits_phase (InProfile run.new.at.place) Begin l ≡ true)
          (sym (ap (λ (r : Reading Place). r.begun) whole.behind)) refl;
    }

pub invariant_of-self-in-More : goal.invariant_of-self-in-More
invariant_of-self-in-More g c =
    let run = c.run-used in
    let more = rw c.in-More.is at run.ensures.run in
    record {
      beside = ap allows_orders (sym more.1.at_place);
      sound = still_inner c.args.self.now c.args.values.now c.requires.inside run.result.used (reading_of run.new.self)
          run.new.at run.new.keep (run.ensures.whole c.in-More.is) more;
    }

pub returns-in-Some-clause-run : goal.returns-in-Some-clause-run
returns-in-Some-clause-run g c =
    let m = c.args.self.now in
    let run = c.run-used in
    let values = take run.result.used c.args.values.now in
    let to = reading_of run.new.self in
    let behind : Reading _ = record { place = InProfile run.new.at.place; begun = [] } in
    let whole = is_whole element_rules (reading_of m.inner) values to run.new.at run.new.keep run.result.end
    run.ensures.run c.in-Some.element c.in-Some.is in
    let handed = c.hand_over-end.ensures in
    let there : up to ≡ behind = same_reading (InProfile to.place) (InProfile run.new.at.place) to.begun []
    (ap InProfile (sym whole.is_at.at_place)) (ap (λ (r : Reading Place). r.begun) whole.behind) in
    subst (λ (end : End). IsRunOfValues (intake extended_rules g.K.Keep.keeper)
    (with_keep (reading_by m) c.args.keep.now) values (with_keep behind c.hand_over-end.new.keep) (stands_up run.new.at)
    end) (sym handed.1)
    (run_at g.K.Keep.keeper (up (reading_of m.inner)) (reading_by m) (up to) behind
    (both_read m c.args.values.now c.requires.inside) there c.args.keep.now c.hand_over-end.new.keep values
    (stands_up run.new.at) _ (inner_whole g.K.Keep.keeper (reading_of m.inner) c.args.keep.now values
    to run.new.at c.in-Some.element whole c.hand_over-end.new.keep handed.0 handed.2 handed.3))

pub returns-in-More-clause-run : goal.returns-in-More-clause-run
returns-in-More-clause-run g c =
    let m = c.args.self.now in
    let run = c.run-used in
    let values = take run.result.used c.args.values.now in
    let to = reading_of run.new.self in
    let behind : Reading _ = record { place = InProfile run.new.at.place; begun = to.begun } in
    let more = rw c.in-More.is at run.ensures.run in
    let there : up to ≡ behind = same_reading (InProfile to.place) (InProfile run.new.at.place) to.begun to.begun
    (ap InProfile (sym more.1.at_place)) refl in
    subst (λ (end : End). IsRunOfValues (intake extended_rules g.K.Keep.keeper)
    (with_keep (reading_by m) c.args.keep.now) values (with_keep behind c.args.keep.now) (stands_up run.new.at) end)
    (sym c.in-More.is)
    (run_at g.K.Keep.keeper (up (reading_of m.inner)) (reading_by m) (up to) behind
    (both_read m c.args.values.now c.requires.inside) there c.args.keep.now c.args.keep.now values
    (stands_up run.new.at) More
    (inner_more g.K.Keep.keeper (reading_of m.inner) c.args.keep.now values to run.new.at
    run.new.keep more))

pub returns-in_default-clause-some : goal.returns-in_default-clause-some
returns-in_default-clause-some g c =
    let run = c.run-used in
    took_some (reading_of c.args.self.now.inner) c.args.values.now run.result.used (reading_of run.new.self) run.new.at
    run.new.keep run.result.end c.requires.some run.ensures.whole run.ensures.run

pub returns-in_default-clause-run : goal.returns-in_default-clause-run
returns-in_default-clause-run g c =
    let m = c.args.self.now in
    let run = c.run-used in
    let k : ℕ = run.result.used in
    let all = c.args.values.now in
    let inner = subst (λ (v : List ℕ). is_inner (InProfile (reading_of m.inner).place) (unfinished_of m.inner ++ v)
    ≡ true) (sym (take-append-drop k all)) (only_inner m all c.requires.inside) in
    run_at g.K.Keep.keeper (up (reading_of m.inner)) (reading_by m) _ _
    (both_read m all c.requires.inside) refl c.args.keep.now c.args.keep.now (take k all) c.args.at.now run.result.end
    (inner_bad g.K.Keep.keeper (reading_of m.inner) c.args.keep.now (take k all) (drop k all)
    (reading_of run.new.self) run.new.at run.new.keep run.result.end run.ensures.run c.in-None.is
    c.in_default.not-More inner _ c.args.at.now)
