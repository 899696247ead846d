use Rattle.std.proofs.Common.{◌≡◌, ◌++◌, ◌∷◌, [], List, ℕ, refl, sym, ap, subst, ◌∙◌, length, take, slice_index_or}
use Rattle.std.proofs.Common.{arith}
use Rattle.std.proofs.lemmas.List.{take_more}
use Rattle.ws_code.specs.Code.{IsUnfinished}
use Rattle.ws_code.specs.Run.{Reading, RunsOn, intake, with_keep}
use Rattle.ws_code.proofs.RunLaws.{runs_none, runs_more, runs_unit, stops, keeps_none, is_inside, is_between}
use Rattle.ws_code.proofs.RunLaws.{same_reading}
use Rattle.ws_code.proofs.code.Code.run.Goals as goal
use Rattle.ws_code.proofs.code.Code.run.Goals.{in-More, in-Unit+in-GoOn}

pub loop-index-init : goal.loop-index-init
loop-index-init g c =
    (runs_none g.Self.Code.rules g.K.Keep.keeper _ _ c.requires.unfinished, c.requires)

pub push-requires : goal.push-requires
push-requires g c = c.loop-index.invariant.1.unfinished

pub returns-in-Bad-clause-run : goal.returns-in-Bad-clause-run
returns-in-Bad-clause-run g c = (
  stops g.Self.Code.rules g.K.Keep.keeper _ _ _ _ _ _
      (slice_index_or c.args.values.now c.loop-index.index 0) c.loop-index.invariant.0
      (take_more c.args.values.now c.loop-index.index 0 c.loop-index-test.true),
  c.in-Bad.ensures.0,
  c.in-Bad.ensures.1,
  keeps_none g.K.Keep.keeper _ _ refl,
)

pub returns-in-Enough-clause-run : goal.returns-in-Enough-clause-run
returns-in-Enough-clause-run g c =
    let u = g.met.Self.Code.begins (g.Self.Code.place c.restart.new.self) in (
      stops g.Self.Code.rules g.K.Keep.keeper _ _ _ _ _ _
          (slice_index_or c.args.values.now c.loop-index.index 0) c.loop-index.invariant.0
          (take_more c.args.values.now c.loop-index.index 0 c.loop-index-test.true),
      c.in-Unit.unit,
      c.in-Unit.ensures,
      c.in-Enough.ensures.kept,
      c.in-Enough.ensures.answer,
      same_reading _ _ _ _ (c.restart.ensures.place ∙ c.after-place.ensures) c.restart.ensures.fresh,
      is_between g.Self.Code.rules _ _
          (subst (λ (x : List ℕ). IsUnfinished g.Self.Code.rules (g.Self.Code.place c.restart.new.self) x)
          (sym c.restart.ensures.fresh) u) (sym c.restart.ensures.place) refl c.restart.ensures.fresh,
    )

pub returns-in-NoMemory-clause-run : goal.returns-in-NoMemory-clause-run
returns-in-NoMemory-clause-run g c = (
  stops g.Self.Code.rules g.K.Keep.keeper _ _ _ _ _ _
      (slice_index_or c.args.values.now c.loop-index.index 0) c.loop-index.invariant.0
      (take_more c.args.values.now c.loop-index.index 0 c.loop-index-test.true),
  c.in-Unit.unit,
  c.in-Unit.ensures,
  c.in-NoMemory.ensures.kept,
  c.in-NoMemory.ensures.answer,
)

pub loop-index-preserved : goal.loop-index-preserved
loop-index-preserved g c = elim c.match-push.branch [
  | in-More w ↦
      let v = slice_index_or c.args.values.now c.loop-index.index 0 in
      let step = w.in-More.ensures in
      let ep : g.Self.Code.place c.match-push.self ≡ g.Self.Code.place c.loop-index.self =
      ap g.Self.Code.place w.self-is ∙ step.0 in
      let eb : g.Self.Code.unfinished c.match-push.self ≡ g.Self.Code.unfinished c.loop-index.self ++ v ∷ [] =
      ap g.Self.Code.unfinished w.self-is ∙ step.1 in
      let u : IsUnfinished g.Self.Code.rules (g.Self.Code.place c.match-push.self)
      (g.Self.Code.unfinished c.match-push.self) =
      subst (λ y. IsUnfinished g.Self.Code.rules (g.Self.Code.place c.match-push.self) y) (sym eb)
      (subst (λ q. IsUnfinished g.Self.Code.rules q (g.Self.Code.unfinished c.loop-index.self ++ v ∷ [])) (sym ep)
      step.2) in (
        runs_more g.Self.Code.rules g.K.Keep.keeper _ _ _ _ _ _ _ _ v c.loop-index.invariant.0 step.2
            (take_more c.args.values.now c.loop-index.index 0 c.loop-index-test.true) (same_reading _ _ _ _ ep eb)
            w.keep-is,
        is_inside g.Self.Code.rules _ _ _ v u (ap (λ s. s.place) w.at-is ∙ c.loop-index.invariant.1.at_place ∙ sym ep)
            (ap (λ s. s.is_inside) w.at-is) eb,
      )
  | in-Unit+in-GoOn w ↦
      let v = slice_index_or c.args.values.now c.loop-index.index 0 in
      let ep : g.Self.Code.place c.match-push.self ≡ w.after-place.result = ap g.Self.Code.place w.self-is
      ∙ w.restart.ensures.place in
      let eb : g.Self.Code.unfinished c.match-push.self ≡ [] = ap g.Self.Code.unfinished w.self-is
      ∙ w.restart.ensures.fresh in
      let u : IsUnfinished g.Self.Code.rules (g.Self.Code.place c.match-push.self)
      (g.Self.Code.unfinished c.match-push.self) =
      subst (λ y. IsUnfinished g.Self.Code.rules (g.Self.Code.place c.match-push.self) y) (sym eb)
      (g.met.Self.Code.begins (g.Self.Code.place c.match-push.self)) in (
        runs_unit g.Self.Code.rules g.K.Keep.keeper _ _ _ _ _ _ c.loop-index.keep _ v w.in-Unit.unit
            c.loop-index.invariant.0 w.in-Unit.ensures
            (λ units told h. subst (λ k. g.K.Keep.keeper.holds k (units ++ w.in-Unit.unit ∷ []) told) (sym w.keep-is)
            (w.in-GoOn.ensures.kept units told h)) w.in-GoOn.ensures.answer g.met.Self.Code.begins
            (take_more c.args.values.now c.loop-index.index 0 c.loop-index-test.true)
            (same_reading _ _ _ _ (ep ∙ w.after-place.ensures) eb),
        is_between g.Self.Code.rules _ _ u (ap (λ s. s.place) w.at-is ∙ sym ep) (ap (λ s. s.is_inside) w.at-is) eb,
      )
]

pub returns-clause-run : goal.returns-clause-run
returns-clause-run g c =
    let all : c.loop-index.index ≡ length c.args.values.now = omega arith in
    let from : Reading g.row.Self-Place.Denot =
    record { place = g.Self.Code.place c.args.self.now; begun = g.Self.Code.unfinished c.args.self.now } in
    let to : Reading g.row.Self-Place.Denot =
    record { place = g.Self.Code.place c.loop-index.self; begun = g.Self.Code.unfinished c.loop-index.self } in (
      subst (λ (n : ℕ). RunsOn (intake g.Self.Code.rules g.K.Keep.keeper) (with_keep from c.args.keep.now)
          (take n c.args.values.now) (with_keep to c.loop-index.keep)) all c.loop-index.invariant.0,
      c.loop-index.invariant.1,
    )
