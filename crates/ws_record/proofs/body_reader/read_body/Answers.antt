use Rattle.ws_record.proofs.Common.{true, ◌≡◌, ℕ, List, [], ◌++◌, take, drop, refl, sym, ap, ◌∙◌, append_assoc, false}
use Rattle.ws_record.proofs.Common.{Bool, take-length, append-nil, take-append-drop, Rules, place_after, IsCut, Reading}
use Rattle.ws_record.proofs.Common.{HasReadValues, one_cut, cut_bad, cut_unit, is_between}
use Rattle.ws_record.proofs.Common.{Err}
use Rattle.ws_record.specs.declared.body_reader.BodyFault.TheVariants.{Bad, Memory}
use Rattle.ws_record.proofs.body_reader.read_body.Goals as goal
use Rattle.ws_record.proofs.body_reader.read_body.Goals.{then-at-via-then-at, then-at-via-else-at+then-not-may_end}

-- what a run reads from where a body begins
cut_of : {P U : Type 0} (rules : Rules P U) {from to : Reading P} {values : List ℕ} (run : HasReadValues rules from values to)
    → from.place ≡ rules.first → from.begun ≡ []
    → IsCut rules values run.units to.begun × (to.place ≡ place_after rules rules.first run.units)
cut_of rules {values = values} run p e = (
  record {
    chain = rw p at run.chain;
    more = rw (run.behind, p) at run.unfinished;
    spelled = run.spelled ∙ ap (λ x. x ++ values) e;
  },
  rw p at run.behind,
)

pub run-run-requires : goal.run-run-requires
run-run-requires g c =
    is_between g.B.Code.rules _ _
    (rw c.start-machine.ensures.fresh (g.met.B.Code.begins (g.B.Code.place c.start-machine.result)))
    (sym c.start-machine.ensures.place) refl c.start-machine.ensures.fresh

pub returns-else-not-may_end-clause-ok : goal.returns-else-not-may_end-clause-ok
returns-else-not-may_end-clause-ok g c =
    let rules = g.B.Code.rules in
    let run = rw c.in-More.is at c.run-run.ensures.run in
    let cut = cut_of rules run.0.run (c.start-machine.ensures.place ∙ c.first-place.ensures)
    c.start-machine.ensures.fresh in
    rw (run.0.kept [] [] c.new-body.ensures.items) (record {
      whole = record {
        chain = cut.0.chain;
        ends = ap rules.may_end (sym cut.1 ∙ sym run.1.at_place) ∙ sym c.may_end.ensures ∙ c.if-not-may_end.false;
      };
      spelled = sym (append-nil _) ∙ rw (
        run.1.between c.if-at.false,
        c.run-run.ensures.whole c.in-More.is,
        take-length
            c.args.bytes.now,
      ) at cut.0.spelled;
    })

pub returns-then-at-clause-fault : goal.returns-then-at-clause-fault
returns-then-at-clause-fault g c = λ body is.
    let rules = g.B.Code.rules in
    let run = rw c.in-More.is at c.run-run.ensures.run in
    let cut = cut_of rules run.0.run (c.start-machine.ensures.place ∙ c.first-place.ensures)
    c.start-machine.ensures.fresh in
    let all = rw (c.run-run.ensures.whole c.in-More.is, take-length c.args.bytes.now) at cut.0.spelled in
    let same = one_cut rules g.met.B.Code.prefix_free rules.first run.0.run.units body _ [] cut.0.chain is.whole.chain
    cut.0.more (g.met.B.Code.begins _) (all ∙ sym is.spelled ∙ sym (append-nil _)) in
    elim c.then-at.branch [
      | then-at-via-then-at w ↦ run.1.inside w.if-at.true same.1
      | then-at-via-else-at+then-not-may_end w ↦ (let f : ◌≡◌ {A = Bool} true false = sym is.whole.ends
          ∙ ap rules.may_end (ap (place_after rules rules.first) (sym same.0) ∙ sym cut.1 ∙ sym run.1.at_place)
          ∙ sym w.may_end.ensures ∙ w.if-not-may_end.true in cc)
    ]

pub returns-in-NoMemory-clause-memory : goal.returns-in-NoMemory-clause-memory
returns-in-NoMemory-clause-memory g c = λ _.
    let rules = g.B.Code.rules in
    let run = rw c.in-NoMemory.is at c.run-run.ensures.run in
    let cut = cut_of rules run.0.on.run (c.start-machine.ensures.place ∙ c.first-place.ensures)
    c.start-machine.ensures.fresh in
    record {
      front = take c.run-run.result.used c.args.bytes.now;
      rest = drop c.run-run.result.used c.args.bytes.now;
      split = sym (take-append-drop c.run-run.result.used c.args.bytes.now);
      before = run.0.on.run.units;
      unit = run.1;
      cut = rw run.0.split (cut_unit rules g.met.B.Code.begins _ _ _ _ _ cut.0 (rw cut.1 at run.2));
    }

pub returns-in-Bad-clause-fault : goal.returns-in-Bad-clause-fault
returns-in-Bad-clause-fault g c = λ body is.
    let rules = g.B.Code.rules in
    let run = rw c.in-Bad.is at c.run-run.ensures.run in
    let cut = cut_of rules run.0.on.run (c.start-machine.ensures.place ∙ c.first-place.ensures)
    c.start-machine.ensures.fresh in
    let whole = take-append-drop c.run-run.result.used c.args.bytes.now in
    cut_bad rules g.met.B.Code.prefix_free g.met.B.Code.begins rules.first run.0.on.run.units body
    run.0.before.read.begun run.0.last (drop c.run-run.result.used c.args.bytes.now) cut.0.chain is.whole.chain
    cut.0.more (rw cut.1 at run.1)
    (is.spelled ∙ sym whole ∙ rw (run.0.split, ← cut.0.spelled, append_assoc, append_assoc))

pub returns-in-Bad-clause-memory : goal.returns-in-Bad-clause-memory
returns-in-Bad-clause-memory g c = λ e. absurd (let f : Err Bad ≡ Err Memory = e in cc)
