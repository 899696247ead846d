use Rattle.std.proofs.Common.{ℕ, List, [], take, subst, arith}
use Rattle.ws_code.specs.Run.{IsRunOfValues, RunsOn, intake, with_keep}
use Rattle.ws_code.specs.declared.run.End.TheVariants.{More}
use Rattle.ws_code.proofs.DeviceLaws.{length_rest}
use Rattle.ws_code.proofs.Pieces.{bytes_on, left_of}
use Rattle.ws_code.proofs.RunLaws.{runs_none}
use Rattle.ws_extended.specs.ExtendedElements.{extended_rules}
use Rattle.ws_extended.specs.ExtendedRuns.{reading_by}
use Rattle.ws_extended.proofs.Running.{run_both}
use Rattle.ws_extended.proofs.extended_commands.ExtendedCommandsCode.run.Goals as goal

pub loop-used-init : goal.loop-used-init
loop-used-init g c = record {
  inside = omega arith;
  on = runs_none extended_rules g.K.Keep.keeper _ _ c.requires.unfinished;
  is_at = c.requires;
}

pub loop-used-preserved : goal.loop-used-preserved
loop-used-preserved g c =
    let values = c.args.values.now in
    let now = c.loop-used in
    let run = c.take-run in
    let i : ℕ = now.used in
    let k : ℕ = run.result.used in
    let to = reading_by run.new.self in
    let on = run_both extended_rules g.K.Keep.keeper (reading_by c.args.self.now)
    (reading_by now.self) c.args.keep.now now.keep (take i values) now.invariant.on (take k (left_of values i)) to
    run.new.at run.new.keep More (rw c.in-More.is at run.ensures.run) in
    record {
      inside = omega (arith, run.ensures.used, length_rest values i, now.invariant.inside);
      on = subst (λ (xs : List ℕ). RunsOn (intake extended_rules g.K.Keep.keeper)
          (with_keep (reading_by c.args.self.now) c.args.keep.now) xs (with_keep to run.new.keep))
          (bytes_on [] values i k)
          on.0;
      is_at = on.1;
    }

pub returns-in_default : goal.returns-in_default
returns-in_default g c =
    let values = c.args.values.now in
    let now = c.loop-used in
    let run = c.take-run in
    let i : ℕ = now.used in
    let k : ℕ = run.result.used in
    let to = reading_by run.new.self in
    let all = run_both extended_rules g.K.Keep.keeper (reading_by c.args.self.now)
    (reading_by now.self) c.args.keep.now now.keep (take i values) now.invariant.on (take k (left_of values i)) to
    run.new.at run.new.keep run.result.end run.ensures.run in
    record {
      used = omega (arith, run.ensures.used, length_rest values i, now.invariant.inside);
      whole = λ e. absurd (c.in_default.not-More e);
      run = subst (λ (xs : List ℕ). IsRunOfValues (intake extended_rules g.K.Keep.keeper)
          (with_keep (reading_by c.args.self.now) c.args.keep.now) xs (with_keep to run.new.keep) run.new.at
          run.result.end)
          (bytes_on [] values i k) all;
    }

pub returns : goal.returns
returns g c =
    let now = c.loop-used in
    record {
      used = now.invariant.inside;
      whole = λ e. omega (arith, now.invariant.inside, c.loop-used-test.false);
      run = (now.invariant.on, now.invariant.is_at);
    }
