use Rattle.std.proofs.Common.{◌≡◌, ℕ, length, take, slice_index_or, subst, arith}
use Rattle.std.proofs.lemmas.List.{take_more}
use Rattle.ws_code.specs.Run.{RunsOn, intake, with_keep}
use Rattle.ws_code.proofs.RunLaws.{runs_none}
use Rattle.ws_stream.specs.Elements.{element_rules}
use Rattle.ws_stream.specs.Taking.{reading_of}
use Rattle.ws_stream.proofs.Running.{takes_more, takes_last, stands_so}
use Rattle.ws_stream.proofs.commands.Commands.take_all.Goals as goal

pub loop-index-init : goal.loop-index-init
loop-index-init g c = runs_none element_rules g.K.Keep.keeper _ _ c.requires

pub take-requires : goal.take-requires
take-requires g c = c.loop-index.invariant.run.unfinished

pub loop-index-preserved : goal.loop-index-preserved
loop-index-preserved g c =
    let values = c.args.values.now in
    let i = c.loop-index.index in
    takes_more c.loop-index.self _ (slice_index_or values i 0) _ _ c.loop-index.invariant c.in-More.ensures
    (take_more values i 0 c.loop-index-test.true)

pub returns-in_default-clause-run : goal.returns-in_default-clause-run
returns-in_default-clause-run g c =
    let values = c.args.values.now in
    let i = c.loop-index.index in
    takes_last c.loop-index.self _ (slice_index_or values i 0) _ _ _ c.loop-index.invariant c.take.ensures
    (take_more values i 0 c.loop-index-test.true) c.in_default.not-More

pub returns-clause-run : goal.returns-clause-run
returns-clause-run g c =
    let values = c.args.values.now in
    let all : c.loop-index.index ≡ length values = omega arith in
    let on = c.loop-index.invariant in (
      subst (λ (n : ℕ). RunsOn (intake element_rules g.K.Keep.keeper)
          (with_keep (reading_of c.args.self.now) c.args.keep.now) (take n values)
          (with_keep (reading_of c.loop-index.self) c.loop-index.keep)) all on,
      stands_so c.loop-index.self on.run.unfinished,
    )
