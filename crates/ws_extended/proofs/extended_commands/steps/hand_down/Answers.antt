use Rattle.std.proofs.Common.{◌++◌, ◌∷◌, [], refl, ◌∙◌}
use Rattle.ws_stream.specs.UnfinishedElement.{unfinished_of}
use Rattle.ws_extended.proofs.Lifting.{unfinished_up, spelled_up, prefix_down}
use Rattle.ws_extended.proofs.extended_commands.steps.hand_down.Goals as goal

pub push-requires : goal.push-requires
push-requires c = rw c.requires.at c.requires.unfinished

pub returns-in-More-clause-step : goal.returns-in-More-clause-step
returns-in-More-clause-step c =
    let step : _ = rw c.requires.at at c.in-More.ensures in (
      refl,
      step.1,
      unfinished_up c.args.place (unfinished_of c.args.inner.now ++ c.args.byte ∷ []) c.requires.inner step.2,
    )

pub returns-in-Unit-clause-step : goal.returns-in-Unit-clause-step
returns-in-Unit-clause-step c =
    rw c.lifted.ensures
    (spelled_up c.args.place (unfinished_of c.args.inner.now ++ c.args.byte ∷ []) c.in-Unit.element c.requires.inner
    (rw c.requires.at at c.in-Unit.ensures))

pub returns-in-Bad-clause-step : goal.returns-in-Bad-clause-step
returns-in-Bad-clause-step c =
    let step : _ = rw c.requires.at at c.in-Bad.ensures in (
      λ front. step.0 (prefix_down c.args.place (unfinished_of c.args.inner.now ++ c.args.byte ∷ []) c.requires.inner
          front),
      step.1 ∙ c.requires.reason step.0,
    )
