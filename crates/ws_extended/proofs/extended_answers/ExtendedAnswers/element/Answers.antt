use Rattle.std.proofs.Common.{[], ◌∷◌, ◌++◌}
use Rattle.ws_extended.specs.ExtendedAnswerMachine.{element_begun}
use Rattle.ws_extended.proofs.AnswerSteps.{element_more, prefix_of_element}
use Rattle.ws_extended.proofs.extended_answers.ExtendedAnswers.element.Goals as goal

pub returns-in-More : goal.returns-in-More
returns-in-More c =
    let m = c.args.self.now in
    element_more m.waits m.elements.place c.push.new.self.place (element_begun m.elements)
    (element_begun c.push.new.self) c.args.byte c.requires.waits c.in-More.ensures

pub returns-in-Bad : goal.returns-in-Bad
returns-in-Bad c =
    let m = c.args.self.now in (
      λ front. c.in-Bad.ensures.0 (prefix_of_element m.elements.place
          (element_begun m.elements ++ c.args.byte ∷ []) front),
      c.in-Bad.ensures.1,
    )
