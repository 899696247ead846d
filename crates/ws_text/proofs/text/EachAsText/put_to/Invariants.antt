use Rattle.std.specs.List.{flat_map}
use Rattle.ws_text.proofs.Common.{take, Prints}
use Rattle.ws_text.proofs.text.EachAsText.put_to.Given as goal

-- the values so far
abbrev pub invariant-loop-value : goal.invariant-loop-value
invariant-loop-value g l = Prints g.S.Sink.writer l.fn.sink l.sink l.fn.output l.output
    (flat_map (g.X.TextAs.text_as l.self.1) (take l.value-index l.value-items))
