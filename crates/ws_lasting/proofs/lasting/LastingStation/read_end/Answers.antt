use Rattle.ws_lasting.proofs.Common as C
use C.{rules, ◌+◌, ◌∷◌, [], Err, None, ap, ◌∙◌, subst, Refusal, Failed, Memory, IsCounted, LastingParts}
use C.{RecordCounts, CarriedOut}
use Rattle.ws_lasting.proofs.ReadingEnds.{end_goes, end_refused, end_shut}
use Rattle.ws_lasting.proofs.lasting.LastingStation.read_end.Goals as goal

pub returns-in-Ok : goal.returns-in-Ok
returns-in-Ok g c =
    let h = c.hear_run-used in
    let code = g.met.D.Commands.Code in
    let counts = c.close.new.self.counts in
    let heard = c.count.ensures ∙ ap (λ (z : LastingParts _ _). (record z { taken = z.taken + h.result.used }))
    h.ensures.same in
    let same = c.close.ensures.same
    ∙ ap (λ (z : LastingParts _ _). (record z { size = 0; passing = None; counts = counts })) heard in
    end_goes g.D.Commands.Code.rules g.D.StationDisplay.does code.prefix_free code.begins g.met.D.Commands.Body.can_end
    code.bytes c.args.self.now c.requires.fits c.requires.between c.requires.reads h.new.self.station h.result.used
    h.result.step h.ensures.heard c.in-Ok.step counts c.close.new.self c.in-Ok.is same
    (subst (λ (k : RecordCounts). IsCounted k (CarriedOut ∷ []) counts) (ap (λ (z : LastingParts _ _). z.counts) heard)
    c.close.ensures.counted)

pub returns-in-Err-At : goal.returns-in-Err-At
returns-in-Err-At g c =
    let h = c.hear_run-used in
    let code = g.met.D.Commands.Code in
    let same = c.count.ensures ∙ ap (λ (z : LastingParts _ _). (record z { taken = z.taken + h.result.used }))
    h.ensures.same in
    end_refused g.D.Commands.Code.rules g.D.StationDisplay.does code.prefix_free code.begins
    g.met.D.Commands.Body.can_end code.bytes c.args.self.now c.requires.fits c.requires.between c.requires.reads
    h.new.self.station h.result.used h.result.step h.ensures.heard c.in-Err-At.field-0-0 c.in-Err-At.reason
    c.refuse.new.self c.refuse.result
    (c.in-Err-At.is ∙ ap (λ (r : Refusal). Err r) (rw c.in-Err-At.is at c.in-Err-At.field-0-is))
    (rw same at c.refuse.ensures.same) c.refuse.ensures.after (rw same at c.refuse.ensures.left)
    (rw same at c.refuse.ensures.placed c.requires.reads)
    (rw same at c.refuse.ensures.heard)

pub returns-in-Err-Failed : goal.returns-in-Err-Failed
returns-in-Err-Failed g c =
    let h = c.hear_run-used in
    let code = g.met.D.Commands.Code in
    let is = c.in-Err-Failed.is ∙ ap (λ (r : Refusal). Err r) (rw c.in-Err-Failed.is at c.in-Err-Failed.field-0-is) in
    rw c.stop.ensures.result (end_shut g.D.Commands.Code.rules g.D.StationDisplay.does code.prefix_free code.begins
    g.met.D.Commands.Body.can_end code.bytes c.args.self.now c.requires.fits c.requires.between
    c.requires.reads h.new.self.station h.result.used h.result.step h.ensures.heard Failed c.stop.new.self is
    (λ place reason e. cc) (search rules) (search rules))

pub returns-in-Err-Memory : goal.returns-in-Err-Memory
returns-in-Err-Memory g c =
    let h = c.hear_run-used in
    let code = g.met.D.Commands.Code in
    let is = c.in-Err-Memory.is ∙ ap (λ (r : Refusal). Err r) (rw c.in-Err-Memory.is at c.in-Err-Memory.field-0-is) in
    rw c.stop-in-Err-Memory.ensures.result (end_shut g.D.Commands.Code.rules g.D.StationDisplay.does code.prefix_free
    code.begins g.met.D.Commands.Body.can_end code.bytes c.args.self.now c.requires.fits c.requires.between
    c.requires.reads h.new.self.station h.result.used h.result.step h.ensures.heard Memory c.stop-in-Err-Memory.new.self
    is (λ place reason e. cc) (search rules) (search rules))
