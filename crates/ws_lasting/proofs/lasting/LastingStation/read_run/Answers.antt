use Rattle.ws_lasting.proofs.Common as C
use C.{rules, ◌≡◌, ◌+◌, ◌-◌, ℕ, Err, ap, ◌∙◌, arith, Refusal, Failed, Memory, LastingParts}
use Rattle.ws_lasting.proofs.ReadingRuns.{run_goes, run_refused, run_shut}
use Rattle.ws_lasting.proofs.Runs.{run_bytes}
use Rattle.ws_lasting.proofs.lasting.LastingStation.read_run.Goals as goal

pub returns-in-Ok : goal.returns-in-Ok
returns-in-Ok g c =
    let h = c.hear_run-used in
    let code = g.met.D.Commands.Code in
    let same = c.grow.ensures ∙ ap (λ (z : LastingParts _ _). (record z { size = z.size + h.result.used }))
    (c.count.ensures ∙ ap (λ (z : LastingParts _ _). (record z { taken = z.taken + h.result.used })) h.ensures.same) in
    run_goes g.D.Commands.Code.rules g.D.StationDisplay.does code.prefix_free code.begins g.met.D.Commands.Body.can_end
    code.bytes c.args.self.now c.args.run.now c.requires.fits c.requires.some c.requires.between c.requires.reads
    h.new.self.station h.result.used h.result.step h.ensures.heard
    (run_bytes c.args.run.now (λ i. omega (arith, c.type_inv.run i))) c.requires.plain c.in-Ok.step c.grow.new.self
    c.in-Ok.is same

pub returns-in-Err-At : goal.returns-in-Err-At
returns-in-Err-At g c =
    let h = c.hear_run-used in
    let old = c.args.self.now in
    let code = g.met.D.Commands.Code in
    let less : c.saturating_sub.result ≡ h.result.used - 1 = search rules in
    let same = c.grow-in-Err-At.ensures ∙ ap (λ (z : LastingParts _ _).
    (record z { size = z.size + c.saturating_sub.result })) (c.count.ensures ∙ ap (λ (z : LastingParts _ _).
    (record z { taken = z.taken + h.result.used })) h.ensures.same)
    ∙ ap (λ (n : ℕ). (record old {
      station = h.new.self.station;
      taken = old.taken + h.result.used;
      size = old.size + n;
    })) less in
    run_refused g.D.Commands.Code.rules g.D.StationDisplay.does code.prefix_free code.begins
    g.met.D.Commands.Body.can_end code.bytes old c.args.run.now c.requires.fits c.requires.some c.requires.between
    c.requires.reads h.new.self.station h.result.used h.result.step h.ensures.heard
    (run_bytes c.args.run.now (λ i. omega (arith, c.type_inv.run i))) c.requires.plain c.in-Err-At.field-0-0
    c.in-Err-At.reason c.refuse.new.self c.refuse.result
    (c.in-Err-At.is ∙ ap (λ (r : Refusal). Err r) (rw c.in-Err-At.is at c.in-Err-At.field-0-is))
    (rw same at c.refuse.ensures.same) c.refuse.ensures.after (rw same at c.refuse.ensures.left)
    (rw same at c.refuse.ensures.placed c.requires.reads)
    (rw same at c.refuse.ensures.heard)

pub returns-in-Err-Failed : goal.returns-in-Err-Failed
returns-in-Err-Failed g c =
    let h = c.hear_run-used in
    let code = g.met.D.Commands.Code in
    let is = c.in-Err-Failed.is ∙ ap (λ (r : Refusal). Err r) (rw c.in-Err-Failed.is at c.in-Err-Failed.field-0-is) in
    rw c.stop.ensures.result (run_shut g.D.Commands.Code.rules g.D.StationDisplay.does code.prefix_free code.begins
    g.met.D.Commands.Body.can_end code.bytes c.args.self.now c.args.run.now c.requires.fits c.requires.some
    c.requires.between c.requires.reads h.new.self.station h.result.used h.result.step h.ensures.heard
    (run_bytes c.args.run.now (λ i. omega (arith, c.type_inv.run i))) c.requires.plain Failed c.stop.new.self is
    (λ place reason e. cc) (search rules) (search rules))

pub returns-in-Err-Memory : goal.returns-in-Err-Memory
returns-in-Err-Memory g c =
    let h = c.hear_run-used in
    let code = g.met.D.Commands.Code in
    let is = c.in-Err-Memory.is ∙ ap (λ (r : Refusal). Err r) (rw c.in-Err-Memory.is at c.in-Err-Memory.field-0-is) in
    rw c.stop-in-Err-Memory.ensures.result (run_shut g.D.Commands.Code.rules g.D.StationDisplay.does code.prefix_free
    code.begins g.met.D.Commands.Body.can_end code.bytes c.args.self.now c.args.run.now c.requires.fits c.requires.some
    c.requires.between c.requires.reads h.new.self.station h.result.used h.result.step h.ensures.heard
    (run_bytes c.args.run.now (λ i. omega (arith, c.type_inv.run i))) c.requires.plain Memory
    c.stop-in-Err-Memory.new.self is (λ place reason e. cc) (search rules) (search rules))
