use Rattle.std.proofs.Common.{◌++◌, ◌∙◌, sym, ap}
use Rattle.ws_code.specs.Run.{Reading}
use Rattle.ws_code.proofs.DeviceLaws.{rest_from}
use Rattle.ws_extended_station.proofs.Units.{behind_shorter, reads_none, reads_one}
use Rattle.ws_extended_station.proofs.unit_reader.UnitReader.read.Goals as goal

pub invariant_of-self : goal.invariant_of-self
invariant_of-self g c =
    let one = reads_one g.B.Code.rules _ c.args.bytes.now c.run-run.result.used _ c.run-run.new.at c.run-run.new.keep
    c.self.invariant.1 c.run-run.result.end (rw c.requires at c.run-run.ensures.run) c.in-Some.field-0 c.in-Some.is in
    (one.3, ap (λ (r : Reading _). r.begun) one.2)

pub returns-in-Some-clause-some : goal.returns-in-Some-clause-some
returns-in-Some-clause-some g c = λ unit some.
    let rules = g.B.Code.rules in
    let bytes = c.args.bytes.now in
    let used = c.run-run.result.used in
    let one = reads_one rules _ bytes used _ c.run-run.new.at c.run-run.new.keep c.self.invariant.1 c.run-run.result.end
    (rw c.requires at c.run-run.ensures.run) unit some in
    let spelled = one.1 ∙ ap (λ behind. rules.spelling unit ++ behind) (sym (rest_from bytes used)) in (
      rw (← c.self.view_is) one.0,
      spelled,
      behind_shorter _ _ bytes (g.met.B.Code.nonempty unit one.0.is_unit) spelled,
      ap (λ (r : Reading _). r.place) one.2,
    )

pub returns-in-None-clause-none : goal.returns-in-None-clause-none
returns-in-None-clause-none g c = λ none. rw (← c.self.view_is) (
    reads_none g.B.Code.rules _ c.args.bytes.now c.run-run.result.used _ c.run-run.new.at c.run-run.new.keep
    c.self.invariant.1 g.met.B.Code.prefix_free g.met.B.Code.begins c.run-run.result.end
    (rw c.requires at c.run-run.ensures.run) none c.run-run.ensures.whole)
