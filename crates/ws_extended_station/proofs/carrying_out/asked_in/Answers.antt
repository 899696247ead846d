use Rattle.std.proofs.Common.{◌≡◌, ◌∙◌, [], sym}
use Rattle.ws_code.proofs.RunLaws.{same_reading}
use Rattle.ws_extended.specs.ExtendedElements.{extended_rules}
use Rattle.ws_extended.specs.ExtendedLaws.{extended_begins}
use Rattle.ws_extended.specs.ExtendedRuns.{reading_by}
use Rattle.ws_end.proofs.Reading.{read_none, ready}
use Rattle.ws_extended_station.proofs.CarryingOut.{all_asked, beginning}
use Rattle.ws_extended_station.proofs.carrying_out.asked_in.Goals as goal

pub run-requires : goal.run-requires
run-requires c =
    let reading = reading_by c.start-machine.result in
    let first : reading ≡ beginning = same_reading reading.place beginning.place reading.begun []
    (c.start-machine.ensures.place ∙ c.first-place.ensures) c.start-machine.ensures.fresh in
    record {
      unfinished = ready extended_rules [] [] reading (read_none extended_rules extended_begins reading first);
      at_place = sym c.start-machine.ensures.place;
      inside = λ e. absurd (cc);
      between = λ e. c.start-machine.ensures.fresh;
    }

pub returns : goal.returns
returns c = λ body chain same.
    let reading = reading_by c.start-machine.result in
    all_asked reading (reading_by c.run.new.self) c.new-asked.result c.run.new.keep c.args.bytes.now c.run.result.used
    c.run.new.at (same_reading reading.place beginning.place reading.begun []
    (c.start-machine.ensures.place ∙ c.first-place.ensures) c.start-machine.ensures.fresh) c.new-asked.ensures body
    chain same c.run.result.end c.run.ensures.whole c.run.ensures.run
