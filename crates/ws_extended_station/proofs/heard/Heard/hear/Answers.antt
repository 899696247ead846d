use Rattle.std.proofs.Common.{[]}
use Rattle.ws_end.proofs.AlarmLaws.{counts_one}
use Rattle.ws_extended_station.specs.ExtendedAlarms.{extended_sounds}
use Rattle.ws_extended_station.proofs.heard.Heard.hear.Goals as goal

pub returns : goal.returns
returns c = λ us heard. (
  (rw c.keep-goes_on.ensures.answer at c.keep-goes_on.ensures.kept) us [] heard.0,
  counts_one extended_sounds _ _ us c.args.element heard.1 c.count_alarm-self.ensures.sounds c.count_alarm-self.ensures.silent,
)
