use Rattle.std.proofs.Common.{◌∷◌, ◌∙◌, List, [], sym, subst}
use Rattle.std.proofs.lemmas.Grind.{flat_map-append}
use Rattle.std.proofs.lemmas.List.{append-nil}
use Rattle.ws_extended.specs.Asking.{HasAsked, ask_in, asks_in}
use Rattle.ws_extended.specs.declared.ask.Ask.{Ask}
use Rattle.ws_extended.specs.declared.extended_element.ExtendedElement.TheVariants.{Profile}
use Rattle.ws_end.proofs.AlarmLaws.{counts_one}
use Rattle.ws_extended_station.specs.ExtendedAlarms.{extended_sounds}
use Rattle.ws_extended_station.proofs.heard.Heard.hear_profile.Goals as goal

pub returns : goal.returns
returns c = λ us heard. (
  subst (λ (asks : List Ask). HasAsked asks c.args.self.now.asked.ask c.args.self.now.asked.refused)
      (sym (flat_map-append ask_in us (Profile c.args.element.now ∷ []) ∙ append-nil (asks_in us))) heard.0,
  counts_one extended_sounds _ _ us (Profile c.args.element.now) heard.1 c.count_alarm-self.ensures.sounds c.count_alarm-self.ensures.silent,
)
