-- What a command does whose standard streams may have been closed when the program began.

use Rattle.std.specs.Prelude.{◌≡◌, ℕ, List, [], Bool, true, false, Result, Ok, Err, ◌⊎◌}
use Rattle.ws_code.specs.Device.{Writer, WentOut, FailedWithin}
use Rattle.ws_printing.specs.Buffering.{Buffering}
use Rattle.ws_program.specs.Actions.{Action}
use Rattle.ws_program.specs.Answering.{answer_action}
use Rattle.ws_program.specs.declared.words.command_line.InputAsked.{InputAsked}
use Rattle.ws_program.specs.declared.words.command_line.InputAsked.TheVariants.{Play}
use Rattle.ws_script.specs.declared.asked.fault.RunFault.{RunFault}
use Rattle.ws_script.specs.declared.asked.fault.RunFault.TheVariants.{Write}

-- what is asked for, without a connection
abbrev pub in_one_place : InputAsked → InputAsked
in_one_place (Play file screen tcp paint) = Play file screen false paint
in_one_place asked = asked

-- the same with an output or without one
abbrev pub asked_at : Bool → InputAsked → InputAsked
asked_at true asked = asked
asked_at false asked = in_one_place asked

-- what a command comes to without an output that came to this: `Write` where it met no fault
abbrev pub closed_outcome : Result Bool RunFault → Result Bool RunFault
closed_outcome (Ok accepted) = Err Write
closed_outcome (Err fault) = Err fault

-- what a command comes to that came to this, with an output or without
abbrev pub outcome_at : Bool → Result Bool RunFault → Result Bool RunFault
outcome_at true outcome = outcome
outcome_at false outcome = closed_outcome outcome

-- What a buffer held at the end was handed on, and the command comes to what it came to, with an output or without; or
-- the sink failed.
abbrev pub IsHandedOn : {S : Type 0} → Writer S → Buffering S → S → Bool → Result Bool RunFault → Result Bool RunFault
    → Type 0
IsHandedOn writer mid to has_output outcome result = (WentOut writer mid.sink to mid.held
    × (mid.held ≡ [] → to ≡ mid.sink) × (result ≡ outcome_at has_output outcome))
    ⊎ (FailedWithin writer mid.sink to mid.held × (result ≡ Err Write))

-- what is done where standard output is closed: the same, and nothing ends well
abbrev pub into_closed : Action Bool RunFault → Action Bool RunFault
into_closed action = record {
  Refuses = action.Refuses;
  prints = record {
    Ends = λ text outcome. (met : Result Bool RunFault) × action.prints.Ends text met
        × (outcome ≡ closed_outcome met);
    Cut = action.prints.Cut;
  };
}

-- what is done with an output, or without one
abbrev pub at_output : Bool → Action Bool RunFault → Action Bool RunFault
at_output true action = action
at_output false action = into_closed action

-- What the program does with its input, with an output or without. Where it has none it opens no connection, and what
-- is found in the input and in running comes first.
abbrev pub openly : Bool → InputAsked → List ℕ → Action Bool RunFault
openly has_output asked input = at_output has_output (answer_action (asked_at has_output asked) input)
