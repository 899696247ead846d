-- A dialogue: both ends, all tokens that were ever written, and how many of them have arrived

use Rattle.std.specs.Prelude.{◌≡◌, ℕ, ◌+◌, List, [], ◌∷◌, ◌++◌, Bool, true, false, Option, Some, None, length, drop}
use Rattle.ws_telnet.specs.declared.token.Telnet.{Telnet}
use Rattle.ws_nego.specs.declared.terminal.TerminalType.{TerminalType}
use Rattle.ws_nego.specs.Options.{Answer}
use Rattle.ws_nego.specs.Station.{StationState, new_station, station_answer}
use Rattle.ws_nego.specs.Host.{HostState, new_host, after_open, opening, host_answer}
use Rattle.ws_nego.specs.Exchange.{Move, ToStation, ToHost}

-- both ends, all that either has written, and how many of its tokens have arrived
pub record Dialogue : Type 0 where
  pub station : StationState
  pub host : HostState
  pub to_station : List Telnet
  pub to_host : List Telnet
  pub at_station : ℕ
  pub at_host : ℕ
  pub refused : Bool  -- the host end has refused a token

-- a dialogue at its start: the host end has written its first token
abbrev pub new_dialogue : TerminalType → Dialogue
new_dialogue terminal = record {
  station = new_station terminal;
  host = after_open new_host;
  to_station = opening ∷ [];
  to_host = [];
  at_station = 0;
  at_host = 0;
  refused = false;
}

-- the first of the tokens that haven't arrived at the station comes there, and the station writes its reply
abbrev pub after_station_gets : Dialogue → List Telnet → Dialogue
after_station_gets dialogue [] = dialogue
after_station_gets dialogue (token ∷ later) =
    let answer = station_answer dialogue.station token in
    record {
      station = answer.after;
      host = dialogue.host;
      to_station = dialogue.to_station;
      to_host = dialogue.to_host ++ answer.reply;
      at_station = dialogue.at_station + 1;
      at_host = dialogue.at_host;
      refused = dialogue.refused;
    }

-- the first of those that haven't arrived at the host end comes there, and it writes its reply or refuses the
-- token
abbrev pub after_host_writes : Dialogue → Option (Answer HostState) → Dialogue
after_host_writes dialogue None = record dialogue { refused = true }
after_host_writes dialogue (Some answer) = record {
  station = dialogue.station;
  host = answer.after;
  to_station = dialogue.to_station ++ answer.reply;
  to_host = dialogue.to_host;
  at_station = dialogue.at_station;
  at_host = dialogue.at_host + 1;
  refused = dialogue.refused;
}

-- the first of these tokens comes to the host end, if there is one, and it writes its answer
abbrev pub after_host_gets : Dialogue → List Telnet → Dialogue
after_host_gets dialogue [] = dialogue
after_host_gets dialogue (token ∷ later) = after_host_writes dialogue (host_answer dialogue.host token)

-- the dialogue after a move: the first token that is on its way to that end arrives there
abbrev pub after_arrival : Move → Dialogue → Dialogue
after_arrival ToStation dialogue =
    after_station_gets dialogue (drop dialogue.at_station dialogue.to_station)
after_arrival ToHost dialogue = after_host_gets dialogue (drop dialogue.at_host dialogue.to_host)

-- the dialogue after moves, in order
abbrev pub after_arrivals : List Move → Dialogue → Dialogue
after_arrivals [] dialogue = dialogue
after_arrivals (move ∷ moves) dialogue = after_arrivals moves (after_arrival move dialogue)

-- all that was written has arrived, at both ends
pub record IsAllArrived (dialogue : Dialogue) : Type 0 where
  pub at_station : dialogue.at_station ≡ length dialogue.to_station
  pub at_host : dialogue.at_host ≡ length dialogue.to_host
