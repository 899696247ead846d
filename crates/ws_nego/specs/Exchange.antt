-- An exchange: both ends, and the tokens in flight between them

use Rattle.std.specs.Prelude.{◌≡◌, ℕ, ◌+◌, List, [], ◌∷◌, ◌++◌, Bool, true, false, Option, Some, None, length}
use Rattle.std.specs.Prelude.{replicate}
use Rattle.ws_telnet.specs.declared.token.Telnet.{Telnet}
use Rattle.ws_nego.specs.declared.terminal.TerminalType.{TerminalType}
use Rattle.ws_nego.specs.declared.options.Direction.{Direction}
use Rattle.ws_nego.specs.declared.host.Mode.{Mode}
use Rattle.ws_nego.specs.declared.host.Mode.TheVariants.{Off, On}
use Rattle.ws_nego.specs.Options.{entry, Answer}
use Rattle.ws_nego.specs.Station.{StationState, new_station, station_answer}
use Rattle.ws_nego.specs.Host.{HostState, new_host, after_open, opening, host_answer}

-- both ends, and the tokens that are on their way to each
pub record Exchange : Type 0 where
  pub station : StationState
  pub host : HostState
  pub to_station : List Telnet
  pub to_host : List Telnet
  pub count : ℕ  -- how many tokens were ever written
  pub refused : Bool  -- the host end has refused a token

-- an exchange at its start: the host end's first token is on its way to the station
abbrev pub new_exchange : TerminalType → Exchange
new_exchange terminal = record {
  station = new_station terminal;
  host = after_open new_host;
  to_station = opening ∷ [];
  to_host = [];
  count = 1;
  refused = false;
}

-- the station takes the first of the tokens in flight to it, and writes its reply
abbrev pub after_station_takes : Exchange → List Telnet → Exchange
after_station_takes exchange [] = exchange
after_station_takes exchange (token ∷ later) =
    let answer = station_answer exchange.station token in
    record {
      station = answer.after;
      host = exchange.host;
      to_station = later;
      to_host = exchange.to_host ++ answer.reply;
      count = exchange.count + length answer.reply;
      refused = exchange.refused;
    }

-- the host end takes the first of the tokens in flight to it, and writes its reply or refuses the token
abbrev pub after_host_answers : Exchange → List Telnet → Option (Answer HostState) → Exchange
after_host_answers exchange later None = record exchange { refused = true }
after_host_answers exchange later (Some answer) = record {
  station = exchange.station;
  host = answer.after;
  to_station = exchange.to_station ++ answer.reply;
  to_host = later;
  count = exchange.count + length answer.reply;
  refused = exchange.refused;
}

-- the first of these tokens comes to the host end, if there is one, and its answer is on its way
abbrev pub after_host_takes : Exchange → List Telnet → Exchange
after_host_takes exchange [] = exchange
after_host_takes exchange (token ∷ later) =
    after_host_answers exchange later (host_answer exchange.host token)

-- a move brings one token to the station, or one to the host end
pub data Move : Type 0 where
  ToStation : Move
  ToHost : Move

-- the exchange after a move: the first token that is on its way to that end comes to it, and its reply is on its way
abbrev pub after_token_move : Move → Exchange → Exchange
after_token_move ToStation exchange = after_station_takes exchange exchange.to_station
after_token_move ToHost exchange = after_host_takes exchange exchange.to_host

-- the exchange after moves, in order
abbrev pub after_token_moves : List Move → Exchange → Exchange
after_token_moves [] exchange = exchange
after_token_moves (move ∷ moves) exchange = after_token_moves moves (after_token_move move exchange)

-- no token is on its way to either end
pub record IsExchangeQuiet (exchange : Exchange) : Type 0 where
  pub to_station : exchange.to_station ≡ []
  pub to_host : exchange.to_host ≡ []

-- the mode at the host end of a direction that is on, or off, at the station
abbrev pub mode_of : Bool → Mode
mode_of true = On
mode_of false = Off

-- the option tables agree: every direction is on at both ends, or off at both
abbrev pub TablesAgree : StationState → HostState → Type 0
TablesAgree station host =
    (direction : Direction) → entry host.modes direction ≡ mode_of (entry station.on direction)

-- the exchange once all that is on its way to the station has come there
abbrev pub after_all_to_station : Exchange → Exchange
after_all_to_station exchange = after_token_moves (replicate (length exchange.to_station) ToStation) exchange

-- the exchange once all that is on its way to the host end has come there
abbrev pub after_all_to_host : Exchange → Exchange
after_all_to_host exchange = after_token_moves (replicate (length exchange.to_host) ToHost) exchange

-- the exchange after a full delivery: all that is on its way comes to the station, and then all to the host end
abbrev pub after_delivery : Exchange → Exchange
after_delivery exchange = after_all_to_host (after_all_to_station exchange)

-- the exchange after three full deliveries, one after another
abbrev pub after_three_deliveries : Exchange → Exchange
after_three_deliveries exchange = after_delivery (after_delivery (after_delivery exchange))
