-- Exchanges by stages: how far each end is, where a move leads, and what holds at each.
use Rattle.std.proofs.Common.{◌≡◌, ℕ, ◌+◌, ◌≤◌, List, [], ◌∷◌, true, false, Some, length, take, drop, replicate, refl}
use Rattle.std.proofs.Common.{ap, ◌∙◌, sym, subst, lit≤}
use Rattle.ws_telnet.specs.declared.codes.TheConstants.{BINARY, TERMINAL_TYPE, END_OF_RECORD}
use Rattle.ws_telnet.specs.declared.token.Telnet.{Telnet}
use Rattle.ws_telnet.specs.declared.token.Telnet.TheVariants.{Option as Negotiate}
use Rattle.ws_telnet.specs.declared.token.Verb.TheVariants.{Will, Do}
use Rattle.ws_nego.specs.Exchange.{Exchange, Move, ToStation, ToHost, new_exchange, after_token_move, after_token_moves}
use Rattle.ws_nego.specs.Exchange.{IsExchangeQuiet, TablesAgree, after_all_to_host, after_delivery}
use Rattle.ws_nego.specs.Exchange.{after_three_deliveries}
use Rattle.ws_nego.specs.Host.{HostState, opening, host_allows_records}
use Rattle.ws_nego.specs.Station.{StationState, new_station, station_answer, station_allows_records, name_request}
use Rattle.ws_nego.specs.Station.{name_answer}
use Rattle.ws_nego.specs.Terminal.{terminal_type_name, terminal_named}
use Rattle.ws_nego.specs.declared.host.Mode.{Mode}
use Rattle.ws_nego.specs.declared.host.Mode.TheVariants.{Off, Asked, On}
use Rattle.ws_nego.specs.declared.host.TerminalName.{TerminalName}
use Rattle.ws_nego.specs.declared.host.TerminalName.TheVariants.{Unknown, Requested, Accepted}
use Rattle.ws_nego.specs.declared.options.Direction.TheVariants.{StationBinary}
use Rattle.ws_nego.specs.declared.terminal.TerminalType.{TerminalType}
use Rattle.ws_nego.specs.declared.terminal.TerminalType.TheVariants.{Ibm5251Model11}

-- An exchange is determined by how many tokens each end has taken. The stages are named by these two
-- numbers, the station's first.
pub data Stage : Type 0 where
  at_00 : Stage
  at_10 : Stage
  at_11 : Stage
  at_21 : Stage
  at_22 : Stage
  at_32 : Stage
  at_42 : Stage
  at_52 : Stage
  at_62 : Stage
  at_33 : Stage
  at_43 : Stage
  at_53 : Stage
  at_63 : Stage
  at_44 : Stage
  at_54 : Stage
  at_64 : Stage
  at_55 : Stage
  at_65 : Stage
  at_66 : Stage

-- all that the host end writes, and all that the station does
abbrev host_tokens : List Telnet
host_tokens =
    opening ∷ name_request
    ∷ Negotiate Do END_OF_RECORD ∷ Negotiate Will END_OF_RECORD
    ∷ Negotiate Do BINARY ∷ Negotiate Will BINARY ∷ []

abbrev station_tokens : TerminalType → List Telnet
station_tokens t =
    Negotiate Will TERMINAL_TYPE ∷ name_answer t
    ∷ Negotiate Will END_OF_RECORD ∷ Negotiate Do END_OF_RECORD
    ∷ Negotiate Will BINARY ∷ Negotiate Do BINARY ∷ []

abbrev station_after : StationState → List Telnet → StationState
station_after s [] = s
station_after s (token ∷ tokens) = station_after (station_answer s token).after tokens

-- the host end before and after it has the name
abbrev asking : Mode → TerminalName → HostState
asking mode name = record {
  modes = record {
    station_binary = Off;
    station_terminal_type = mode;
    station_end_of_record = Off;
    host_binary = Off;
    host_end_of_record = Off;
  };
  name = name;
}

abbrev named : TerminalType → Mode → Mode → Mode → Mode → HostState
named t station_end_of_record host_end_of_record station_binary host_binary = record {
  modes = record {
    station_binary = station_binary;
    station_terminal_type = On;
    station_end_of_record =
        station_end_of_record;
    host_binary = host_binary;
    host_end_of_record = host_end_of_record;
  };
  name = Accepted t;
}

-- the exchange once the station has taken so many tokens, and the host end so many and written so many
abbrev built : TerminalType → ℕ → ℕ → ℕ → HostState → Exchange
built t station_took host_took host_wrote host = record {
  station = station_after (new_station t) (take station_took host_tokens);
  host = host;
  to_station = drop station_took (take host_wrote host_tokens);
  to_host = drop host_took (take station_took (station_tokens t));
  count = host_wrote + station_took;
  refused = false;
}

abbrev pub exchange_at : TerminalType → Stage → Exchange
exchange_at t at_00 = built t 0 0 1 (asking Asked Unknown)
exchange_at t at_10 = built t 1 0 1 (asking Asked Unknown)
exchange_at t at_11 = built t 1 1 2 (asking On Requested)
exchange_at t at_21 = built t 2 1 2 (asking On Requested)
exchange_at t at_22 = built t 2 2 6 (named t Asked Asked Asked Asked)
exchange_at t at_32 = built t 3 2 6 (named t Asked Asked Asked Asked)
exchange_at t at_42 = built t 4 2 6 (named t Asked Asked Asked Asked)
exchange_at t at_52 = built t 5 2 6 (named t Asked Asked Asked Asked)
exchange_at t at_62 = built t 6 2 6 (named t Asked Asked Asked Asked)
exchange_at t at_33 = built t 3 3 6 (named t On Asked Asked Asked)
exchange_at t at_43 = built t 4 3 6 (named t On Asked Asked Asked)
exchange_at t at_53 = built t 5 3 6 (named t On Asked Asked Asked)
exchange_at t at_63 = built t 6 3 6 (named t On Asked Asked Asked)
exchange_at t at_44 = built t 4 4 6 (named t On On Asked Asked)
exchange_at t at_54 = built t 5 4 6 (named t On On Asked Asked)
exchange_at t at_64 = built t 6 4 6 (named t On On Asked Asked)
exchange_at t at_55 = built t 5 5 6 (named t On On On Asked)
exchange_at t at_65 = built t 6 5 6 (named t On On On Asked)
exchange_at t at_66 = built t 6 6 6 (named t On On On On)

-- where a move brings nothing, the stage stays
abbrev next : Move → Stage → Stage
next ToStation at_00 = at_10
next ToStation at_11 = at_21
next ToStation at_22 = at_32
next ToStation at_32 = at_42
next ToStation at_42 = at_52
next ToStation at_52 = at_62
next ToStation at_33 = at_43
next ToStation at_43 = at_53
next ToStation at_53 = at_63
next ToStation at_44 = at_54
next ToStation at_54 = at_64
next ToStation at_55 = at_65
next ToHost at_10 = at_11
next ToHost at_21 = at_22
next ToHost at_32 = at_33
next ToHost at_42 = at_43
next ToHost at_52 = at_53
next ToHost at_62 = at_63
next ToHost at_43 = at_44
next ToHost at_53 = at_54
next ToHost at_63 = at_64
next ToHost at_54 = at_55
next ToHost at_64 = at_65
next ToHost at_65 = at_66
next move stage = stage

-- a terminal's name is accepted as its own
terminal_named-own : (t : TerminalType) → terminal_named (terminal_type_name t) ≡ Some t
unfolding terminal_named
terminal_named-own Ibm5251Model11 = refl
terminal_named-own t = refl

-- a move leads from stage to stage
step : (t : TerminalType) (m : Move) (s : Stage) → after_token_move m (exchange_at t s) ≡ exchange_at t (next m s)
step t ToStation at_00 = refl
step t ToStation s = refl
step t ToHost at_21 = rw (terminal_named-own t)
step t ToHost s = refl

abbrev pub stage_after : List Move → Stage → Stage
stage_after [] s = s
stage_after (m ∷ ms) s = stage_after ms (next m s)

pub steps : (t : TerminalType) (ms : List Move) (s : Stage) → after_token_moves ms (exchange_at t s)
    ≡ exchange_at t (stage_after ms s)
steps t [] s = refl
steps t (m ∷ ms) s = ap (after_token_moves ms) (step t m s) ∙ steps t ms (next m s)

end_agrees : (t : TerminalType) → TablesAgree (exchange_at t at_66).station (exchange_at t at_66).host
end_agrees t StationBinary = refl
end_agrees t direction = refl

-- only at the last stage is nothing in flight
quiet_agree : (t : TerminalType) (s : Stage) → IsExchangeQuiet (exchange_at t s)
    → TablesAgree (exchange_at t s).station (exchange_at t s).host
quiet_agree t at_66 q = end_agrees t
quiet_agree t s q = absurd (let e = q.to_station in let f = q.to_host in cc)

few : (t : TerminalType) (s : Stage) → (exchange_at t s).count ≤ 12
few t at_66 = lit≤ tt
few t s = lit≤ tt

unrefused : (t : TerminalType) (s : Stage) → (exchange_at t s).refused ≡ false
unrefused t at_66 = refl
unrefused t s = refl

-- the stages after full deliveries
abbrev station_full : TerminalType → Stage → Stage
station_full t s = stage_after (replicate (length (exchange_at t s).to_station) ToStation) s

abbrev host_full : TerminalType → Stage → Stage
host_full t s = stage_after (replicate (length (exchange_at t s).to_host) ToHost) s

abbrev both_full : TerminalType → Stage → Stage
both_full t s = host_full t (station_full t s)

full_delivery : (t : TerminalType) (s : Stage) → after_delivery (exchange_at t s) ≡ exchange_at t (both_full t s)
full_delivery t s =
    ap after_all_to_host (steps t (replicate (length (exchange_at t s).to_station) ToStation) s)
    ∙ steps t (replicate (length (exchange_at t (station_full t s)).to_host) ToHost) (station_full t s)

three_full : (t : TerminalType) (s : Stage) → both_full t (both_full t (both_full t s)) ≡ at_66
three_full t at_66 = refl
three_full t s = refl

-- once the station allows records, nothing is in flight to it
station_last : (t : TerminalType) (s : Stage) → station_allows_records (exchange_at t s).station ≡ true
    → (exchange_at t s).to_station ≡ []
station_last t at_62 h = refl
station_last t at_63 h = refl
station_last t at_64 h = refl
station_last t at_65 h = refl
station_last t at_66 h = refl
station_last t s h = cc

-- and once nothing is in flight to the host end either, this one allows them too
both_last : (t : TerminalType) (s : Stage) → station_allows_records (exchange_at t s).station ≡ true
    → (exchange_at t s).to_host ≡ [] → host_allows_records (exchange_at t s).host ≡ true
both_last t at_66 h e = refl
both_last t s h e = cc

-- once the host end allows records, nothing is in flight, and the station allows them too
host_last : (t : TerminalType) (s : Stage) → host_allows_records (exchange_at t s).host ≡ true
    → IsExchangeQuiet (exchange_at t s) × (station_allows_records (exchange_at t s).station ≡ true)
host_last t at_66 h = (record { to_station = refl; to_host = refl }, refl)
host_last t s h = cc

-- the same of every exchange
module _ (t : TerminalType) (ms : List Move) where
  abbrev now : Exchange
  now = after_token_moves ms (new_exchange t)

  abbrev stage : Stage
  stage = stage_after ms at_00

  -- every exchange is at a stage
  reached : now ≡ exchange_at t stage
  reached = steps t ms at_00

  pub agrees : IsExchangeQuiet now → TablesAgree now.station now.host
  agrees =
      let P : Exchange → Type 0 = λ e. IsExchangeQuiet e → TablesAgree e.station e.host in
      subst P (sym reached) (quiet_agree t stage)

  pub at_most_twelve : now.count ≤ 12
  at_most_twelve = subst (λ (e : Exchange). e.count ≤ 12) (sym reached) (few t stage)

  pub not_refused : now.refused ≡ false
  not_refused = subst (λ (e : Exchange). e.refused ≡ false) (sym reached) (unrefused t stage)

  settled : after_three_deliveries now ≡ exchange_at t at_66
  settled =
      ap after_three_deliveries reached
      ∙ (ap (λ e. after_delivery (after_delivery e)) (full_delivery t stage)
      ∙ (ap after_delivery (full_delivery t (both_full t stage))
      ∙ (full_delivery t (both_full t (both_full t stage))
      ∙ ap (exchange_at t) (three_full t stage))))

  pub settled_quiet : IsExchangeQuiet (after_three_deliveries now)
  settled_quiet = subst IsExchangeQuiet (sym settled) (record { to_station = refl; to_host = refl })

  pub settled_station : station_allows_records (after_three_deliveries now).station ≡ true
  settled_station = ap (λ (e : Exchange). station_allows_records e.station) settled

  pub settled_host : host_allows_records (after_three_deliveries now).host ≡ true
  settled_host = ap (λ (e : Exchange). host_allows_records e.host) settled

  pub station_then : station_allows_records now.station ≡ true → now.to_station ≡ []
  station_then =
      let P : Exchange → Type 0 = λ e. station_allows_records e.station ≡ true → e.to_station ≡ [] in
      subst P (sym reached) (station_last t stage)

  pub both_then : station_allows_records now.station ≡ true → now.to_host ≡ [] → host_allows_records now.host ≡ true
  both_then =
      let P : Exchange → Type 0 = λ e. station_allows_records e.station ≡ true → e.to_host ≡ []
      → host_allows_records e.host ≡ true in
      subst P (sym reached) (both_last t stage)

  pub host_then : host_allows_records now.host ≡ true → IsExchangeQuiet now × (station_allows_records now.station ≡ true)
  host_then =
      let P : Exchange → Type 0 = λ e. host_allows_records e.host ≡ true → IsExchangeQuiet e
      × (station_allows_records e.station ≡ true) in
      subst P (sym reached) (host_last t stage)
