-- What the sessions of `connect` and `serve` come to that don't end early.

use Rattle.std.specs.Prelude.{ℕ, List, [], Bool, true, false, Option, None, MatchOption, ◌≡◌}
use Rattle.std.specs.Borrow.{Bor}
use Rattle.std.specs.Option.{option_map}
use Rattle.ws_code.specs.Device.{WentOut}
use Rattle.ws_identity.specs.Environ.{new_environ}
use Rattle.ws_entry.specs.Following.{on_entry}
use Rattle.ws_end.specs.attached.Attachments.{AttachedParts}
use Rattle.ws_end.specs.station.StationTransitions.{new_state_on}
use Rattle.ws_end.specs.station.StationEndState.{on_profile, profile}
use Rattle.ws_end.specs.station.Stations.{ReachedOn}
use Rattle.ws_script.specs.lines.ConnectLines.{station_language}
use Rattle.ws_live.specs.live.ConnectText.{StationRunsInTime}
use Rattle.ws_printing.specs.Printouts.{IsPrintedOut, Printout}
use Rattle.ws_printing.specs.script.KeyWords.{profile_words}
use Rattle.ws_script.specs.declared.lines.live_line.NumberedLine.{NumberedLine}
use Rattle.ws_script.specs.lines.LiveScript.{AreLiveLines, LineLanguage}
use Rattle.ws_printing.specs.Operating.{operated_profile}
use Rattle.ws_lasting.specs.Footings.{LastingOf, StandsAt}
use Rattle.ws_lasting.specs.Lasting.{new_footing}
use Rattle.ws_live.specs.live.Operating.{LiveStation, entry_station, station_at}
use Rattle.ws_live.specs.live.LiveText.{Account, IsLiveText, WithClosing, account}
use Rattle.ws_script.specs.declared.lines.connect_line.StationLine.{StationLine}
use Rattle.ws_network.specs.SessionPrinting.{AreInput, IsTextAndOn, session_lines}
use Rattle.ws_network.specs.ServedHosts.{ServedHost}
use Rattle.ws_network.specs.Times.{ConnectionReads, ConnectionWrites, no_reads, no_writes, timed, timed_waits}
use Rattle.ws_network.specs.Times.{timed_writer}
use Rattle.ws_live.specs.declared.session_asked.ConnectAsked.{ConnectAsked}
use Rattle.ws_live.specs.declared.session_asked.ServeAsked.{ServeAsked}
use Rattle.ws_live.specs.declared.live.LineSettings.{LineSettings}
use Rattle.ws_live.specs.declared.live.LiveSession.{LiveSession}
use Rattle.ws_live.specs.live.Watches.{begun_session}
use Rattle.ws_end.specs.station.Stations.{StationOf}

-- where a script is named, the lines are those that its file, whatever it holds, means; else those of standard input
abbrev pub AreFromScript : {L : Type 0} → LineLanguage L → Bool → Option (Bor (List ℕ)) → List (NumberedLine L) → Type 0
AreFromScript language ready script lines = MatchOption script (AreInput language ready lines)
    (λ path. (file : List ℕ) × AreLiveLines language file lines)

-- an end at a connection that has failed in nothing yet, and of which nothing is read
abbrev pub at_connection : {E : Type 0} → E → ConnectionWrites → AttachedParts E ConnectionReads ConnectionWrites
at_connection end written = record { end = end; source = no_reads; sink = written; waiting = []; broken = false }

module _ (at : LiveStation) where
  -- This station, new at a connection, carried out the lines, of which this is the account.
  pub record IsConnected (station : at.Station) (settings : LineSettings)
      (lines : List (NumberedLine (StationLine at.Pressed))) (came : Account) : Type 0 where
    pub to : LiveSession at.Station ConnectionReads ConnectionWrites ℕ
    pub is_over : Bool
    pub ran : IsLiveText settings.after (WithClosing (StationRunsInTime at timed timed_waits) settings)
        (begun_session (at_connection station no_writes) 0) lines is_over came to

-- such a host whose opening went out carried out the lines, and then awaited what came
pub record IsServed {L H : Type 0} (at : ServedHost L H) (asked : ServeAsked) (lines : List (NumberedLine L))
    (came : Account) : Type 0 where
  pub host : H
  pub opened : at.IsOpened host
  pub sink : ConnectionWrites
  pub told : WentOut timed_writer no_writes sink at.opening
  pub to : LiveSession H ConnectionReads ConnectionWrites ℕ
  pub ran : IsTextAndOn (session_lines at.runs asked.settings (begun_session (at_connection host sink) 0) lines to)
      at.await_next came

module _ {O : Type 0} (out : Printout O) where
  -- the lines of `connect` were carried out at this station, and what they printed went out
  abbrev pub HasConnectedOn : (at : LiveStation) → at.Station → ConnectAsked → Bool → Type 0
  HasConnectedOn at station asked all_well = (lines : List (NumberedLine (StationLine at.Pressed))) × (text : List ℕ)
      × AreFromScript (station_language at.words) asked.settings.ready asked.script lines
      × IsConnected at station asked.settings lines (account all_well text)
      × IsPrintedOut out text

  -- What a session of `connect` came to, by a new station of the terminal that is asked for: one of the profile; or one
  -- that also takes what live hosts send in addition to it, goes on after a record that it refuses, acts on format words,
  -- and has the identity that is asked for, if one is.
  abbrev pub HasConnectedAs : Bool → ConnectAsked → Bool → Type 0
  HasConnectedAs false asked all_well = (station : StationOf on_profile)
      × ReachedOn on_profile station [] [] (new_state_on profile asked.terminal)
      × HasConnectedOn (station_at on_profile operated_profile profile_words) station asked all_well
  HasConnectedAs true asked all_well = (station : LastingOf on_entry)
      × StandsAt on_entry station
      (new_footing (new_state_on on_entry.does asked.terminal) (option_map new_environ asked.identity))
      × (station.counts ≡ record { carried_out = 0; refused = 0; last = None }) × (station.taken ≡ 0)
      × HasConnectedOn entry_station station asked all_well

  -- what a session of `connect` came to, by the station that was asked for
  abbrev pub HasConnected : ConnectAsked → Bool → Type 0
  HasConnected asked all_well = HasConnectedAs asked.extended asked all_well
