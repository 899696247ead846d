-- What a live session comes to that doesn't end early, by the words that asked for it.

use Rattle.std.specs.Prelude.{ℕ, List, Bool, true, false, Option}
use Rattle.std.specs.Borrow.{Bor}
use Rattle.ws_any_host.specs.AnyLines.{any_language}
use Rattle.ws_script.specs.lines.ServeLines.{host_language}
use Rattle.ws_printing.specs.Printouts.{Printout}
use Rattle.ws_network.specs.ManySessions.{HasServedBy}
use Rattle.ws_network.specs.ServedHosts.{any_host, profile_host}
use Rattle.ws_network.specs.Sessions.{HasConnected}
use Rattle.ws_live.specs.declared.session_asked.SessionAsked.{SessionAsked}
use Rattle.ws_live.specs.declared.session_asked.SessionAsked.TheVariants.{Connect, Serve}
use Rattle.ws_live.specs.declared.session_asked.ServeAsked.{ServeAsked}

-- the script that is named for a live session, if one is
abbrev pub script_of : SessionAsked → Option (Bor (List ℕ))
script_of (Connect asked) = asked.script
script_of (Serve asked) = asked.script

module _ {O : Type 0} (out : Printout O) where
  -- what a session of `serve` came to, at a host that takes any record or at one that doesn't
  abbrev pub HasServedAs : Bool → ServeAsked → Bool → Type 0
  HasServedAs false asked all_well = HasServedBy host_language profile_host out asked all_well
  HasServedAs true asked all_well = HasServedBy any_language any_host out asked all_well

  -- what a live session came to that didn't end early, by the words that asked for it
  abbrev pub HasRunLive : SessionAsked → Bool → Type 0
  HasRunLive (Connect asked) all_well = HasConnected out asked all_well
  HasRunLive (Serve asked) all_well = HasServedAs asked.any asked all_well
