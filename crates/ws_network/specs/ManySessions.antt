-- What the sessions of `serve` come to, one or more at a listener.

use Rattle.std.specs.Prelude.{◌≡◌, ℕ, zero, suc, ◌+◌, List, [], ◌++◌, Bool, true, ◌&&◌, ◌==◌, Option, Some, codes}
use Rattle.std.specs.Prelude.{if◌then◌else◌}
use Rattle.std.specs.Borrow.{Bor}
use Rattle.std.specs.Fmt.{decimal}
use Rattle.std.specs.declared.net.socket_addr.SocketAddr.{SocketAddr}
use Rattle.ws_script.specs.declared.lines.live_line.NumberedLine.{NumberedLine}
use Rattle.ws_script.specs.lines.LiveScript.{LineLanguage}
use Rattle.ws_live.specs.live.LiveText.{Account, account}
use Rattle.ws_printing.specs.Printouts.{IsPrintedOut, Printout}
use Rattle.ws_network.specs.Listening.{listening_line}
use Rattle.ws_network.specs.ServedHosts.{ServedHost}
use Rattle.ws_network.specs.Sessions.{AreFromScript, IsServed}
use Rattle.ws_live.specs.declared.session_asked.ServeAsked.{ServeAsked}

-- the line before a session after so many: the first has none
abbrev pub session_line : ℕ → List ℕ
session_line before = if before == 0 then [] else codes "session " ++ decimal (before + 1) ++ codes "\n"

-- Sessions of which each has such an account.
module _ (IsSession : Account → Type 0) where
  -- So many sessions one after another, each as it is from new, and the account of them, with the lines between them.
  abbrev pub AreMany : ℕ → Account → Type 0
  AreMany zero came = (came.all_well ≡ true) × (came.text ≡ [])
  AreMany (suc before) came = (so_far : Account) × (last : Account) × AreMany before so_far × IsSession last
      × (came.all_well ≡ so_far.all_well && last.all_well)
      × (came.text ≡ so_far.text ++ (session_line before ++ last.text))

  -- as many sessions as are asked for, and one where no number is, or no script: standard input can't be read twice
  abbrev pub AreSessions : Option (Bor (List ℕ)) → Option ℕ → Account → Type 0
  AreSessions (Some path) (Some sessions) came = AreMany sessions came
  AreSessions script sessions came = IsSession came

-- what the sessions of `serve` at such a host came to, after the line that tells the address at which it listens
abbrev pub HasServedBy : {L H O : Type 0} → LineLanguage L → ServedHost L H → Printout O → ServeAsked → Bool → Type 0
HasServedBy {L = L} language host out asked all_well = (lines : List (NumberedLine L))
    × (address : SocketAddr) × (text : List ℕ) × AreFromScript language asked.settings.ready asked.script lines
    × AreSessions (IsServed host asked lines) asked.script asked.sessions (account all_well text)
    × IsPrintedOut out (listening_line address ++ text)
