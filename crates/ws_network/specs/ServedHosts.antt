-- The hosts of `serve`: one of the profile, and one that takes any record.

use Rattle.std.specs.Prelude.{ℕ, List, [], ◌∷◌}
use Rattle.ws_nego.specs.Host.{opening}
use Rattle.ws_record.specs.Encode.{plain_spelling}
use Rattle.ws_record.specs.RawBody.{raw_rules}
use Rattle.ws_record.specs.declared.record.Item.TheVariants.{Telnet}
use Rattle.ws_stream.specs.Elements.{element_rules}
use Rattle.ws_end.specs.host_end.HostReached.{HostParts, HostReached, unopened_host_end, state_after_open}
use Rattle.ws_script.specs.declared.lines.serve_line.HostLine.{HostLine}
use Rattle.ws_script.specs.declared.lines.serve_line.HostLine.TheVariants as host
use Rattle.ws_live.specs.live.LiveText.{LinesDo}
use Rattle.ws_live.specs.live.ServeText.{HostRunsInTime}
use Rattle.ws_live.specs.declared.live.LiveSession.{LiveSession}
use Rattle.ws_live.specs.declared.live.Telling.{Telling}
use Rattle.ws_any_host.specs.AnyReached.{AnyParts, AnyReached}
use Rattle.ws_any_host.specs.AnyOptions.{new_negotiated, once_opened}
use Rattle.ws_any_host.specs.AnyText.{AnyRunsInTime}
use Rattle.ws_any_host.specs.declared.any_line.AnyLine.{AnyLine}
use Rattle.ws_any_host.specs.declared.any_line.AnyLine.TheVariants as any
use Rattle.ws_network.specs.Times.{ConnectionReads, ConnectionWrites, timed, timed_waits}

-- A host at which lines are carried out: what it is once it gave its opening, the bytes of that, what lines do at it in
-- a session over a connection, and the one that awaits what is next told.
pub record ServedHost (L H : Type 0) : Type 1 where
  pub IsOpened : H → Type 0
  pub opening : List ℕ
  pub runs : Telling → LinesDo L (LiveSession H ConnectionReads ConnectionWrites ℕ)
  pub await_next : L

-- a host end
abbrev pub profile_host : ServedHost HostLine HostParts
profile_host = record {
  IsOpened = λ host. HostReached host [] [] (state_after_open unopened_host_end);
  opening = plain_spelling element_rules (Telnet opening ∷ []);
  runs = HostRunsInTime timed timed_waits;
  await_next = host.Await;
}

-- a host that takes any record
abbrev pub any_host : ServedHost AnyLine AnyParts
any_host = record {
  IsOpened = λ host. AnyReached host [] [] (once_opened new_negotiated);
  opening = plain_spelling raw_rules (Telnet opening ∷ []);
  runs = AnyRunsInTime timed timed_waits;
  await_next = any.Await;
}
