-- A recording of a connection: a line `MILLISECONDS host|station HEX` for each piece that crossed it.

use Rattle.std.specs.Prelude.{◌≡◌, ℕ, List, ◌++◌, Option, None, Some, codes, string_bytes}
use Rattle.std.specs.Borrow.{Bor}
use Rattle.std.specs.Fmt.{decimal}
use Rattle.std.specs.Net.Text.{socket_text}
use Rattle.std.specs.declared.net.socket_addr.SocketAddr.{SocketAddr}
use Rattle.hex.specs.Hex.{encode_upper}
use Rattle.ws_network.specs.declared.recording.PieceSender.{PieceSender}
use Rattle.ws_network.specs.declared.recording.PieceSender.TheVariants.{Host, Station}
use Rattle.ws_script.specs.declared.asked.fault.RunFault.TheVariants as run
use Rattle.ws_script.specs.declared.asked.fault.Unconnected.TheVariants.{Reset}
use Rattle.ws_script.specs.declared.asked.fault.ToldFault.{ToldFault}
use Rattle.ws_script.specs.declared.asked.fault.ToldFault.TheVariants.{Connection, NoConnection, Recording, Run}

-- who sent a piece
abbrev pub sender_word : PieceSender → List ℕ
sender_word Host = codes " host "
sender_word Station = codes " station "

-- the line of a piece: so many milliseconds after the connection's beginning, by whom, and its bytes
abbrev pub piece_line : ℕ → PieceSender → List ℕ → List ℕ
piece_line milliseconds sender bytes =
    decimal milliseconds ++ sender_word sender ++ encode_upper bytes ++ codes "\n"

-- that the file of a recording can't be written is told with its name, or by itself; without a file nothing is told
abbrev pub IsUnrecorded : Option (Bor (List ℕ)) → ToldFault → Type 0
IsUnrecorded None told = ⊥
IsUnrecorded (Some name) (Recording told) = string_bytes told ≡ name.now
IsUnrecorded (Some name) told = told ≡ Run run.Write

-- that the other side has reset the connection is told with its address, or by itself
abbrev pub IsResetTold : ToldFault → Type 0
IsResetTold (Connection text) = (peer : SocketAddr) × (string_bytes text ≡ codes "connection reset by " ++ socket_text peer)
IsResetTold told = told ≡ NoConnection Reset
