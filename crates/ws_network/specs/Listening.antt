-- Listening at an address.

use Rattle.std.specs.Prelude.{List, ℕ, ◌++◌, codes}
use Rattle.std.specs.Net.Text.{socket_text}
use Rattle.std.specs.declared.net.socket_addr.SocketAddr.{SocketAddr}
use Rattle.std_io.specs.declared.io.kind.ErrorKind.{ErrorKind}
use Rattle.std_io.specs.declared.io.kind.ErrorKind.TheVariants.{Uncategorized}
use Rattle.ws_script.specs.asked.RunFaults.{unconnected_by}
use Rattle.ws_script.specs.declared.asked.fault.Unconnected.{Unconnected}
use Rattle.ws_script.specs.declared.asked.fault.Unconnected.TheVariants.{UnknownName}

-- the line that tells the address at which stations are taken
abbrev pub listening_line : SocketAddr → List ℕ
listening_line address = codes "listening " ++ socket_text address ++ codes "\n"

-- why nothing listens at an address, by the kind of the error: a name that has no address has an error of no kind
abbrev pub unbound_by : ErrorKind → Unconnected
unbound_by Uncategorized = UnknownName
unbound_by kind = unconnected_by kind
