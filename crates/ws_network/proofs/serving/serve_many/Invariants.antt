use Rattle.std.proofs.Common.{◌≡◌, ℕ, List, [], ◌++◌}
use Rattle.std.specs.declared.net.socket_addr.SocketAddr.{SocketAddr}
use Rattle.ws_code.specs.Device.{WentOut}
use Rattle.ws_live.specs.live.LiveText.{account}
use Rattle.ws_network.specs.Listening.{listening_line}
use Rattle.ws_network.specs.ManySessions.{AreMany}
use Rattle.ws_network.specs.Sessions.{IsServed}
use Rattle.ws_network.proofs.serving.serve_many.Given as goal

-- the sessions so far, after the line that tells the address
abbrev pub invariant-loop-number : goal.invariant-loop-number
invariant-loop-number g l = (address : SocketAddr) × (text : List ℕ)
    × AreMany (IsServed g.L.HostedLine.served l.asked l.script) l.number (account l.all_well text)
    × WentOut g.O.Sink.writer l.fn.out.sink l.out.sink (listening_line address ++ text) × (l.out.held ≡ [])
