-- The faults of a session over a connection.

use Rattle.ws_code.specs.declared.fault.Fault.{Fault}
use Rattle.ws_code.specs.declared.fault.Fault.TheVariants as device
use Rattle.ws_script.specs.declared.asked.fault.RunFault.{RunFault}
use Rattle.ws_script.specs.declared.asked.fault.RunFault.TheVariants.{Read, Memory, Write, NoConnection}
use Rattle.ws_network.specs.declared.tcp.TcpFault.{TcpFault}
use Rattle.ws_network.specs.declared.tcp.TcpFault.TheVariants as tcp

-- a fault of a session over a connection, and as the program's own
abbrev pub tcp_fault : Fault → TcpFault
tcp_fault device.Memory = tcp.Memory
tcp_fault device.Write = tcp.Write
tcp_fault other = tcp.Read

-- a fault of a session over a connection as the program's own
abbrev pub tcp_run_fault : TcpFault → RunFault
tcp_run_fault tcp.NoConnection = NoConnection
tcp_run_fault tcp.Write = Write
tcp_run_fault tcp.Read = Read
tcp_run_fault tcp.Memory = Memory
