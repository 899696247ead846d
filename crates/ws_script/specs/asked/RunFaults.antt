-- The faults of a command as those of the program.

use Rattle.ws_code.specs.declared.fault.Fault.{Fault}
use Rattle.ws_code.specs.declared.fault.Fault.TheVariants as device
use Rattle.ws_script.specs.declared.asked.fault.RunFault.{RunFault}
use Rattle.ws_script.specs.declared.asked.fault.RunFault.TheVariants.{Read, Line, Memory}
use Rattle.ws_script.specs.declared.asked.fault.RunFault.TheVariants.{Write, Refused}
use Rattle.ws_script.specs.declared.asked.fault.RunFault.TheVariants.{Truncated, Failed}
use Rattle.ws_script.specs.declared.asked.fault.ToldFault.{ToldFault}
use Rattle.ws_script.specs.declared.asked.fault.ToldFault.TheVariants.{Run}
use Rattle.ws_script.specs.declared.asked.fault.Unconnected.{Unconnected}
use Rattle.ws_script.specs.declared.asked.fault.Unconnected.TheVariants as why
use Rattle.std_io.specs.declared.io.kind.ErrorKind.{ErrorKind}
use Rattle.std_io.specs.declared.io.kind.ErrorKind.TheVariants as kind
use Rattle.ws_printing.specs.declared.script.ScriptFault.{ScriptFault}
use Rattle.ws_printing.specs.declared.script.ScriptFault.TheVariants as scripts
use Rattle.ws_text.specs.declared.items.TextFault.{TextFault as ItemsFault}
use Rattle.ws_text.specs.declared.items.TextFault.TheVariants as items

-- a fault of a command, and of hex text, as the program's own
abbrev pub run_fault : Fault → RunFault
run_fault (device.Refused place reason) = Refused place reason
run_fault (device.Truncated at) = Truncated at
run_fault device.Memory = Memory
run_fault device.Read = Read
run_fault device.Write = Write
run_fault device.Failed = Failed

-- the same where causes are told
abbrev pub told_fault : Fault → ToldFault
told_fault fault = Run (run_fault fault)

-- why there is no connection, by the kind of the error of a call that opens one
abbrev pub unconnected_by : ErrorKind → Unconnected
unconnected_by kind.ConnectionRefused = why.Refused
unconnected_by kind.AddrInUse = why.AddressInUse
unconnected_by kind.AddrNotAvailable = why.OtherAddress
unconnected_by kind.TimedOut = why.Late
unconnected_by kind.WouldBlock = why.Late
unconnected_by kind.HostUnreachable = why.Unreachable
unconnected_by kind.NetworkUnreachable = why.Unreachable
unconnected_by kind.NetworkDown = why.Unreachable
unconnected_by kind.PermissionDenied = why.NotAllowed
unconnected_by kind.ConnectionReset = why.Reset
unconnected_by kind.ConnectionAborted = why.Reset
unconnected_by any = why.Failed

-- why an input can't be read, by the kind of the error
abbrev pub fault_of_reading : ErrorKind → RunFault
fault_of_reading kind.OutOfMemory = Memory
fault_of_reading any = Read

-- a fault of a script as the program's own
abbrev pub script_run_fault : ScriptFault → RunFault
script_run_fault (scripts.Line number) = Line number
script_run_fault scripts.Memory = Memory

-- a fault of items as text as the program's own
abbrev pub items_run_fault : ItemsFault → RunFault
items_run_fault (items.Line number) = Line number
items_run_fault items.Memory = Memory
