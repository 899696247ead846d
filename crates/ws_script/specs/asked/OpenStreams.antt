-- What a command lacks whose standard streams may have been closed when the program began.

use Rattle.std.specs.Prelude.{Bool, Option, None, Some, ◌&&◌, not, if◌then◌else◌}
use Rattle.ws_script.specs.declared.asked.fault.RunFault.{RunFault}
use Rattle.ws_script.specs.declared.asked.fault.RunFault.TheVariants.{Read, Write}
use Rattle.ws_script.specs.declared.asked.open_streams.OpenStreams.{OpenStreams}

-- what a command lacks where standard streams were closed: standard input, where it reads that; or standard output
abbrev pub missing : OpenStreams → Bool → Option RunFault
missing open_ reads_input = if reads_input && not open_.input then Some Read
    else (if open_.output then None else Some Write)
