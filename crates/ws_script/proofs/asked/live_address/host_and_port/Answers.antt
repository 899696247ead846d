use Rattle.ws_script.proofs.AddressTexts.{bad_port}
use Rattle.ws_script.proofs.asked.live_address.host_and_port.Goals as goal

pub returns-in_default : goal.returns-in_default
returns-in_default c host port named = c.in_default.ensures host named.0 named.1

pub returns-in_err-port-in-Some-digits : goal.returns-in_err-port-in-Some-digits
returns-in_err-port-in-Some-digits c = rw c.from_residual.ensures (bad_port c.args.text.now c.in-Some.host.now _
    (rw c.in-Some-digits.is at c.in-Some.ensures) c.in_err-port-in-Some-digits.ensures)
