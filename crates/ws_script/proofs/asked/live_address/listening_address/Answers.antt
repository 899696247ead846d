use Rattle.std.specs.Prelude.{Some}
use Rattle.ws_script.proofs.AddressTexts.{no_digits, bad_listening}
use Rattle.ws_script.proofs.asked.live_address.listening_address.Goals as goal

pub returns-in_default : goal.returns-in_default
returns-in_default c host port named = c.in_default.ensures host (Some named.0) named.1

pub returns-in_default-digits : goal.returns-in_default-digits
returns-in_default-digits c = no_digits c.args.text.now _ (rw c.in_default-digits.is at c.in-Some.ensures)

pub returns-in_err-port : goal.returns-in_err-port
returns-in_err-port c = rw c.from_residual.ensures (bad_listening c.args.text.now c.in-Some.host.now _
    (rw c.in-Some-digits.is at c.in-Some.ensures) c.in_err-port.ensures)
