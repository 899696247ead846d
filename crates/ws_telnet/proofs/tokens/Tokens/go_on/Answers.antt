use Rattle.std.proofs.Common.{refl, arith}
use Rattle.ws_telnet.proofs.Unfinished.{sub_option}
use Rattle.ws_telnet.proofs.tokens.Tokens.go_on.Goals as goal

pub returns-in-SubOption : goal.returns-in-SubOption
returns-in-SubOption c = rw (c.in-SubOption.is, c.take_option.ensures) (refl, sub_option c.args.byte (omega arith))
