use Rattle.std.proofs.Common.{◌-◌, arith}
use Rattle.ws_code.proofs.OneToOne.{latin}
use Rattle.ws_code.proofs.ebcdic.to_char.Goals as goal

pub returns-then-byte-lt255-clause-latin : goal.returns-then-byte-lt255-clause-latin
returns-then-byte-lt255-clause-latin c = latin (c.args.byte - 64) (omega arith)
