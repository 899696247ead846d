use Rattle.std.proofs.Common.{refl}
use Rattle.hex.specs.Hex.{encode_with}
use Rattle.ws_text.proofs.lined.front.Goals as goal

pub returns-in-Reply : goal.returns-in-Reply
unfolding encode_with
returns-in-Reply c = rw c.in-Reply.is refl
