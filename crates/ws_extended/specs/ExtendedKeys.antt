-- Which keys wait for Reset where an error stands (SC30-3533, operator errors).
use Rattle.std.specs.Prelude.{Bool, false, true}
use Rattle.ws_keys.specs.declared.key.Key.{Key}
use Rattle.ws_keys.specs.declared.key.Key.TheVariants.{Attention, SystemRequest}

-- the key is refused while an error stands: all are but Attention and System Request
abbrev pub waits_for_reset : Key → Bool
waits_for_reset Attention = false
waits_for_reset SystemRequest = false
waits_for_reset key = true
