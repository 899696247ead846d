use Rattle.ws_script.proofs.asked.live_address.is_plain_ipv6.Goals as goal

pub returns-in-Err : goal.returns-in-Err
returns-in-Err c v = c.in-Err.ensures.value v.0 v.1
