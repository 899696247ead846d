use Rattle.ws_c.proofs.host_send.send_record.Goals as goal

pub returns-in-Ok : goal.returns-in-Ok
returns-in-Ok c = rw c.of.ensures (record {
  sent = λ bytes items side led few. c.in-Ok.ensures.sent bytes items side led few;
  same = tt;
  full = λ e. (let f : _ = c.in-Ok.ensures.full e in cc);
  failed = λ e. (let f : _ = c.in-Ok.ensures.failed e in cc);
})

pub returns-in-Err : goal.returns-in-Err
returns-in-Err c = record {
  sent = λ bytes items side led few. c.in-Err.ensures.sent bytes items side led few;
  same = c.in-Err.ensures.same;
  full = λ e. (let f : _ = c.in-Err.ensures.full e in cc);
  failed = λ e. (let f : _ = c.in-Err.ensures.failed e in cc);
}
