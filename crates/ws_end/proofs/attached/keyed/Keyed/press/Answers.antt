use Rattle.ws_end.proofs.Common.{rules, [], err_from_is_err_and}
use Rattle.ws_end.proofs.Common.{went_out_none, answer_spelling}
use Rattle.ws_end.proofs.attached.keyed.Keyed.press.Goals as goal

pub returns-in_err-write_answer-in-Ok-Some : goal.returns-in_err-write_answer-in-Ok-Some
returns-in_err-write_answer-in-Ok-Some g c =
    let p = err_from_is_err_and c.from_residual.result c.from_residual.ensures.1 in
    let failed = c.in_err-write_answer-in-Ok-Some.ensures.err in
    rw (p.1, p.2) (record {
      pressed = tt;
      refused = tt;
      reported = tt;
      taken = tt;
      fault = (
        failed.0,
        record {
          written = answer_spelling c.in-Ok-Some.answer;
          events = [];
          led = rw c.in-Ok-Some.field-0-is at c.in-Ok-Some.ensures.done;
          failed = failed.1;
        },
      );
    })

pub returns-in-Ok-None : goal.returns-in-Ok-None
returns-in-Ok-None g c = record {
  pressed = record {
    written = [];
    led = rw c.in-Ok-None.field-0-is at c.in-Ok-None.ensures.done;
    wrote = went_out_none g.K.Sink.writer c.args.sink.now;
  };
  refused = tt;
  reported = tt;
  taken = c.in-Ok-None.ensures.taken;
  fault = tt;
}

pub returns-in_ok-write_answer-in-Ok-Some : goal.returns-in_ok-write_answer-in-Ok-Some
returns-in_ok-write_answer-in-Ok-Some g c = record {
  pressed = record {
    written = answer_spelling c.in-Ok-Some.answer;
    led = rw c.in-Ok-Some.field-0-is at c.in-Ok-Some.ensures.done;
    wrote = c.in_ok-write_answer-in-Ok-Some.ensures.ok;
  };
  refused = tt;
  reported = tt;
  taken = c.in-Ok-Some.ensures.taken;
  fault = tt;
}

pub returns-in-Err : goal.returns-in-Err
returns-in-Err g c = record {
  pressed = record {
    written = [];
    led = c.in-Err.ensures.refused.1;
    wrote = went_out_none g.K.Sink.writer c.args.sink.now;
  };
  refused = search rules;
  reported = c.in-Err.ensures.refused.0;
  taken = tt;
  fault = tt;
}
