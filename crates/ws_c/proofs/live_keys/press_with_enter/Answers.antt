use Rattle.std.proofs.Common.{true, false, inl, inr, sym, ◌∙◌, refl, arith}
use Rattle.std.proofs.lemmas.Bool.{false≢true}
use Rattle.ws_c.proofs.live_keys.press_with_enter.Goals as goal

pub returns-then-follows : goal.returns-then-follows
returns-then-follows c = record {
  page = c.typing_page-page.result;
  typed = c.typing_page-page.ensures;
  comes = λ at stands small.
      let led = c.in-Ok.ensures.acted.led at stands (omega (arith, small)) in
      inl (
        sym c.is_followed-follows.ensures ∙ c.if-follows.true,
        (
          c.key.new.self,
          c.in-Ok.sent,
          c.in-Ok.ensures.keyed at stands small,
          led.0,
          led.2,
          c.follow.result,
          c.follow.ensures led.0 led.2 (omega (arith, small, led.4)),
          refl,
        ),
      );
  shut = λ s. absurd (cc (c.in-Ok.ensures.shut s));
  same = tt;
}

pub returns-else-follows : goal.returns-else-follows
returns-else-follows c = record {
  page = c.typing_page-page.result;
  typed = c.typing_page-page.ensures;
  comes = λ at stands small.
      inr (
        λ follows. absurd (false≢true (sym c.if-follows.false ∙ c.is_followed-follows.ensures ∙ follows)),
        c.in-Ok.ensures.keyed at stands small,
      );
  shut = λ s. absurd (cc (c.in-Ok.ensures.shut s));
  same = tt;
}

pub returns-in-Err : goal.returns-in-Err
returns-in-Err c = record {
  page = c.typing_page-page.result;
  typed = c.typing_page-page.ensures;
  comes = λ at stands small. inr (λ follows. (c.in-Err.fault, refl), c.in-Err.ensures.keyed at stands small);
  shut = λ s. c.in-Err.ensures.shut s;
  same = c.in-Err.ensures.same;
}
