use Rattle.ws_c.proofs.live_keys.press_alone.Goals as goal

pub returns : goal.returns
returns c = record {
  page = c.typing_page-page.result;
  typed = c.typing_page-page.ensures;
  comes = λ at stands small. c.key.ensures.keyed at stands small;
  shut = λ s. c.key.ensures.shut s;
  same = c.key.ensures.same;
}
