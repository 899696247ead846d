use Rattle.std.proofs.Common.{◌∙◌, sym}
use Rattle.ws_extended.proofs.ToldLaws.{as_seen, told_by}
use Rattle.ws_extended.proofs.telling.put_told.Goals as goal

pub returns-then-error_stands : goal.returns-then-error_stands
returns-then-error_stands c = record {
  told = λ state shows. told_by c.args.ask c.args.terminal c.error_row-row.result c.told-left.result
      c.put_of.new.told.items state c.put_of.ensures (c.error_row-row.ensures.value ∙ shows.row_is)
      (c.told-left.ensures.told state shows);
}

pub returns-else-error_stands : goal.returns-else-error_stands
returns-else-error_stands c = record {
  told = λ state shows. told_by c.args.ask c.args.terminal c.error_row-row.result c.screen-screen.result.now
      c.put_of-else-error_stands.new.told.items state c.put_of-else-error_stands.ensures
      (c.error_row-row.ensures.value ∙ shows.row_is)
      (as_seen state c.args.display.now c.screen-screen.result.now shows
      (sym c.error_stands.ensures ∙ c.if-error_stands.false) c.screen-screen.ensures c.known.ensures.legal.size);
}
