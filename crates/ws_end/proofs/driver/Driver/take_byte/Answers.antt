use Rattle.ws_end.proofs.driver.Driver.take_byte.Goals as goal

pub returns : goal.returns
returns g c = (c.feed.result.used, c.feed.ensures)
