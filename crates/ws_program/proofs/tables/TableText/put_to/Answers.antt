use Rattle.ws_program.proofs.tables.TableText.put_to.Goals as goal

pub returns-in-Keys : goal.returns-in-Keys
returns-in-Keys g c = rw c.in-Keys.is c.put_keys.ensures
