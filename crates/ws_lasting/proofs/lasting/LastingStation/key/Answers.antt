use Rattle.ws_lasting.proofs.Keying.{key_acts, key_pressed}
use Rattle.ws_lasting.proofs.lasting.LastingStation.key.Goals as goal

pub returns-clause-keyed : goal.returns-clause-keyed
returns-clause-keyed g c = λ at st few.
    key_pressed g.D.Commands.Code.rules g.D.StationDisplay.does g.met.D.Commands.Code.prefix_free
    g.met.D.Commands.Code.begins c.args.self.now c.press.new.self at c.args.key c.press.ensures.same c.press.result st
    few c.press.ensures.keyed

pub returns-clause-acted : goal.returns-clause-acted
returns-clause-acted g c =
    key_acts g.D.Commands.Code.rules g.D.StationDisplay.does g.met.D.StationDisplay.spells c.args.self.now
    c.press.new.self c.args.key c.press.ensures.same c.press.result
    (λ shut. (let yes = c.is_shut.ensures.1 shut in let no = c.if-is_shut.false in cc)) (λ at st few.
    key_pressed g.D.Commands.Code.rules g.D.StationDisplay.does g.met.D.Commands.Code.prefix_free
    g.met.D.Commands.Code.begins c.args.self.now c.press.new.self at c.args.key c.press.ensures.same c.press.result st
    few c.press.ensures.keyed)
