use Rattle.ws_lasting.proofs.Common.{◌≡◌, refl, sym, subst, arith, take_more, on_display, IsFrontTaken}
use Rattle.ws_lasting.proofs.Feeding.{front_so, taken_alone}
use Rattle.ws_lasting.proofs.lasting.LastingStation.take_front.Goals as goal

pub returns-then-is_some : goal.returns-then-is_some
returns-then-is_some g c = front_so (on_display g.D.Commands.Code.rules g.D.StationDisplay.does) c.args.self.now
    c.pass_run.new.self c.args.piece.now c.run_length-count.result c.pass_run.result c.pass_run.ensures

pub returns-then-count-gt0 : goal.returns-then-count-gt0
returns-then-count-gt0 g c = front_so (on_display g.D.Commands.Code.rules g.D.StationDisplay.does) c.args.self.now
    c.read_run.new.self c.args.piece.now c.run_length-count.result c.read_run.result c.read_run.ensures

pub returns-then-ends_here : goal.returns-then-ends_here
returns-then-ends_here g c =
    let on = on_display g.D.Commands.Code.rules g.D.StationDisplay.does in
    front_so on c.args.self.now c.read_end.new.self c.args.piece.now 2 c.read_end.result
    (subst (λ x. IsFrontTaken on c.args.self.now x c.read_end.new.self c.read_end.result)
    (sym (c.ends_here.ensures.end c.if-ends_here.true)) c.read_end.ensures)

pub returns : goal.returns
returns g c =
    let on = on_display g.D.Commands.Code.rules g.D.StationDisplay.does in
    let piece = c.args.piece.now in
    record {
      within = (let some = c.requires.some in omega (arith, some));
      some = λ ne. omega arith;
      taken = λ at st. rw (take_more piece 0 0 c.requires.some) (taken_alone on c.args.self.now c.take_byte.new.self at
          _ c.take_byte.result (c.take_byte.ensures.taken at st (omega (arith, c.requires.some, c.requires.fits)))
          c.take_byte.ensures.counted c.take_byte.ensures.left st);
      first = λ at st n lt. (let zero : n ≡ 0 = omega (arith, lt) in rw zero (at, (refl, refl, refl)));
      placed = c.take_byte.ensures.placed;
      counted = c.take_byte.ensures.counted;
      after = c.take_byte.ensures.after;
    }
