use Rattle.ws_lasting.proofs.Common as C
use C.{ℕ, List, [], Option, sym, subst₂, take, arith, on_ok_weaker, bytes_on, left_of, all_came, as_list, on_display}
use C.{LeadsOnFrom, RecordEvent, leads_none}
use Rattle.ws_lasting.proofs.Feeding.{front_silent, quiet_at, quiet_on, taken_after}
use Rattle.ws_lasting.proofs.Placing.{placed_after, placed_none}
use Rattle.ws_lasting.proofs.lasting.LastingStation.take.Goals as goal

pub loop-used-init : goal.loop-used-init
loop-used-init g c = (
  omega arith,
  omega arith,
  placed_none c.args.self.now,
  λ at st. leads_none (on_display g.D.Commands.Code.rules g.D.StationDisplay.does) c.args.self.now at st,
)

pub loop-used-preserved-else-not-is_silent : goal.loop-used-preserved-else-not-is_silent
loop-used-preserved-else-not-is_silent g c = front_silent (on_display g.D.Commands.Code.rules g.D.StationDisplay.does)
    c.args.self.now c.loop-used.self c.take_front-front.new.self c.args.piece.now c.loop-used.used
    c.take_front-front.result c.take_front-front.ensures (c.is_silent.ensures.silent c.if-not-is_silent.false)
    c.loop-used.invariant

pub loop-used-preserved-else-not-is_silent-2 : goal.loop-used-preserved-else-not-is_silent-2
loop-used-preserved-else-not-is_silent-2 g c = front_silent (on_display g.D.Commands.Code.rules g.D.StationDisplay.does)
    c.args.self.now c.loop-used.self c.take_front-front.new.self c.args.piece.now c.loop-used.used
    c.take_front-front.result c.take_front-front.ensures (c.is_silent.ensures.silent c.if-not-is_silent.false)
    c.loop-used.invariant

pub returns-then-not-is_silent-clause-taken : goal.returns-then-not-is_silent-clause-taken
returns-then-not-is_silent-clause-taken g c = λ at st. (
    let on = on_display g.D.Commands.Code.rules g.D.StationDisplay.does in
    let now = c.loop-used in
    let f = c.take_front-front in
    let piece = c.args.piece.now in
    let l = now.invariant.3 at st in
    rw (bytes_on [] piece now.used f.result.used) at (taken_after on c.args.self.now now.self f.new.self at
    (take now.used piece) l (take f.result.used (left_of piece now.used)) f.result.step (f.ensures.taken l.0 l.2)))

pub returns-then-not-is_silent-clause-first : goal.returns-then-not-is_silent-clause-first
returns-then-not-is_silent-clause-first g c = λ at st n lt. (
    let l = c.loop-used.invariant.3 at st in
    quiet_on (on_display g.D.Commands.Code.rules g.D.StationDisplay.does) c.args.self.now c.loop-used.self at
    c.args.piece.now c.loop-used.used l c.take_front-front.result.used
    (c.take_front-front.ensures.first l.0 l.2) n lt)

pub returns-clause-taken : goal.returns-clause-taken
returns-clause-taken g c = λ at st.
    let on = on_display g.D.Commands.Code.rules g.D.StationDisplay.does in
    subst₂ (λ (z : List ℕ) (o : Option RecordEvent). LeadsOnFrom on c.args.self.now c.loop-used.self at
    (all_came (take c.loop-used.used c.args.piece.now)) z (as_list o))
    (sym (c.silence.ensures.written c.loop-used.self)) (sym c.silence.ensures.told)
    (c.loop-used.invariant.3 at st)

pub returns-clause-first : goal.returns-clause-first
returns-clause-first g c = λ at st n lt.
    quiet_at (on_display g.D.Commands.Code.rules g.D.StationDisplay.does) c.args.self.now c.loop-used.self at
    c.args.piece.now c.loop-used.used (c.loop-used.invariant.3 at st) n (omega (arith, lt))

pub returns-then-not-is_silent-clause-placed : goal.returns-then-not-is_silent-clause-placed
returns-then-not-is_silent-clause-placed g c =
    let f = c.take_front-front in
    placed_after c.args.self.now c.loop-used.self f.new.self f.result.step (omega (arith, c.loop-used.invariant.1))
    (on_ok_weaker f.result.step (λ n. omega (arith, n)) f.ensures.counted) c.loop-used.invariant.2 f.ensures.placed

pub returns-clause-placed : goal.returns-clause-placed
returns-clause-placed g c = rw c.silence.ensures.told c.loop-used.invariant.2
