use Rattle.ws_lasting.proofs.Common as C
use C.{ℕ, List, [], None, Option, ap, sym, subst, subst₂, arith, take, take_all, length, all_came, as_list, on_display}
use C.{LeadsOnFrom, AtLasting, LastingParts, RecordEvent}
use Rattle.ws_lasting.proofs.Feeding.{quiet_front}
use Rattle.ws_lasting.proofs.Placing.{placed_before}
use Rattle.ws_lasting.proofs.Runs.{run_bytes, run_passed}
use Rattle.ws_lasting.proofs.lasting.LastingStation.pass_run.Goals as goal

pub returns : goal.returns
returns g c =
    let on = on_display g.D.Commands.Code.rules g.D.StationDisplay.does in
    let old = c.args.self.now in
    let new = c.count.new.self in
    let run = c.args.run.now in
    let whole = take_all (length run) run (omega arith) in
    let are = run_bytes run (λ i. omega (arith, c.type_inv.run i)) in
    let passed : AtLasting on old (λ at. LeadsOnFrom on old new at (all_came run) [] []) =
    λ at st. run_passed g.D.Commands.Code.rules g.D.StationDisplay.does old new at run are c.requires.plain
    c.requires.between c.count.ensures c.requires.passes st in
    record {
      within = omega arith;
      some = λ ne. c.requires.some;
      taken = λ at st. subst₂ (λ (z : List ℕ) (o : Option RecordEvent). LeadsOnFrom on old new at
          (all_came (take (length run) run)) z (as_list o)) (sym (c.silence.ensures.written new))
          (sym c.silence.ensures.told) (subst (λ x. LeadsOnFrom on old new at (all_came x) [] []) (sym whole)
          (passed at st));
      first = λ at st n lt. (let l = passed at st in quiet_front on run at l.0 n l.1);
      placed = rw c.silence.ensures.told (placed_before old new old.taken None c.requires.passes
          (λ some. ap (λ (z : LastingParts _ _). z.passing_from) c.count.ensures)
          (λ untold. ap (λ (z : LastingParts _ _). z.passing) c.count.ensures)
          (ap (λ (z : LastingParts _ _). z.refused_at) c.count.ensures));
      counted = ap (λ (z : LastingParts _ _). z.taken) c.count.ensures;
      after = tt;
    }
