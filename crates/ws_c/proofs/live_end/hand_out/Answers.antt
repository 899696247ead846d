use Rattle.std.proofs.Common.{◌≡◌, ℕ, ◌+◌, List, ◌++◌, length, take, drop, sym, ap, ◌∙◌, arith}
use Rattle.std.proofs.lemmas.List.{length-take-le, take-append-drop}
use Rattle.ws_c.specs.LiveEnds.{left_of}
use Rattle.ws_c.specs.declared.told.PushedTold.{PushedTold}
use Rattle.ws_c.proofs.HeldLaws.{all_room}
use Rattle.ws_c.proofs.PieceLaws.{left_more}
use Rattle.ws_c.proofs.live_end.hand_out.Goals as goal

pub returns : goal.returns
returns g c =
    let w = g.E.End.written in
    let old = c.args.held.now in
    let told : PushedTold = c.args.told.now in
    let count : ℕ = c.min-count.result in
    let rest = c.rest-rest.result.now in
    let is : rest ≡ left_of w old = c.rest-rest.ensures.rest in
    let took : length (take count rest) ≡ count = length-take-le count rest (omega (arith, c.min-count.ensures)) in
    let left = ap (λ (l : List ℕ). drop count l) is ∙ left_more w old count in
    let full = all_room rest count _ c.min-count.ensures in
    record {
      out = take count rest;
      whole = sym is ∙ sym (take-append-drop count rest) ∙ ap (λ (l : List ℕ). take count rest ++ l) left;
      sent = ap (λ (n : ℕ). record old { sent = old.sent + n }) (sym took);
      counted = ap (λ (n : ℕ). record told { replied = told.replied + n }) (sym took);
      fits = omega (arith, c.min-count.ensures, c.requires);
      filled = λ some. (let here = full (λ e. some (sym left ∙ e)) in omega (arith, here, c.requires));
      put = λ front before size e. c.put_behind.ensures front before size e;
    }
