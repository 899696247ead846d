use Rattle.ws_session.proofs.Common.{◌≡◌, List, take, Crossing, AreFaithful, HaveCrossed, Runs, all_sent, new_session}
use Rattle.ws_session.proofs.Common.{after_moves}
use Rattle.ws_code.specs.Device.{on_devices}
use Rattle.ws_session.specs.world.Carried.{all_brought, brought_down, brought_up}
use Rattle.ws_session.specs.world.Session.{to_station, to_host}
use Rattle.ws_session.proofs.world.World.run_carried.Given as goal

-- these pieces have crossed, and where they are faithful the moves so far have led here and delivered them
abbrev pub invariant-loop-step : goal.invariant-loop-step
invariant-loop-step g l =
    let start = new_session l.fn.terminal in
    let moves = take l.step-index l.moves in
    record {
      downs : List Crossing;
      ups : List Crossing;
      went_down : HaveCrossed (on_devices g.S.Sink.writer g.R.Source.reader) l.fn.down downs l.down;
      went_up : HaveCrossed (on_devices g.T.Sink.writer g.Q.Source.reader) l.fn.up ups l.up;
      runs : AreFaithful downs → AreFaithful ups → Runs l.fn.terminal l.world (after_moves start moves)
          × (all_sent downs ≡ all_brought (λ w move. brought_down (to_station w) move) start moves)
          × (all_sent ups ≡ all_brought (λ w move. brought_up (to_host w) move) start moves);
    }
