-- What a session over two lines comes to.

use Rattle.std.specs.Prelude.{◌≡◌, ℕ, List, [], ◌∷◌, ◌++◌, take}
use Rattle.ws_nego.specs.declared.terminal.TerminalType.{TerminalType}
use Rattle.ws_session.specs.declared.world.Move.{Move}
use Rattle.ws_session.specs.declared.world.Move.TheVariants.{ToStation, ToHost}
use Rattle.ws_session.specs.declared.world.Report.{Report}
use Rattle.ws_session.specs.world.Crossings.{Crossing, AreFaithful, all_sent}
use Rattle.ws_session.specs.world.Reports.{IsReport}
use Rattle.ws_session.specs.world.Session.{Session, new_session, after_move, after_moves, to_station, to_host}

-- what a move delivers to the station of the bytes in flight to it
abbrev pub brought_down : List ℕ → Move → List ℕ
brought_down flight (ToStation count) = take count flight
brought_down flight move = []

-- what a move delivers to the host end of the bytes in flight to it
abbrev pub brought_up : List ℕ → Move → List ℕ
brought_up flight (ToHost count) = take count flight
brought_up flight move = []

-- what the moves of a session deliver to an end, in order, by what one of them does
abbrev pub all_brought : (Session → Move → List ℕ) → Session → List Move → List ℕ
all_brought brought w [] = []
all_brought brought w (move ∷ moves) = brought w move ++ all_brought brought (after_move w move) moves

-- the session of `run`: what is reported, and what has gone into the lines
pub record IsAsRun (terminal : TerminalType) (moves : List Move) (downs ups : List Crossing) (r : Report) : Type 0 where
  pub report : IsReport r (after_moves (new_session terminal) moves)
  pub down : all_sent downs ≡ all_brought (λ w move. brought_down (to_station w) move) (new_session terminal) moves
  pub up : all_sent ups ≡ all_brought (λ w move. brought_up (to_host w) move) (new_session terminal) moves

-- Pieces crossed the lines. Where what came out of both is what went in, the session is that of `run`.
abbrev pub HasRunOver : TerminalType → List Move → (List Crossing → Type 0) → (List Crossing → Type 0) → Report → Type 0
HasRunOver terminal moves CrossedDown CrossedUp r = (downs : List Crossing) × (ups : List Crossing)
    × CrossedDown downs × CrossedUp ups
    × (AreFaithful downs → AreFaithful ups → IsAsRun terminal moves downs ups r)
