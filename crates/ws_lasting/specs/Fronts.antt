-- What comes of a front of a piece, and of a token that is refused

use Rattle.std.specs.Prelude.{◌≡◌, ◌≢◌, ℕ, ◌+◌, ◌<◌, ◌≤◌, List, Err, IsSome, OnErr, OnOk, drop, length, take}
use Rattle.ws_code.specs.declared.code.Push.{Push}
use Rattle.ws_code.specs.declared.code.Push.TheVariants.{Unit as Whole}
use Rattle.ws_code.specs.declared.reason.Reason.{Reason}
use Rattle.ws_telnet.specs.declared.token.Token.{Token}
use Rattle.ws_telnet.specs.declared.token.Token.TheVariants.{Data, Eor}
use Rattle.ws_record.specs.OpenPrefix.{BeginsList}
use Rattle.ws_record.specs.OpenRecord.{CanBeFramed}
use Rattle.ws_end.specs.declared.end_step.EndFed.{EndFed}
use Rattle.ws_end.specs.declared.refusal.Refusal.TheVariants.{Failed}
use Rattle.ws_end.specs.station.Displays.{OnDisplay}
use Rattle.ws_lasting.specs.Behaviour.{AreQuiet, AreTakenSo}
use Rattle.ws_lasting.specs.Footings.{AtLasting, IsRefusalPlacedSo, LastingOf}
use Rattle.ws_lasting.specs.Lasting.{FootingOn, IsTokenRefused}
use Rattle.ws_lasting.specs.declared.lasting_reply.LastingReply.{LastingReply}
use Rattle.ws_lasting.specs.declared.record_event.RecordEvent.{RecordEvent}

module _ (on : OnDisplay) where
  -- Bytes of the piece are taken, and nothing is written or told before the last of them.
  pub record IsFrontTaken (old : LastingOf on) (piece : List ℕ) (new : LastingOf on)
      (fed : EndFed RecordEvent (LastingReply on.Replied)) : Type 0 where
    pub within : fed.used ≤ length piece
    pub some : fed.step ≢ Err Failed → 0 < fed.used
    pub taken : AtLasting on old (λ at. AreTakenSo on old new at (take fed.used piece) fed.step)
    pub first : AtLasting on old (λ at. (n : ℕ) → n < fed.used → AreQuiet on at (take n piece))
    pub placed : IsRefusalPlacedSo old old.taken new fed.step
    pub counted : OnOk fed.step (new.taken ≡ old.taken + fed.used)
    pub after : OnErr fed.step (IsSome new.ended)

  -- the token is refused there: at its end, or after bytes with which a record may begin
  abbrev pub IsWordRefused : FootingOn on → Push Token → Reason → Type 0
  IsWordRefused at (Whole (Data b)) reason = CanBeFramed at.so_far × BeginsList on.rules (drop 10 at.so_far)
      × IsTokenRefused on at.state at.so_far (Data b) reason
  IsWordRefused at (Whole Eor) reason = IsTokenRefused on at.state at.so_far Eor reason
  IsWordRefused at other reason = ⊥
