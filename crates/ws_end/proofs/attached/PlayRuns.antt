-- What the reads of a run make of its player.

use Rattle.ws_end.proofs.Common as C
use C.{IfOk, IfErr, ◌≡◌, ◌+◌, ◌≤◌, List, [], ◌++◌, refl, ◌∙◌, ℕ, ◌<◌, Some, None, drop, ap, arith, ◌^◌, inl, inr}
use C.{length, length-append, ◌≢◌, Err, Ok, Result, ◌*◌, Writer, Reader, FailedWithin, Gave, most_reads, one_more}
use C.{Fault, Write, Refused, Truncated, gave_more, gave_all, TerminalType, IsInGrammar, IsTruncated, Item}
use C.{element_rules, Element, Place, Key, HaveBroughtPlayer, HasDone, IsRunFault, IsRun, refusal_count, behind, Player}
use C.{due, later, refused_keys, AtStation, StationParts, StationReached, StationEndState, new_station_end}
use Rattle.ws_code.specs.declared.fault.Fault.TheVariants.{Read}
use Rattle.ws_end.specs.declared.attached.run.Played.{Played}
use Rattle.ws_end.proofs.attached.PlaySteps.{keys_taken}
use Rattle.ws_end.proofs.attached.Plays.{text_from}
use Rattle.ws_code.specs.Device.{on_devices}
use Rattle.ws_end.specs.attached.StationRun.{schedule, outflow, passing}

-- what the loop over a source keeps: the bytes that it gave have brought the player here, and are at most 4,096 a read
pub record Reading {R S : Type 0} (reader : Reader R) (source now : R) (reads : ℕ) (writer : Writer S)
    (t : TerminalType) (keys : List (ℕ × Key)) (sink here : S) (player : Player) : Type 0 where
  pub bytes : List ℕ
  pub items : List (Item Element)
  pub gave : Gave reader source now reads bytes
  pub come : HaveBroughtPlayer (schedule t keys) (outflow writer sink here) player bytes items
  pub few : length bytes ≤ 4096 * reads

module _ {R S : Type 0} (reader : Reader R) (writer : Writer S) (t : TerminalType) (keys : List (ℕ × Key)) where
  gave_none : (s : R) → Gave reader s s 0 []
  gave_none s = record { reads = []; made = refl; counted = refl; within = omega arith; gave = refl; uncounted = refl }

  -- before the first read the keys are pressed that wait for no record
  pub run_starts : (station : StationParts) (source : R) (sink here : S) (player : Player)
      → HasDone writer [] [] (record { station = station; pressed = 0; keys_refused = 0 }) player sink here
      (new_station_end t) (due 0 keys) × (drop player.pressed keys ≡ later 0 keys)
      → Reading reader source source 0 writer t keys sink here player
  run_starts station source sink here player (done, left) = record {
    bytes = [];
    items = [];
    gave = gave_none _;
    come = record {
      is_behind = record { reached = done.reached; taken = keys_taken _ 0 keys };
      refused = done.refused 0 refl ∙ ap refusal_count (let e : 0 + refused_keys (new_station_end t) (due 0 keys)
          ≡ refused_keys (new_station_end t) (due 0 keys) = omega arith in e);
      left = left;
      wrote = done.wrote;
    };
    few = omega arith;
  }

  pub start_fails : (station : StationParts) (source : R) (sink here : S) → StationReached station [] []
      (new_station_end t) → FailedWithin writer sink here (text_from (new_station_end t) (due 0 keys))
      → IsRun (schedule t keys) (passing (on_devices writer reader) sink here source source)
      (Err Write)
  start_fails station source sink here l failed = record {
    bytes = [];
    reads = 0;
    gave = gave_none _;
    unwritten = record {
      before = [];
      after = [];
      split = refl;
      items = [];
      so_far = l.so_far.bytes;
      begun = station.live.begun;
      holds = l.reached.holds;
      taken = keys_taken _ 0 keys;
      failed = failed;
    };
  }

  module _ (source now : R) (reads : ℕ) (sink here : S) (player : Player) (r : Reading
      reader source now reads writer t keys sink here player) (one_left : reads < most_reads) where
    -- the source's end
    pub run_ends : (now' : R) (room : ℕ) (result : Result Played Fault) → 0 < room
        → reader.gives now room (Some []) now'
        → reader.failures now' ≡ reader.failures now
        → IfOk result (λ played. (played.station ≡ player.station) × (played.keys_refused
        ≡ player.keys_refused) × AtStation player.station (λ bytes items state. IsInGrammar element_rules bytes items))
        → IfErr result (λ fault. (bytes : List ℕ) (items : List (Item Element)) (state : StationEndState)
        → StationReached player.station bytes items state → length bytes + 1 < 2 ^ 64
        → (fault ≡ Truncated (length bytes)) × IsTruncated {Place = Place} {U = Element} element_rules bytes)
        → IsRun (schedule t keys) (passing (on_devices writer reader) sink here source now') result
    run_ends now' room (Ok played) h made same ok err = record {
      bytes = r.bytes;
      items = r.items;
      gave = gave_all reader source now now' reads r.bytes room r.gave one_left h made same;
      accepted = ok.2 r.bytes r.items (behind (schedule t keys) r.items).state r.come.is_behind.reached;
      is_behind = record { reached = rw ok.0 r.come.is_behind.reached; taken = r.come.is_behind.taken };
      refused = ok.1 ∙ r.come.refused;
      wrote = r.come.wrote;
    }
    run_ends now' room (Err fault) h made same ok err =
        let e = err r.bytes r.items (behind (schedule t keys) r.items).state r.come.is_behind.reached
        (omega (arith, r.few, one_left)) in
        rw e.0 (record {
          bytes = r.bytes;
          items = r.items;
          station = player.station;
          gave = gave_all reader source now now' reads r.bytes room r.gave one_left h made same;
          at_end = refl;
          truncated = e.1;
          is_behind = r.come.is_behind;
          wrote = r.come.wrote;
        })

    -- a read that failed
    pub run_unread : (now' : R) (room : ℕ) → reader.gives now room None now'
        → reader.failures now' ≡ one_more (reader.failures now)
        → IsRun (schedule t keys) (passing (on_devices writer reader) sink here source now')
        (Err Read)
    run_unread now' room made counted = record {
      bytes = r.bytes;
      items = r.items;
      station = player.station;
      failed = inl (record {
        before = now;
        count = reads;
        gave = r.gave;
        one_left = one_left;
        room = room;
        last = made;
        counted = counted ∙ ap one_more r.gave.uncounted;
      });
      is_behind = r.come.is_behind;
      wrote = r.come.wrote;
    }

    module _ (now' : R) (room : ℕ) (given : List ℕ) (made : reader.gives now room (Some given) now') (some : given ≢ [])
        (same : reader.failures now' ≡ reader.failures now) (small : length given ≤ 4096) where
      gave_next : Gave reader source now' (reads + 1) (r.bytes ++ given)
      gave_next = gave_more reader source now now' reads r.bytes room given r.gave one_left made some same

      pub fits : length r.bytes + length given + 1 < 2 ^ 64
      fits = omega (arith, r.few, one_left, small)

      -- a piece that is taken
      pub reads_on : (next : Player) (to : S)
          → ((items : List (Item Element))
          × HaveBroughtPlayer (schedule t keys) (outflow writer sink to) next (r.bytes ++ given) items)
          → Reading reader source now' (reads + 1) writer t keys sink to next
      reads_on next to come = record {
        bytes = r.bytes ++ given;
        items = come.0;
        gave = gave_next;
        come = come.1;
        few = omega (arith, r.few, small, length-append r.bytes given);
      }

      -- and one that isn't
      pub run_stops : (to : S) (fault : Fault) → IsRunFault (schedule t keys) (outflow writer sink to) (length r.bytes)
          (r.bytes ++ given) fault
          → IsRun (schedule t keys) (passing (on_devices writer reader) sink to source now')
          (Err fault)
      run_stops to (Refused place reason) f = (
        record {
          first = r.bytes;
          last = given;
          reads = reads;
          before = now;
          room = room;
          gave = r.gave;
          one_left = one_left;
          gave_last = made;
          uncounted = same ∙ r.gave.uncounted;
        },
        f,
      )
      run_stops to Write f = record { bytes = r.bytes ++ given; reads = reads + 1; gave = gave_next; unwritten = f }
      run_stops to fault f = absurd f

-- so many reads that the end wasn't reached
pub run_endless : {R S : Type 0} (reader : Reader R) (writer : Writer S)
    (t : TerminalType) (keys : List (ℕ × Key)) (source now : R) (reads : ℕ) (sink here : S) (player : Player)
    → Reading reader source now reads writer t keys sink here player
    → reads ≡ most_reads
    → IsRun (schedule t keys) (passing (on_devices writer reader) sink here source now) (Err Read)
run_endless reader writer t keys source now reads sink here player r is = record {
  bytes = r.bytes;
  items = r.items;
  station = player.station;
  failed = inr (rw (← is) r.gave);
  is_behind = r.come.is_behind;
  wrote = r.come.wrote;
}
