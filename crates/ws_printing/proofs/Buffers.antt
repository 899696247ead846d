-- What goes out after a buffer.

use Rattle.ws_code.specs.Device.{IsWriteFailure}
use Rattle.ws_printing.proofs.Common.{Option, Some, None, ◌≡◌, ℕ, List, [], ◌∷◌, ◌++◌, take, drop, sym, ap, ◌∙◌}
use Rattle.ws_printing.proofs.Common.{append_assoc, take-append-drop, append-nil, Writer, Taken, bytes_taken, Writes}
use Rattle.ws_printing.proofs.Common.{WentOut, FailedWithin, went_out_none, went_out_both, failed_within_both}
use Rattle.ws_printing.specs.Buffering.{Buffering, buffered_takes, buffered_writer}

module _ {S : Type 0} (writer : Writer S) where
  -- what went out by some writes into it, and what it holds
  buffered_writes : (from to : Buffering S) (ws : List Taken) → Writes (buffered_takes writer) from ws to
      → (out : List ℕ) × WentOut writer from.sink to.sink out × (from.held ++ bytes_taken ws ≡ out ++ to.held)
  buffered_writes from to [] p = (
    [],
    rw (← p) (went_out_none writer from.sink),
    append-nil from.held ∙ ap (λ (b : Buffering S). b.held) p,
  )
  buffered_writes from to (w ∷ ws) p =
      let one = p.1 in
      let rest = buffered_writes p.0 to ws p.3 in (
        one.0 ++ rest.0,
        went_out_both writer from.sink p.0.sink to.sink one.0 rest.0 one.1 rest.1,
        rw (← append_assoc, one.2, append_assoc, rest.2) (sym (append_assoc one.0 rest.0 to.held)),
      )

  module _ (from : Buffering S) (empty : from.held ≡ []) where
    -- a text went out up to what is held of it
    held_back : (to : Buffering S) (text : List ℕ) → WentOut (buffered_writer writer) from to text
        → (out : List ℕ) × WentOut writer from.sink to.sink out × (text ≡ out ++ to.held)
    held_back to text w =
        let all = buffered_writes from to w.writes w.made in
        (all.0, all.1, sym w.took ∙ ap (λ z. z ++ bytes_taken w.writes) (sym empty) ∙ all.2)

    -- the rest of it goes out
    pub flushed_out : (mid : Buffering S) (to : S) (text : List ℕ)
        → WentOut (buffered_writer writer) from mid text → WentOut writer mid.sink to mid.held
        → WentOut writer from.sink to text
    flushed_out mid to text w rest =
        let out = held_back mid text w in
        rw out.2 (went_out_both writer from.sink mid.sink to out.0 mid.held out.1 rest)

    -- or doesn't
    pub flush_fails : (mid : Buffering S) (to : S) (text : List ℕ)
        → WentOut (buffered_writer writer) from mid text
        → FailedWithin writer mid.sink to mid.held → FailedWithin writer from.sink to text
    flush_fails mid to text w rest =
        let out = held_back mid text w in
        rw out.2 (rw (append-nil mid.held) at
        (failed_within_both writer from.sink mid.sink to out.0 mid.held [] out.1 rest))

    -- a write into the buffer failed
    failed_behind : (to : Buffering S) (text : List ℕ) (before : Buffering S) (offered : List ℕ) (answer : Option ℕ)
        (n m : ℕ) → WentOut (buffered_writer writer) from before text
        → buffered_takes writer before offered answer to → IsWriteFailure offered answer n m
        → FailedWithin writer from.sink to.sink text × (to.held ≡ [])
    failed_behind to text before offered None n m w last failed = (flush_fails before to.sink text w last.0, last.1)
    failed_behind to text before offered (Some k) n m w last failed = absurd (failed.1 (last.3 failed.0))

    pub fails_behind : (to : Buffering S) (text : List ℕ) → FailedWithin (buffered_writer writer) from to
        text → FailedWithin writer from.sink to.sink text × (to.held ≡ [])
    fails_behind to text f =
        let a = f.failed in
        let part : List ℕ = take f.count text in
        let front = failed_behind to part a.before a.offered a.answer from.failures to.failures a.went_out a.last a.failed in
        let whole : [] ++ (part ++ drop f.count text) ≡ text = take-append-drop f.count text in (
          rw (← whole) (failed_within_both writer from.sink from.sink to.sink [] part (drop f.count text)
              (went_out_none writer from.sink) front.0),
          front.1,
        )
