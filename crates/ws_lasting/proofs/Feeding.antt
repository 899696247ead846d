use Rattle.ws_lasting.proofs.Common as C
use C.{Act, ◌≡◌, ℕ, List, [], ◌∷◌, ◌++◌, refl, sym, ap, ◌∙◌, append-nil, append_assoc, arith, length, length-append}
use C.{take, zero, suc, ◌≤◌, ◌<◌, ◌+◌, Err, Ok, None, OnOk, Result, length-take, take-take, length_rest, bytes_on}
use C.{each_on, left_of, bytes_came, came_append, Came, all_came, EndFed, Refusal, At, Failed, Memory, OnDisplay}
use C.{AreQuiet, AreTakenSo, LeadsOnFrom, AtLasting, LastingOf, LastingStep, IsByteTaken, IsRefusalPlaced}
use C.{bytes_written, IsFrontTaken, FootingOn, IsAtByte, Lasts, LastingReply, RecordEvent, leads_both, lasts_both}
use C.{EndsAt, IfErr, IsEndedFor, ItemsOf, Option, ReadsOrPasses, RefusedRecord, Some, StandsAt, StationStands}
use C.{counted_both, counted_none}
use Rattle.ws_lasting.proofs.Placing.{placed_after}

-- What comes of bytes one after another.

-- what holds, holds where it went well
pub ok_so : {A B P : Type 0} (result : Result A B) → P → OnOk result P
ok_so (Ok it) p = p
ok_so (Err why) p = tt

module _ (on : OnDisplay) where
  -- a byte at which nothing is written or told, and what comes after it
  pub quiet_then : (acts : List (Act on.Pressed)) (byte : ℕ) (at mid next : FootingOn on) (w : List ℕ)
      (t : List RecordEvent) → IsAtByte on at byte mid [] [] → Lasts on mid acts next w t
      → Lasts on at (Came byte ∷ acts) next w t
  quiet_then acts byte at mid next w t a b = (mid, [], w, [], t, a, b, refl, refl)

  -- bytes at which nothing is written or told, and one more
  pub lasts_more : (came : List ℕ) (byte : ℕ) (at mid next : FootingOn on) (w : List ℕ) (t : List RecordEvent)
      → Lasts on at (all_came came) mid [] [] → IsAtByte on mid byte next w t
      → Lasts on at (all_came (came ++ byte ∷ [])) next w t
  lasts_more came byte at mid next w t a b = rw (came_append came (byte ∷ []))
      (lasts_both on (all_came came) (Came byte ∷ []) at mid next [] w [] t a
      (next, w, [], t, [], b, (refl, refl, refl), sym (append-nil w), sym (append-nil t)))

  -- nothing was written or told at a front of them either
  pub quiet_front : (came : List ℕ) (at next : FootingOn on) (n : ℕ) → Lasts on at (all_came came) next [] []
      → AreQuiet on at (take n came)
  quiet_front came at next zero a = (at, (refl, refl, refl))
  quiet_front [] at next (suc n) a = (at, (refl, refl, refl))
  quiet_front (byte ∷ came) at next (suc n) a =
      let w = nothing a.1 a.2 a.7 in
      let t = nothing a.3 a.4 a.8 in
      let rest = quiet_front came a.0 next n (rw (w.1, t.1) at a.6) in (
        rest.0,
        (a.0, [], [], [], [], rw (w.0, t.0) at a.5, rest.1, refl, refl),
      ) where
        nothing : {X : Type 0} (x y : List X) → [] ≡ x ++ y → (x ≡ []) × (y ≡ [])
        nothing [] y e = (refl, sym e)
        nothing (c ∷ x) y e = cc

  -- what reacts at a station is what stands where it does
  standing : (old : LastingOf on) (at : FootingOn on) (o : Option RefusedRecord) → ReadsOrPasses on old at o
      → (items : ItemsOf on) × StationStands on.does old.station.reacts items at.state
  standing old at None w = (w.0.items, w.0.reached.stands)
  standing old at (Some why) w = ([], w.reached.stands)

  -- what is left where the session ends is what stood there
  pub ends_so : (old new : LastingOf on) (at : FootingOn on) (items : ItemsOf on)
      (result : Result (LastingStep on.Replied) Refusal) → old.ended ≡ None → old.environ ≡ at.environ
      → StationStands on.does old.station.reacts items at.state → IfErr result (λ why. IsEndedFor old new why)
      → IfErr result (λ why. EndsAt on old.counts new at why)
  ends_so old new at items (Ok step) works named stands left = tt
  ends_so old new at items (Err why) works named stands left = record {
    items = items;
    stands = rw left.1 stands;
    is_environ = ap (λ (z : LastingOf on). z.environ) left.2 ∙ named;
    counted = rw (ap (λ (z : LastingOf on). z.counts) left.2) (counted_none old.counts);
    ended = left.0 works;
  }

  -- a byte that is taken is taken alone
  pub taken_alone : (old new : LastingOf on) (at : FootingOn on) (byte : ℕ)
      (result : Result (LastingStep on.Replied) Refusal) → IsByteTaken on old new at byte result
      → OnOk result (new.taken ≡ old.taken + 1) → IfErr result (λ why. IsEndedFor old new why) → StandsAt on old at
      → AreTakenSo on old new at (byte ∷ []) result
  taken_alone old new at byte (Ok step) h counted left st = (
    h.0,
    (h.0, _, [], _, [], h.1, (refl, refl, refl), sym (append-nil _), sym (append-nil _)),
    h.2,
    h.3,
    counted,
  )
  taken_alone old new at byte (Err (At place reason)) h counted left st =
      let s = standing old at old.passing st.within in (
        [],
        byte,
        refl,
        (
          at,
          (refl, refl, refl),
          omega (arith, h.0),
          h.1,
          omega (arith, h.0, h.2),
          ends_so old new at s.0 (Err (At place reason)) st.works st.is_environ s.1 left,
        ),
      )
  taken_alone old new at byte (Err Failed) h counted left st = absurd h
  taken_alone old new at byte (Err Memory) h counted left st = absurd h

  module _ (a b c : LastingOf on) (at : FootingOn on) (came : List ℕ)
      (l : LeadsOnFrom on a b at (all_came came) [] []) where
    -- what comes of others after them
    pub taken_after : (more : List ℕ) (result : Result (LastingStep on.Replied) Refusal)
        → AreTakenSo on b c l.0 more result → AreTakenSo on a c at (came ++ more) result
    taken_after more (Ok step) t = rw (came_append came more)
        (leads_both on a b c at (all_came came) (all_came more) [] _ [] _ l t)
    taken_after more (Err (At place reason)) t = (
      came ++ t.0,
      t.1,
      ap (λ z. came ++ z) t.2 ∙ sym (append_assoc came t.0 (t.1 ∷ [])),
      (
        t.3.0,
        rw (came_append came t.0)
            (lasts_both on (all_came came) (all_came t.0) at l.0 t.3.0 [] [] [] [] l.1 t.3.1),
        (let n = ap length (bytes_came on.Pressed came) in omega (arith, t.3.2, l.4, n, length-append came t.0)),
        t.3.3,
        t.3.4,
        (let e = t.3.5 in record {
          items = e.items;
          stands = e.stands;
          is_environ = e.is_environ;
          counted = counted_both a.counts b.counts c.counts [] [] l.3 e.counted;
          ended = e.ended;
        }),
      ),
    )
    taken_after more (Err Failed) t = absurd t.3
    taken_after more (Err Memory) t = absurd t.3

    quiet_after : (more : List ℕ) → AreQuiet on l.0 more → AreQuiet on at (came ++ more)
    quiet_after more q = (
      q.0,
      rw (came_append came more) (lasts_both on (all_came came) (all_came more) at l.0 q.0 [] [] [] [] l.1 q.1),
    )

  module _ (a b : LastingOf on) (at : FootingOn on) (piece : List ℕ) (used : ℕ)
      (l : LeadsOnFrom on a b at (all_came (take used piece)) [] []) where
    pub quiet_at : (n : ℕ) → n ≤ used → AreQuiet on at (take n piece)
    quiet_at n le = rw (take-take n used piece le) at (quiet_front (take used piece) at l.0 n l.1)

    -- nor at those before the last of a front of what is left
    pub quiet_on : (more : ℕ) → ((n : ℕ) → n < more → AreQuiet on l.0 (take n (left_of piece used)))
        → (n : ℕ) → n < used + more → AreQuiet on at (take n piece)
    quiet_on more rest = each_on (λ z. AreQuiet on at z) [] piece used more quiet_at
        (λ n lt. quiet_after a b b at (take used piece) l (take n (left_of piece used)) (rest n lt))

  -- bytes at which nothing is written or told lead on
  pub quiet_so : (a b : LastingOf on) (at : FootingOn on) (came : List ℕ)
      (result : Result (LastingStep on.Replied) Refusal) → (gave : LastingStep on.Replied)
      × (result ≡ Ok gave) × (gave.event ≡ None) × (bytes_written on b gave.reply ≡ [])
      → AreTakenSo on a b at came result → LeadsOnFrom on a b at (all_came came) [] []
  quiet_so a b at came result silent t = rw (silent.2, silent.3) at (rw silent.1 at t)

  -- so does a front of what is left of a piece
  pub front_silent : (a b c : LastingOf on) (piece : List ℕ) (used : ℕ)
      (fed : EndFed RecordEvent (LastingReply on.Replied))
      → IsFrontTaken on b (left_of piece used) c fed → (gave : LastingStep on.Replied) × (fed.step ≡ Ok gave)
      × (gave.event ≡ None) × (bytes_written on c gave.reply ≡ []) → (used ≤ length piece)
      × (b.taken ≡ a.taken + used) × IsRefusalPlaced a a.taken b None
      × AtLasting on a (λ at. LeadsOnFrom on a b at (all_came (take used piece)) [] [])
      → (used + fed.used ≤ length piece) × (c.taken ≡ a.taken + (used + fed.used)) × IsRefusalPlaced a a.taken c None
      × AtLasting on a (λ at. LeadsOnFrom on a c at (all_came (take (used + fed.used) piece)) [] [])
  front_silent a b c piece used fed f silent led = (
    omega (arith, f.within, length_rest piece used, led.0),
    (let n = rw silent.1 at f.counted in omega (arith, n, led.1)),
    (let n = rw silent.1 at f.counted in rw silent.2 at (rw silent.1 at (placed_after a b c fed.step
        (omega (arith, led.1)) (ok_so fed.step (omega (arith, n))) led.2 f.placed))),
    λ at st. (
        let l = led.3 at st in
        quiet_so a c at (take (used + fed.used) piece) fed.step silent
        (rw (bytes_on [] piece used fed.used) at (taken_after a b c at (take used piece) l
        (take fed.used (left_of piece used)) fed.step (f.taken l.0 l.2)))),
  )

  -- a front of a front of a piece is one of the piece
  pub front_so : (old new : LastingOf on) (piece : List ℕ) (count : ℕ)
      (fed : EndFed RecordEvent (LastingReply on.Replied))
      → IsFrontTaken on old (take count piece) new fed → IsFrontTaken on old piece new fed
  front_so old new piece count fed f =
      let n = length-take count piece in
      let within : fed.used ≤ count = (let w = f.within in omega (arith, w, n)) in
      record {
        within = (let w = f.within in omega (arith, w, n));
        some = f.some;
        taken = λ at st. rw (take-take fed.used count piece within) at (f.taken at st);
        first = λ at st m lt. rw (take-take m count piece (omega (arith, lt, within))) at (f.first at st m lt);
        placed = f.placed;
        counted = f.counted;
        after = f.after;
      }
