-- An end that C holds at a push of bytes, by what it does at pieces: what has gone out, and what waits

use Rattle.std.proofs.Common.{◌≡◌, ◌≢◌, ℕ, ◌+◌, ◌-◌, ◌<◌, ◌≤◌, inl, inr, List, [], ◌∷◌, ◌++◌, length, take, drop}
use Rattle.std.specs.Prelude.{IfErr, IfOk, Result, Ok, Err}
use Rattle.std.proofs.Common.{refl, Option, Some, None, sym, ap, ◌∙◌, subst, arith, length-append, append_assoc}
use Rattle.std.proofs.Math.Seq.{take-add}
use Rattle.std.proofs.lemmas.Bool.{cases_lt}
use Rattle.std.proofs.lemmas.List.{append-nil, drop-drop, length-drop}
use Rattle.std.proofs.Math.Seq.{drop-nil}
use Rattle.ws_end.specs.ActLaws.{came_append}
use Rattle.ws_end.specs.Acts.{Act, all_came, as_list}
use Rattle.ws_end.specs.Behaviour.{Behaviour, TakesSome}
use Rattle.ws_end.specs.declared.end_step.EndFed.{EndFed}
use Rattle.ws_end.specs.declared.end_step.EndStep.{EndStep}
use Rattle.ws_end.specs.declared.refusal.Refusal.{Refusal}
use Rattle.ws_c.specs.Calls.{crossed, holds_front}
use Rattle.ws_c.specs.HeldEnds.{filling}
use Rattle.ws_c.specs.LiveEnds.{BringsNoMore, HandsOutAt, IsPiecePush, IsPiecePushEnd, IsTraced, left_of, unsent}
use Rattle.ws_c.specs.Pushes.{first_bytes, nothing_pushed, pushed_told}
use Rattle.ws_c.specs.declared.held_end.HeldEnd.{HeldEnd}
use Rattle.ws_c.specs.declared.status.Status.{Status}
use Rattle.ws_c.specs.declared.status.Status.TheVariants.{Done, NoRoom}
use Rattle.ws_c.specs.declared.told.PushedTold.{PushedTold}
use Rattle.ws_c.specs.declared.told.TheConstants.{REPLY_ROOM}

-- what is left of a reply of which more has gone out
pub left_more : {E R : Type 0} (w : E → R → List ℕ) (held : HeldEnd E (Option R)) (count : ℕ)
    → drop count (left_of w held) ≡ unsent w held.end (held.sent + count) held.reply
left_more {E} {R} w held count = go held.reply
  where
    go : (reply : Option R) → drop count (unsent w held.end held.sent reply) ≡ unsent w held.end (held.sent + count) reply
    go None = drop-nil count
    go (Some reply) = drop-drop count held.sent (w held.end reply)

-- acts go on where others have led
abbrev pub Follows : {E Request Event : Type 0} → Behaviour E Request Event → Type 0
Follows {E} {Request} {Event} b = (x y z : E) (xs ys : List (Act Request)) (v u : List ℕ) (s t : List Event)
    → b.traces x xs v s y → b.traces y ys u t z → b.traces x (xs ++ ys) (v ++ u) (s ++ t) z

module _ {E Request Event R : Type 0} (b : Behaviour E Request Event) (w : E → R → List ℕ) where
  abbrev Held : Type 0
  Held = HeldEnd E (Option R)

  -- what bytes bring after those before them
  traced_on : (follows : Follows b) (old mid new : E) (bytes : List ℕ) (n k : ℕ) (brought more : List ℕ)
      → IsTraced b old (take n bytes) brought mid → IsTraced b mid (take k (drop n bytes)) more new
      → IsTraced b old (take (n + k) bytes) (brought ++ more) new
  traced_on follows old mid new bytes n k brought more p q = (
    p.0 ++ q.0,
    subst (λ (z : List (Act Request)). b.traces old z (brought ++ more) (p.0 ++ q.0) new)
        (sym (came_append (take n bytes) (take k (drop n bytes)))
        ∙ ap (λ (x : List ℕ). all_came {Request = Request} x) (sym (take-add n k bytes)))
        (follows old mid new (all_came (take n bytes)) (all_came (take k (drop n bytes))) brought more p.0 q.0 p.1 q.1),
  )

  -- what a piece brings
  pub brought_by : (old new : E) (piece : List ℕ) (fed : EndFed Event R) (step : EndStep Event R)
      → TakesSome b w old piece new fed → fed.step ≡ Ok step
      → b.traces old (all_came (take fed.used piece)) (w new step.reply) (as_list step.event) new
      × ((j : ℕ) → j < fed.used → b.silent old (take j piece))
  brought_by old new piece fed step t is = (
    subst (λ (r : Result (EndStep Event R) Refusal). IfOk r (λ step.
        b.traces old (all_came (take fed.used piece)) (w new step.reply) (as_list step.event) new)) is t.fed,
    subst (λ (r : Result (EndStep Event R) Refusal). IfOk r (λ step.
        (n : ℕ) → n < fed.used → b.silent old (take n piece))) is t.first,
  )

  -- which byte of a piece is refused
  pub refused_by : (old new : E) (piece : List ℕ) (fed : EndFed Event R) (why : Refusal)
      → TakesSome b w old piece new fed → fed.step ≡ Err why → (byte : ℕ) × (rest : List ℕ)
      × (piece ≡ take (fed.used - 1) piece ++ byte ∷ rest) × b.refuses old (take (fed.used - 1) piece) byte why new
  refused_by old new piece fed why t is =
      subst (λ (r : Result (EndStep Event R) Refusal). IfErr r (λ refusal. (byte : ℕ) × (rest : List ℕ)
      × (piece ≡ take (fed.used - 1) piece ++ byte ∷ rest)
      × b.refuses old (take (fed.used - 1) piece) byte refusal new)) is t.refused

  -- so far
  pub record Pushing (old now : Held) (bytes buffer after : List ℕ) (told : PushedTold) : Type 0 where
    pub inside : told.taken ≤ length bytes
    pub brought : List ℕ
    pub out : List ℕ
    pub takes : IsTraced b old.end (take told.taken bytes) brought now.end
    pub whole : left_of w old ++ brought ≡ out ++ left_of w now
    pub first : length out < length (left_of w old) → told.taken ≡ 0
    pub in_time : (n : ℕ) → n < told.taken
        → BringsNoMore b old.end (first_bytes bytes n) (length out - length (left_of w old))
    pub roomy : 0 < told.taken → left_of w now ≢ [] → REPLY_ROOM ≤ now.sent
    pub replied : told.replied ≡ length out
    pub fits : told.replied ≤ length buffer
    pub put : after ≡ holds_front out buffer
    pub filled : left_of w now ≢ [] → told.replied ≡ length buffer
    pub plain : told ≡ pushed_told told.taken told.replied

  -- at first what waited is handed out
  pub pushing_start : (stays : (e : E) → b.traces e [] [] [] e) (old new : Held) (bytes buffer after : List ℕ)
      (told counts : PushedTold) → told ≡ nothing_pushed
      → HandsOutAt w old new (filling told buffer) (filling counts after)
      → Pushing old new bytes buffer after counts
  pushing_start stays old new bytes buffer after told counts fresh h =
      let none_more : 0 + length h.out ≡ length h.out = omega arith in
      let counts_is : counts ≡ pushed_told 0 (length h.out) =
      h.counted ∙ ap (λ (t : PushedTold). record t { replied = t.replied + length h.out }) fresh
      ∙ ap (λ (n : ℕ). pushed_told 0 n) none_more in
      let taken_is : counts.taken ≡ 0 = ap (λ (t : PushedTold). t.taken) counts_is in
      record {
        inside = omega (arith, taken_is);
        brought = [];
        out = h.out;
        takes = (
          [],
          subst (λ (n : ℕ). b.traces old.end (all_came (take n bytes)) [] [] new.end) (sym taken_is)
              (subst (λ (s : E). b.traces old.end [] [] [] s) (sym (ap (λ (k : Held). k.end) h.sent)) (stays old.end)),
        );
        whole = append-nil (left_of w old) ∙ h.whole;
        first = λ few. taken_is;
        in_time = λ n lt. absurd (omega (arith, lt, taken_is));
        roomy = λ some. absurd (omega (arith, some, taken_is));
        replied = ap (λ (t : PushedTold). t.replied) counts_is;
        fits = h.fits;
        put = h.put [] buffer (sym (ap (λ (t : PushedTold). t.replied) fresh)) refl;
        filled = h.filled;
        plain = subst (λ (t : PushedTold). t ≡ pushed_told t.taken t.replied) (sym counts_is) refl;
      }

  -- where nothing waits all that was written is out
  all_out : (old now : Held) (bytes buffer after : List ℕ) (told : PushedTold)
      (f : Pushing old now bytes buffer after told) → left_of w now ≡ [] → left_of w old ++ f.brought ≡ f.out
  all_out old now bytes buffer after told f none =
      f.whole ∙ ap (λ (l : List ℕ). f.out ++ l) none ∙ append-nil f.out

  -- what is at most so long is at most longer
  brings_more : (old : E) (bytes : List ℕ) (n few most : ℕ) → few ≤ most
      → BringsNoMore b old (first_bytes bytes n) few → BringsNoMore b old (first_bytes bytes n) most
  brings_more old bytes n few most le (some, within, brought, mid, traced, short, silent) =
      (some, within, brought, mid, traced, omega (arith, short, le), silent)

  -- more was written, and handed out as far as there was room
  pub pushing_on : (follows : Follows b) (old now fed new : Held) (bytes buffer after last : List ℕ) (told plus counts : PushedTold) (used : ℕ)
      (f : Pushing old now bytes buffer after told)
      → left_of w now ≡ [] → fed.sent ≡ 0 → REPLY_ROOM ≤ length after - told.replied
      → plus ≡ record told { taken = told.taken + used } → told.taken + used ≤ length bytes
      → IsTraced b now.end (take used (drop told.taken bytes)) (left_of w fed) fed.end
      → ((j : ℕ) → j < used → b.silent now.end (take j (drop told.taken bytes)))
      → HandsOutAt w fed new (filling plus after) (filling counts last)
      → Pushing old new bytes buffer last counts
  pushing_on follows old now fed new bytes buffer after last told plus counts used f none begun room plus_is within takes
      silent h =
      let size : length after ≡ length buffer = omega (
        arith,
        ap (λ (l : List ℕ). length l) f.put,
        length-append f.out (drop (length f.out) buffer),
        length-drop (length f.out) buffer,
        f.replied,
        f.fits,
      ) in
      let all = all_out old now bytes buffer after told f none in
      let counts_is : counts ≡ pushed_told (told.taken + used) (told.replied + length h.out) =
      h.counted ∙ ap (λ (t : PushedTold). record t { replied = t.replied + length h.out }) plus_is
      ∙ ap (λ (t : PushedTold). record t { taken = told.taken + used; replied = told.replied + length h.out }) f.plain in
      let out_is : length (left_of w old) + length f.brought ≡ length f.out =
      sym (length-append (left_of w old) f.brought) ∙ ap (λ (l : List ℕ). length l) all in
      let taken_is : counts.taken ≡ told.taken + used = ap (λ (t : PushedTold). t.taken) counts_is in
      let replied_is : counts.replied ≡ told.replied + length h.out = ap (λ (t : PushedTold). t.replied) counts_is in
      record {
        inside = omega (arith, taken_is, within);
        brought = f.brought ++ left_of w fed;
        out = f.out ++ h.out;
        takes = subst (λ (n : ℕ). IsTraced b old.end (take n bytes) (f.brought ++ left_of w fed) new.end) (sym taken_is)
            (subst (λ (s : E). IsTraced b old.end (take (told.taken + used) bytes) (f.brought ++ left_of w fed) s)
            (sym (ap (λ (k : Held). k.end) h.sent))
            (traced_on follows old.end now.end fed.end bytes told.taken used f.brought (left_of w fed) f.takes takes));
        whole = sym (append_assoc (left_of w old) f.brought (left_of w fed))
            ∙ ap (λ (l : List ℕ). l ++ left_of w fed) all
            ∙ ap (λ (l : List ℕ). f.out ++ l) h.whole ∙ sym (append_assoc f.out h.out (left_of w new));
        first = λ few. absurd (omega (arith, few, length-append f.out h.out, out_is));
        in_time = λ n lt. elim (cases_lt n told.taken) [
          | inl less ↦ brings_more old.end bytes n _ _ (omega (arith, length-append f.out h.out)) (f.in_time n less)
          | inr ge ↦ (
            told.taken,
            omega (arith, ge),
            f.brought,
            now.end,
            f.takes,
            omega (arith, out_is, length-append f.out h.out),
            silent (n - told.taken) (omega (arith, ge, lt, taken_is)),
          )
        ];
        roomy = λ _ some. (let full = h.filled some in
            omega (arith, full, replied_is, room, begun, ap (λ (k : Held). k.sent) h.sent));
        replied = omega (arith, replied_is, f.replied, length-append f.out h.out);
        fits = omega (arith, h.fits, size);
        put = h.put f.out buffer (sym f.replied ∙ sym (ap (λ (t : PushedTold). t.replied) plus_is)) f.put;
        filled = λ some. h.filled some ∙ size;
        plain = subst (λ (t : PushedTold). t ≡ pushed_told t.taken t.replied) (sym counts_is) refl;
      }

  module _ (old now : Held) (bytes buffer after : List ℕ) (told : PushedTold)
      (f : Pushing old now bytes buffer after told) where
    -- it ends where something waits
    pub push_waits : left_of w now ≢ [] → IsPiecePush b w bytes (crossed buffer after NoRoom told) old now
    push_waits waits = record {
      counted = f.inside;
      fed = told.taken;
      brought = f.brought;
      out = f.out;
      before = now;
      takes = f.takes;
      whole = f.whole;
      first = f.first;
      in_time = f.in_time;
      roomy = f.roomy;
      replied = f.replied;
      fits = f.fits;
      put = f.put;
      waits = λ _. (refl, f.plain ∙ ap (λ (n : ℕ). pushed_told told.taken n) (f.filled waits), refl);
      ends = λ none. absurd (waits none);
    }

    -- or where nothing does
    pub push_ends : (new : Held) (status : Status) (last : PushedTold) → left_of w now ≡ [] → left_of w new ≡ []
        → last.taken ≤ length bytes → last.replied ≡ told.replied
        → IsPiecePushEnd b w (first_bytes bytes told.taken) (crossed buffer after status last) now new
        → IsPiecePush b w bytes (crossed buffer after status last) old new
    push_ends new status last none still inside same ends = record {
      counted = inside;
      fed = told.taken;
      brought = f.brought;
      out = f.out;
      before = now;
      takes = f.takes;
      whole = f.whole;
      first = f.first;
      in_time = f.in_time;
      roomy = f.roomy;
      replied = same ∙ f.replied;
      fits = omega (arith, same, f.fits);
      put = f.put;
      waits = λ waits. absurd (waits none);
      ends = λ _. (still, ends);
    }

    -- it ends with the last byte
    pub push_done : (status : Status) → (left_of w now ≡ [] → status ≡ Done) → (left_of w now ≢ [] → status ≡ NoRoom)
        → length bytes ≤ told.taken → IsPiecePush b w bytes (crossed buffer after status told) old now
    push_done status done waits enough = go (left_of w now) refl
      where
        go : (l : List ℕ) → left_of w now ≡ l → IsPiecePush b w bytes (crossed buffer after status told) old now
        go [] none = push_ends now status told none none f.inside refl (record {
          all = λ _. (done none, f.plain, refl);
          crowded = λ more _. absurd (omega (arith, more, enough));
          refused = λ more _. absurd (omega (arith, more, enough));
        })
        go (x ∷ xs) some = let left : left_of w now ≢ [] = λ none. cc (some, none) in
            subst (λ (s : Status). IsPiecePush b w bytes (crossed buffer after s told) old now)
            (sym (waits left)) (push_waits left)
