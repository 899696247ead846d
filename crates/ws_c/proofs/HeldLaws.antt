-- An end that C holds at a push of bytes: what has gone out, and what waits

use Rattle.std.specs.Prelude.{◌==◌, min}
use Rattle.std.proofs.Common.{◌≡◌, ◌≢◌, ℕ, ◌+◌, ◌-◌, ◌<◌, ◌≤◌, inl, inr, List, [], ◌∷◌, ◌++◌, length, take, drop}
use Rattle.std.proofs.Common.{◌⊎◌, refl, Bool, true, false, Option, Some, None, IsSome, sym, ap, ◌∙◌, subst, arith, length-append}
use Rattle.std.proofs.Common.{append_assoc}
use Rattle.std.proofs.lemmas.Bool.{cases_lt}
use Rattle.std.proofs.lemmas.List.{append-nil, drop_all, length-drop, nil_from_length}
use borrow.Author.Tests.{eqb-true, eqb-false}
use Rattle.ws_end.specs.driver.Driven.{AreSilent, AtDriver, Driven, Driving}
use Rattle.ws_c.specs.Calls.{Crossed, HasStatus, crossed, holds_front, status_number}
use Rattle.ws_c.specs.Held.{Boxed, OnHost}
use Rattle.ws_c.specs.HeldEnds.{HandsOut, filling, waiting}
use Rattle.ws_c.specs.Pushes.{BringsAtMost, FrontTaken, HasToldAlone, IsPushEnd, IsPush, first_bytes, nothing_pushed}
use Rattle.ws_c.specs.Pushes.{pushed_told}
use Rattle.ws_c.specs.declared.held_end.HeldEnd.{HeldEnd}
use Rattle.ws_c.specs.declared.host.HeldHost.{HeldHost}
use Rattle.ws_c.specs.declared.machine.Machine.{Machine}
use Rattle.ws_c.specs.declared.machine.Machine.TheVariants.{Host}
use Rattle.ws_c.specs.declared.status.Status.{Status}
use Rattle.ws_c.specs.declared.status.Status.TheVariants.{Done, NoRoom}
use Rattle.ws_c.specs.declared.told.PushedTold.{PushedTold}
use Rattle.ws_c.specs.declared.told.TheConstants.{REPLY_ROOM}
use Rattle.ws_c.proofs.FeedLaws.{brings_at_most, takes_none}

-- a call has done this with the host's end that a handle holds
pub on_host : {held now : Option Machine} {machine at : Machine} {old new : Boxed HeldHost} {given : HeldHost}
    (does : HeldHost → HeldHost → Type 0) (otherwise : Type 0) → held ≡ Some machine → at ≡ machine → at ≡ Host old
    → given ≡ old.value → now ≡ Some (Host new) → does given new.value → OnHost held now does otherwise
on_host {new = new} does otherwise some read is same put done =
    rw (some ∙ ap Some (sym read ∙ is)) (new, put, subst (λ (host : HeldHost). does host new.value) same done)

-- the same, where C is given this status
pub host_status : {number : ℕ} {held now : Option Machine} {machine at : Machine} {old new : Boxed HeldHost}
    {given : HeldHost} (does : Status → HeldHost → HeldHost → Type 0) (otherwise : Status → Type 0) (status : Status)
    → number ≡ status_number status → held ≡ Some machine → at ≡ machine → at ≡ Host old → given ≡ old.value
    → now ≡ Some (Host new) → does status given new.value
    → HasStatus number (λ s. OnHost held now (does s) (otherwise s))
host_status does otherwise status told some read is same put done =
    (status, told, on_host (does status) (otherwise status) some read is same put done)

-- whether something waits, by the length of what does
pub nothing_waits : (rest l : List ℕ) → rest ≡ l → (length rest == 0) ≡ true → l ≡ []
nothing_waits rest l is e = sym is ∙ nil_from_length rest (eqb-true (length rest) 0 e)

pub something_waits : (rest l : List ℕ) → rest ≡ l → (length rest == 0) ≡ false → l ≢ []
something_waits rest l is e none = eqb-false (length rest) 0 e (ap (λ (xs : List ℕ). length xs) (is ∙ none))

-- where not all of it has gone out there was no room for more
pub all_room : (rest : List ℕ) (count room : ℕ) → count ≡ min (length rest) room → drop count rest ≢ [] → count ≡ room
all_room rest count room e some = elim (cases_lt room (length rest)) [
  | inl lt ↦ omega (arith, e, lt)
  | inr ge ↦ absurd (some (drop_all count rest (omega (arith, e, ge))))
]

-- of a short reply of which so much has gone out nothing waits
pub short_none : (reply : List ℕ) (sent most : ℕ) → length reply ≤ most → most ≤ sent → drop sent reply ≡ []
short_none reply sent most short out = drop_all sent reply (omega (arith, short, out))

module _ {R K Place U Deed Event Reply : Type 0} (d : Driving R K Place U Deed Event Reply) where
  abbrev pub Held : Type 0
  Held = HeldEnd (Driven R K Place) Reply

  -- so far, where this was told
  pub record Feeding (stops : Bool) (event : Option Event) (old now : Held) (bytes buffer after : List ℕ)
      (told : PushedTold) : Type 0 where
    pub inside : told.taken ≤ length bytes
    pub written : List ℕ
    pub out : List ℕ
    pub takes : FrontTaken d (HasToldAlone stops event) old.end (first_bytes bytes told.taken) written now.end
    pub whole : waiting d old ++ written ≡ out ++ waiting d now
    pub first : length out < length (waiting d old) → told.taken ≡ 0
    pub in_time : (n : ℕ) → n < told.taken → BringsAtMost d (HasToldAlone stops None) old.end (first_bytes bytes n)
        (length out - length (waiting d old))
    pub roomy : 0 < told.taken → waiting d now ≢ [] → REPLY_ROOM ≤ now.sent
    pub replied : told.replied ≡ length out
    pub fits : told.replied ≤ length buffer
    pub put : after ≡ holds_front out buffer
    pub filled : waiting d now ≢ [] → told.replied ≡ length buffer
    pub plain : told ≡ pushed_told told.taken told.replied

  -- at first what waited is handed out
  pub feeding_start : (stops : Bool) (old new : Held) (bytes buffer after : List ℕ) (told counts : PushedTold)
      → told ≡ nothing_pushed → HandsOut d old new (filling told buffer) (filling counts after)
      → Feeding stops None old new bytes buffer after counts
  feeding_start stops old new bytes buffer after told counts fresh h =
      let none_more : 0 + length h.out ≡ length h.out = omega arith in
      let counts_is : counts ≡ pushed_told 0 (length h.out) =
      h.counted ∙ ap (λ (t : PushedTold). record t { replied = t.replied + length h.out }) fresh
      ∙ ap (λ (n : ℕ). pushed_told 0 n) none_more in
      let taken_is : counts.taken ≡ 0 = ap (λ (t : PushedTold). t.taken) counts_is in
      record {
        inside = omega (arith, taken_is);
        written = [];
        out = h.out;
        takes = subst (λ (n : ℕ). FrontTaken d (HasToldAlone stops None) old.end (first_bytes bytes n) [] new.end)
            (sym taken_is)
            (subst (λ (s : Driven R K Place). FrontTaken d (HasToldAlone stops None) old.end (first_bytes bytes 0) [] s)
            (sym (ap (λ (k : Held). k.end) h.sent))
            (takes_none d (HasToldAlone stops None) (λ s. refl) old.end bytes));
        whole = append-nil (waiting d old) ∙ h.whole;
        first = λ few. taken_is;
        in_time = λ n lt. absurd (omega (arith, lt, taken_is));
        roomy = λ some. absurd (omega (arith, some, taken_is));
        replied = ap (λ (t : PushedTold). t.replied) counts_is;
        fits = h.fits;
        put = h.put [] buffer (sym (ap (λ (t : PushedTold). t.replied) fresh)) refl;
        filled = h.filled;
        plain = subst (λ (t : PushedTold). t ≡ pushed_told t.taken t.replied) (sym counts_is) refl;
      }

  -- where nothing waits all that was written is out
  all_out : (stops : Bool) (old now : Held) (bytes buffer after : List ℕ) (told : PushedTold)
      (f : Feeding stops None old now bytes buffer after told) → waiting d now ≡ [] → waiting d old ++ f.written ≡ f.out
  all_out stops old now bytes buffer after told f none =
      f.whole ∙ ap (λ (l : List ℕ). f.out ++ l) none ∙ append-nil f.out

  -- what is at most so long is at most longer
  brings_more : (IsTold : List Event → Type 0) (old : Driven R K Place) (bytes : List ℕ) (n few most : ℕ) → few ≤ most
      → BringsAtMost d IsTold old (first_bytes bytes n) few → BringsAtMost d IsTold old (first_bytes bytes n) most
  brings_more IsTold old bytes n few most le b = λ before items side l.
      (let g = b before items side l in (g.0, g.1, g.2, g.3, omega (arith, le, g.4)))

  -- more was written, and handed out as far as there was room
  pub feeding_on : (stops : Bool) (event : Option Event) (old now fed new : Held) (bytes buffer after last : List ℕ)
      (told plus counts : PushedTold) (used : ℕ) (f : Feeding stops None old now bytes buffer after told)
      → waiting d now ≡ [] → fed.sent ≡ 0 → REPLY_ROOM ≤ length after - told.replied
      → plus ≡ record told { taken = told.taken + used } → told.taken + used ≤ length bytes
      → FrontTaken d (HasToldAlone stops event) old.end (first_bytes bytes (told.taken + used))
      (f.written ++ waiting d fed) fed.end
      → ((j : ℕ) → j < used → AtDriver d now.end (λ b its s. AreSilent d b its s (take j (drop told.taken bytes))))
      → HandsOut d fed new (filling plus after) (filling counts last)
      → Feeding stops event old new bytes buffer last counts
  feeding_on stops event old now fed new bytes buffer after last told plus counts used f none begun room plus_is within
      takes silent h =
      let size : length after ≡ length buffer = omega (
        arith,
        ap (λ (l : List ℕ). length l) f.put,
        length-append f.out (drop (length f.out) buffer),
        length-drop (length f.out) buffer,
        f.replied,
        f.fits,
      ) in
      let all = all_out stops old now bytes buffer after told f none in
      let counts_is : counts ≡ pushed_told (told.taken + used) (told.replied + length h.out) =
      h.counted ∙ ap (λ (t : PushedTold). record t { replied = t.replied + length h.out }) plus_is
      ∙ ap (λ (t : PushedTold). record t { taken = told.taken + used; replied = told.replied + length h.out }) f.plain in
      let out_is : length (waiting d old) + length f.written ≡ length f.out =
      sym (length-append (waiting d old) f.written) ∙ ap (λ (l : List ℕ). length l) all in
      let taken_is : counts.taken ≡ told.taken + used = ap (λ (t : PushedTold). t.taken) counts_is in
      let replied_is : counts.replied ≡ told.replied + length h.out = ap (λ (t : PushedTold). t.replied) counts_is in
      record {
        inside = omega (arith, taken_is, within);
        written = f.written ++ waiting d fed;
        out = f.out ++ h.out;
        takes = subst (λ (n : ℕ). FrontTaken d (HasToldAlone stops event) old.end (first_bytes bytes n)
            (f.written ++ waiting d fed) new.end) (sym taken_is)
            (subst (λ (s : Driven R K Place). FrontTaken d (HasToldAlone stops event) old.end
            (first_bytes bytes (told.taken + used)) (f.written ++ waiting d fed) s)
            (sym (ap (λ (k : Held). k.end) h.sent)) takes);
        whole = sym (append_assoc (waiting d old) f.written (waiting d fed))
            ∙ ap (λ (l : List ℕ). l ++ waiting d fed) all
            ∙ ap (λ (l : List ℕ). f.out ++ l) h.whole ∙ sym (append_assoc f.out h.out (waiting d new));
        first = λ few. absurd (omega (arith, few, length-append f.out h.out, out_is));
        in_time = λ n lt. elim (cases_lt n told.taken) [
          | inl less ↦ brings_more (HasToldAlone stops None) old.end bytes n _ _
              (omega (arith, length-append f.out h.out)) (f.in_time n less)
          | inr ge ↦ subst (λ (z : ℕ). BringsAtMost d (HasToldAlone stops None) old.end (first_bytes bytes z)
              (length (f.out ++ h.out) - length (waiting d old))) (omega (arith, ge))
              (brings_at_most d (HasToldAlone stops None) old.end now.end bytes told.taken
              (n - told.taken) f.written _ f.takes (silent (n - told.taken) (omega (arith, ge, lt, taken_is)))
              (omega (arith, out_is, length-append f.out h.out)))
        ];
        roomy = λ _ some. (let full = h.filled some in
            omega (arith, full, replied_is, room, begun, ap (λ (k : Held). k.sent) h.sent));
        replied = omega (arith, replied_is, f.replied, length-append f.out h.out);
        fits = omega (arith, h.fits, size);
        put = h.put f.out buffer (sym f.replied ∙ sym (ap (λ (t : PushedTold). t.replied) plus_is)) f.put;
        filled = λ some. h.filled some ∙ size;
        plain = subst (λ (t : PushedTold). t ≡ pushed_told t.taken t.replied) (sym counts_is) refl;
      }

  module _ (stops : Bool) (event : Option Event) (old now : Held) (bytes buffer after : List ℕ) (told : PushedTold)
      (f : Feeding stops event old now bytes buffer after told) (plain : stops ≡ false → event ≡ None)
      (some : IsSome event → 0 < told.taken) where
    -- it ends where something waits
    pub ends_waiting : waiting d now ≢ [] → IsPush d stops event bytes (crossed buffer after NoRoom told) old now
    ends_waiting waits = record {
      counted = f.inside;
      fed = told.taken;
      written = f.written;
      out = f.out;
      before = now;
      takes = f.takes;
      plain = plain;
      some = some;
      whole = f.whole;
      first = f.first;
      in_time = f.in_time;
      roomy = f.roomy;
      replied = f.replied;
      fits = f.fits;
      put = f.put;
      waits = λ _. (refl, f.plain ∙ ap (λ (n : ℕ). pushed_told told.taken n) (f.filled waits), refl);
      ends = λ none. absurd (waits none);
    }

    -- or where nothing does
    pub ends_plainly : (new : Held) (status : Status) (last : PushedTold) → waiting d now ≡ [] → waiting d new ≡ []
        → last.taken ≤ length bytes → last.replied ≡ told.replied
        → IsPushEnd d (first_bytes bytes told.taken) event (crossed buffer after status last) now new
        → IsPush d stops event bytes (crossed buffer after status last) old new
    ends_plainly new status last none still inside same ends = record {
      counted = inside;
      fed = told.taken;
      written = f.written;
      out = f.out;
      before = now;
      takes = f.takes;
      plain = plain;
      some = some;
      whole = f.whole;
      first = f.first;
      in_time = f.in_time;
      roomy = f.roomy;
      replied = same ∙ f.replied;
      fits = omega (arith, same, f.fits);
      put = f.put;
      waits = λ waits. absurd (waits none);
      ends = λ _. (still, ends);
    }

    -- it ends with the last byte, or at what is told
    pub ends_well : (status : Status) → (waiting d now ≡ [] → status ≡ Done) → (waiting d now ≢ [] → status ≡ NoRoom)
        → (IsSome event ⊎ (length bytes ≤ told.taken))
        → IsPush d stops event bytes (crossed buffer after status told) old now
    ends_well status done waits enough = go (waiting d now) refl
      where
        no_more : told.taken < length bytes → event ≡ None → ⊥
        no_more more none = elim enough [
          | inl s ↦ cc (subst (λ (e : Option Event). IsSome e) none s)
          | inr all ↦ absurd (omega (arith, all, more))
        ]

        go : (l : List ℕ) → waiting d now ≡ l → IsPush d stops event bytes (crossed buffer after status told) old now
        go [] none = ends_plainly now status told none none f.inside refl (record {
          all = λ _. (done none, f.plain, refl);
          tells = λ _. (done none, f.plain, refl);
          crowded = λ more untold _. absurd (no_more more untold);
          refused = λ more untold _. absurd (no_more more untold);
        })
        go (x ∷ xs) some = let left : waiting d now ≢ [] = λ none. cc (some, none) in
            subst (λ (s : Status). IsPush d stops event bytes (crossed buffer after s told) old now)
            (sym (waits left)) (ends_waiting left)

  -- where replies are short nothing waits
  pub stays_none : (stops : Bool) (event : Option Event) (bytes : List ℕ) (call : Crossed PushedTold) (old new : Held)
      → IsPush d stops event bytes call old new → length (d.does.written new.end.reacts new.reply) ≤ REPLY_ROOM
      → waiting d old ≡ [] → waiting d new ≡ []
  stays_none stops event bytes call old new p short fresh = go (waiting d p.before) refl
    where
      go : (l : List ℕ) → waiting d p.before ≡ l → waiting d new ≡ []
      go [] none = (p.ends none).0
      go (x ∷ xs) some =
          let left : waiting d p.before ≢ [] = λ none. cc (some, none) in
          let same : new ≡ p.before = (p.waits left).2 in
          elim (cases_lt 0 p.fed) [
            | inl lt ↦ short_none (d.does.written new.end.reacts new.reply) new.sent REPLY_ROOM short
                (subst (λ (h : Held). REPLY_ROOM ≤ h.sent) (sym same) (p.roomy lt left))
            | inr ge ↦ absurd (left (nil_from_length (waiting d p.before) (omega (
              arith,
              ap (λ (l : List ℕ). length l) p.whole,
              length-append (waiting d old) p.written,
              length-append p.out (waiting d p.before),
              ap (λ (l : List ℕ). length l) fresh,
              ap (λ (l : List ℕ). length l) (p.takes.none (omega (arith, ge))).1,
            ))))
          ]
