use Rattle.ws_lasting.proofs.Common as C
use C.{◌≡◌, ℕ, List, [], ◌∷◌, ◌++◌, refl, sym, ap, ◌∙◌, inl, inr, subst, subst₂, length, arith, ◌≤◌, ◌+◌, Option, None}
use C.{Ok, map, length-append, drop, Rules, IsPrefixFree, IsSpelled, Push, More, Whole, Bad, Reason, SpellsBytes}
use C.{Begins, CanEnd, cut_ends, same_last, token_rules, telnet_spelling, Telnet, Token, Data, Eor, TelnetToken}
use C.{telnet_bytes, EnvironState, plain_spelling, Holds, BeginsList, CanBeFramed, IsRefused, Item, RecordItem}
use C.{TelnetItem, holds_data, holds_more, holds_command, holds_record, GoesOn, Applied, EndStep, At, GoesOnAt, IsWhy}
use C.{DisplayOf, EndStateOn, on_display, takes_on, ReachedOn, PartsOn, station_driving, IsCounted, LastingParts}
use C.{LastingStep, IsFollowed, IsReading, StandsAt, IsWordHeard, environ_after, reply_to, IsWordRefused, Footing}
use C.{IsTokenStep, IsUnfit, RecordCounts, RefusedRecord, counted_none}
use Rattle.ws_lasting.proofs.Holdings.{one_holds, ended, no_more, unfit, not_inside}
use Rattle.ws_lasting.proofs.Passing.{stands_reading}

-- What comes of a byte where a record is read.

pub plain_tokens : {Place U : Type 0} (rules : Rules Place U) (ts : List Telnet)
    → plain_spelling rules (map TelnetItem ts)
    ≡ telnet_bytes ts
plain_tokens rules [] = refl
plain_tokens rules (t ∷ ts) = ap (λ z. telnet_spelling t ++ z) (plain_tokens rules ts)

pub gone_parts : {S W : Type 0} (a b : S) (v w : W) → GoesOn a v ≡ GoesOn b w → (a ≡ b) × (v ≡ w)
gone_parts a b v w e = (cc, cc)

module _ {D P U H PlaceV V K R : Type 0} (rules : Rules P U) (d : DisplayOf D U H PlaceV V K R)
    (free : IsPrefixFree rules) (begins : Begins rules) where
  -- what has come to a station that reads
  module _ (can : CanEnd rules) (old : PartsOn D P) (taken : ℕ) (at : Footing H)
      (r : IsReading (on_display rules d) old taken at) where
    pub held_so : Holds rules r.bytes r.items at.so_far at.begun
    held_so = subst₂ (λ x y. Holds rules r.bytes r.items x y) r.is_open r.is_begun r.reached.reached.holds

    pub fits_so : CanBeFramed at.so_far × BeginsList rules (drop 10 at.so_far)
    fits_so =
        let ends = cut_ends rules can _ _ _ r.reached.reached.reads.cut in (
          subst CanBeFramed r.is_open r.reached.reached.reads.framed,
          subst (λ x. BeginsList rules (drop 10 x)) r.is_open
              (record { units = ends.0; more = ends.1; whole = ends.2; spelled = ends.3 }),
        )

  -- a byte comes after these, which hold such whole, where the station stands there
  module _ (before : List ℕ) (whole : List (Item U)) (at : Footing H)
      (held : Holds rules before whole at.so_far at.begun) (b : ℕ) where
    -- the byte isn't refused
    module _ (mid : LastingParts D P) (passing : mid.passing ≡ None) (works : mid.ended ≡ None)
        (named : mid.environ ≡ at.environ) (few : length before + 1 ≤ mid.taken) (size : mid.size ≡ length at.so_far)
        (here : ℕ) (gave : EndStep Applied R)
      where
        -- the station is led so far
        reads_on : (next : EndStateOn H) (others : List (Item U)) (left : List ℕ) (n : ℕ) (o : Option RefusedRecord)
            (counts : RecordCounts) {environ named_so : Option EnvironState} (answered : List ℕ) → environ ≡ named_so
            → (l : ReachedOn (on_display rules d) mid.station (before ++ b ∷ []) others next) → l.so_far.bytes ≡ left
            → mid.station.live.begun ≡ mid.begun → o ≡ None → n ≡ length left
            → StandsAt (on_display rules d) (record mid {
              size = n;
              passing = o;
              counts = counts;
              environ = environ;
              environ_reply = answered;
            }) (record { state = next; environ = named_so; so_far = left; begun = mid.begun })
        reads_on next others left n o counts {environ} answered same l is_open is_begun none long =
            stands_reading rules d (record mid {
              size = n;
              passing = o;
              counts = counts;
              environ = environ;
              environ_reply = answered;
            }) _ works refl same none (record {
              bytes = before ++ b ∷ [];
              items = others;
              reached = l;
              is_open = is_open;
              is_begun = is_begun;
              few = omega (arith, few, length-append before (b ∷ []));
            }) long

        pub heard : (new : LastingParts D P) (step : LastingStep R) (word : Push Token)
            → IsTokenStep at.begun b mid.begun word
            → GoesOnAt (station_driving (on_display rules d)) mid.station (before ++ b ∷ []) whole at.state gave
            → IsFollowed (on_display rules d) mid new word gave.reply step
            → ((reason : Reason) → word ≡ Bad reason → ⊥)
            → IsWordHeard (on_display rules d) mid.counts new at here word (Ok step)
        heard new step More token (inl s) f other =
            let same = one_holds rules free begins (holds_more rules held (b ∷ []) token.1) s.0.reached.holds in
            rw (f.0, f.1) (
              record at { begun = mid.begun },
              (refl, refl, refl, s.1, refl),
              reads_on at.state whole at.so_far mid.size mid.passing mid.counts mid.environ_reply named s.0 (sym same.1)
                  (sym same.2 ∙ sym token.0) passing size,
              counted_none mid.counts,
            )
        heard new step More token (inr t) f other =
            let same = one_holds rules free begins (holds_more rules held (b ∷ []) token.1) t.6.reached.holds in
            absurd (no_more rules free begins whole t.0 same.0)
        heard new step (Whole (Data v)) token (inl s) f other =
            let same = one_holds rules free begins (holds_data rules held b v token.1) s.0.reached.holds in
            rw (f.0, f.1) (
              record at { so_far = at.so_far ++ v ∷ []; begun = mid.begun },
              (refl, refl, refl, s.1, refl),
              reads_on at.state whole (at.so_far ++ v ∷ []) (mid.size + 1) mid.passing mid.counts mid.environ_reply
                  named s.0 (sym same.1)
                  (sym same.2 ∙ sym token.0) passing (omega (arith, size, length-append at.so_far (v ∷ []))),
              counted_none mid.counts,
            )
        heard new step (Whole (Data v)) token (inr t) f other =
            let same = one_holds rules free begins (holds_data rules held b v token.1) t.6.reached.holds in
            absurd (no_more rules free begins whole t.0 same.0)
        heard new step (Whole (TelnetToken u)) token (inl s) f other =
            let same = one_holds rules free begins (holds_command rules held b u token.1) s.0.reached.holds in
            absurd (no_more rules free begins whole (TelnetItem u) (sym same.0))
        heard new step (Whole (TelnetToken u)) token (inr t) f other =
            let same = one_holds rules free begins (holds_command rules held b u token.1) t.6.reached.holds in
            let item = (same_last whole whole (TelnetItem u) t.0 same.0).1 in
            let gone = gone_parts _ _ _ _ (ap (takes_on d at.state) item ∙ t.3) in
            rw f.1 (
              record at { state = t.1; environ = environ_after at.environ u; begun = mid.begun },
              (
                sym gone.0,
                refl,
                refl,
                f.0.written at.state.options (t.4 ∙ ap (plain_spelling d.out) (sym gone.1) ∙ plain_tokens d.out _)
                    ∙ ap (λ e. telnet_bytes (reply_to at.state.options e u)) named,
                refl,
              ),
              subst (λ (z : LastingParts D P). StandsAt (on_display rules d) z
                  (record at { state = t.1; environ = environ_after at.environ u; begun = mid.begun }))
                  (sym f.0.same)
                  (reads_on t.1 (whole ++ t.0 ∷ []) at.so_far mid.size mid.passing mid.counts new.environ_reply
                  (ap (λ e. environ_after e u) named) t.6 (sym same.1) (sym same.2 ∙ sym token.0) passing size),
              subst (λ (z : LastingParts D P). IsCounted mid.counts [] z.counts) (sym f.0.same)
                  (counted_none mid.counts),
            )
        heard new step (Whole Eor) token (inl s) f other =
            let r' = ended rules free begins held b token.1 s.0.reached.holds in
            let same = one_holds rules free begins (holds_record rules held b r'.0 token.1 r'.1 r'.2)
            s.0.reached.holds in absurd (no_more rules free begins whole (RecordItem r'.0) (sym same.0))
        heard new step (Whole Eor) token (inr t) f other =
            let r' = ended rules free begins held b token.1 t.6.reached.holds in
            let same = one_holds rules free begins (holds_record rules held b r'.0 token.1 r'.1 r'.2)
            t.6.reached.holds in
            let item = (same_last whole whole (RecordItem r'.0) t.0 same.0).1 in
            rw (f.1, f.3) (
              record at { state = t.1; so_far = []; begun = mid.begun },
              (refl, refl, inl ((r'.0, r'.1, r'.2, t.2, ap (takes_on d at.state) item ∙ t.3, t.4), refl)),
              reads_on t.1 (whole ++ t.0 ∷ []) [] 0 None f.0 mid.environ_reply named t.6 (sym same.1)
                  (sym same.2 ∙ sym token.0) refl refl,
              f.2,
            )
        heard new step (Bad reason) token g f other = absurd (other reason refl)

    -- the byte is refused, or its item; before with which a record may begin are before it
    module _ (can : CanEnd rules) (law : SpellsBytes rules) (reason : Reason) (place : ℕ)
        (why : IsWhy (station_driving (on_display rules d)) (At place reason) (before ++ b ∷ []) whole at.state)
        (fits : IsRefused rules (before ++ b ∷ []) place reason → CanBeFramed at.so_far
        × BeginsList rules (drop 10 at.so_far))
      where
        here_is : place ≡ length before
        here_is = let n = why.0 in omega (arith, n, length-append before (b ∷ []))

        unfit_so : (t : Token) → IsSpelled token_rules tt (at.begun ++ b ∷ []) t
            → IsRefused rules (before ++ b ∷ []) place reason → IsUnfit rules at.so_far t reason
        unfit_so t s q =
            unfit rules free begins can law held (fits q).0 (fits q).1 b reason place here_is q t s

        pub judged : (left : List ℕ) (word : Push Token) → IsTokenStep at.begun b left word
            → ((other : Reason) → word ≡ Bad other → ⊥) → IsWordRefused (on_display rules d) at word reason
        judged left More t other = elim why.1 [
          | inl q ↦ not_inside rules free begins can law held (fits q).0 (fits q).1 b reason place here_is q t.1
          | inr q ↦ no_more rules free begins whole q.item (one_holds rules free begins
              (holds_more rules held (b ∷ []) t.1) q.holds.2).0
        ]
        judged left (Whole (Data v)) t other = elim why.1 [
          | inl q ↦ ((fits q).0, (fits q).1, unfit_so (Data v) t.1 q)
          | inr q ↦ absurd (no_more rules free begins whole q.item (one_holds rules free begins
              (holds_data rules held b v t.1) q.holds.2).0)
        ]
        judged left (Whole (TelnetToken u)) t other = elim why.1 [
          | inl q ↦ unfit_so (TelnetToken u) t.1 q
          | inr q ↦ (let same = one_holds rules free begins (holds_command rules held b u t.1) q.holds.2 in
              let item = (same_last whole whole (TelnetItem u) q.item same.0).1 in
              let e = ap (takes_on d at.state) item ∙ q.so in cc)
        ]
        judged left (Whole Eor) t other = elim why.1 [
          | inl q ↦ inl (unfit_so Eor t.1 q)
          | inr q ↦ (let r' = ended rules free begins held b t.1 q.holds.2 in
              let same = one_holds rules free begins (holds_record rules held b r'.0 t.1 r'.1 r'.2) q.holds.2 in
              let item = (same_last whole whole (RecordItem r'.0) q.item same.0).1 in
              inr (inl (r'.0, r'.1, r'.2, ap (takes_on d at.state) item ∙ q.so)))
        ]
        judged left (Bad bad) t other = absurd (other bad refl)
