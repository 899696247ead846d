use Rattle.ws_lasting.proofs.Common as C
use C.{◌≡◌, ℕ, List, [], ◌∷◌, ◌++◌, refl, sym, ap, ap₂, ◌∙◌, inl, inr, subst, append_assoc, length, arith, Option, Some}
use C.{None, Ok, true, false, Bool, ◌&&◌, Rules, IsPrefixFree, More, Whole, Begins, Telnet, Data, Eor, TelnetToken}
use C.{telnet_bytes, station_answer, station_allows_records, holds_nothing, DisplayOf, EndStateOn, on_display}
use C.{ReachedOn, PartsOn, IsCounted, LastingParts, LastingStep, IsPassingOver, IsReading, IsReplied, IsWordHeard}
use C.{ReadsOrPasses, StandsAt, bytes_written, environ_after, reply_to, Footing, negative, IsSpoilt, Refused}
use C.{RefusedRecord, counted_none}
use Rattle.ws_lasting.proofs.Holdings.{one_holds}

-- What comes of a byte where a record is passed over.

both_true : (a b : Bool) → a ≡ true → b ≡ true → (a && b) ≡ true
both_true true b e f = f
both_true false b e f = cc

module _ {D P U H PlaceV V K R : Type 0} (rules : Rules P U) (d : DisplayOf D U H PlaceV V K R) where
  -- a station to which no byte has come reads
  pub reads_anew : IsPrefixFree rules → Begins rules → (station : PartsOn D P) (taken : ℕ) (at : Footing H)
      → at.so_far ≡ [] → at.begun ≡ [] → ReachedOn (on_display rules d) station [] [] at.state
      → IsReading (on_display rules d) station taken at
  reads_anew free begins station taken at none between l =
      let same = one_holds rules free begins l.reached.holds (holds_nothing rules) in
      record {
        bytes = [];
        items = [];
        reached = l;
        is_open = same.1 ∙ sym none;
        is_begun = same.2 ∙ sym between;
        few = omega arith;
      }

  pub spoilt_more : (so_far more : List ℕ) (why : RefusedRecord) → IsSpoilt rules so_far why
      → IsSpoilt rules (so_far ++ more) why
  spoilt_more so_far more why s = record {
    front = s.front;
    byte = s.byte;
    rest = s.rest ++ more;
    split = ap (λ x. x ++ more) s.split ∙ append_assoc s.front (s.byte ∷ s.rest) more;
    at_place = s.at_place;
    framed = s.framed;
    begins = s.begins;
    unfit = s.unfit;
  }

  module _ (new : LastingParts D P) (at : Footing H) (works : new.ended ≡ None) (is_begun : new.begun ≡ at.begun)
      (is_environ : new.environ ≡ at.environ) where
    -- it passes over a record
    pub stands_passing : (why : RefusedRecord) → new.passing ≡ Some why
        → IsPassingOver (on_display rules d) new.station at why → StandsAt (on_display rules d) new at
    stands_passing why passing p = record {
      works = works;
      is_begun = is_begun;
      is_environ = is_environ;
      within = subst (λ (o : Option RefusedRecord). ReadsOrPasses (on_display rules d) new at o) (sym passing) p;
    }

    pub stands_reading : new.passing ≡ None → IsReading (on_display rules d) new.station new.taken at
        → new.size ≡ length at.so_far → StandsAt (on_display rules d) new at
    stands_reading passing p size = record {
      works = works;
      is_begun = is_begun;
      is_environ = is_environ;
      within = subst (λ (o : Option RefusedRecord). ReadsOrPasses (on_display rules d) new at o) (sym passing)
          (p, size);
    }

  -- what was answered leaves it so
  pub answered : (station : PartsOn D P) (state : EndStateOn H) (t : Telnet)
      → ReachedOn (on_display rules d) station [] [] state
      → ReachedOn (on_display rules d) (record station {
        reacts = record station.reacts { options = (station_answer station.reacts.options t).after };
      }) [] [] (record { options = (station_answer state.options t).after; happened = state.happened })
  answered station state t l = record {
    so_far = l.so_far;
    reached = l.reached;
    kept = l.kept;
    stands = record {
      options = ap (λ z. (station_answer z t).after) l.stands.options;
      given = l.stands.given;
      counted = l.stands.counted;
    };
    works = l.works;
  }

  -- at each word
  module _ (old : LastingParts D P) (at : Footing H) (why : RefusedRecord) (here : ℕ)
      (p : IsPassingOver (on_display rules d) old.station at why) (passing : old.passing ≡ Some why)
      (works : old.ended ≡ None) (named : old.environ ≡ at.environ) (step : LastingStep R) where
    module _ (silent : bytes_written (on_display rules d) old step.reply ≡ []) (untold : step.event ≡ None) where
      pub passes_more : IsWordHeard (on_display rules d) old.counts old at here More (Ok step)
      passes_more = rw untold (
        record at { begun = old.begun },
        (refl, refl, refl, silent, refl),
        stands_passing old _ works refl named why passing
            (record { reached = p.reached; of_record = p.of_record; spoilt = p.spoilt }),
        counted_none old.counts,
      )

      pub passes_data : (b : ℕ) → IsWordHeard (on_display rules d) old.counts old at here (Whole (Data b)) (Ok step)
      passes_data b = rw untold (
        record at { so_far = at.so_far ++ b ∷ []; begun = old.begun },
        (refl, refl, refl, silent, refl),
        stands_passing old _ works refl named why passing (record {
          reached = p.reached;
          of_record = p.of_record;
          spoilt = spoilt_more at.so_far (b ∷ []) why p.spoilt;
        }),
        counted_none old.counts,
      )

    pub passes_telnet : (mid new : LastingParts D P) (t : Telnet) (reply : R)
        → d.written mid.station.reacts.screen reply ≡ telnet_bytes (station_answer old.station.reacts.options t).reply
        → mid ≡ record old {
          station = record old.station {
            reacts = record old.station.reacts { options = (station_answer old.station.reacts.options t).after };
          };
        } → IsReplied (on_display rules d) mid new t reply step.reply → step.event ≡ None
        → IsWordHeard (on_display rules d) old.counts new at here (Whole (TelnetToken t)) (Ok step)
    passes_telnet mid new t reply written answers replied untold =
        let same = replied.same ∙ ap (λ (z : LastingParts D P). (record z {
          environ = environ_after z.environ t;
          environ_reply = new.environ_reply;
        })) answers in
        rw untold (
          record at {
            state = record { options = (station_answer at.state.options t).after; happened = at.state.happened };
            environ = environ_after at.environ t;
            begun = new.begun;
          },
          (
            refl,
            refl,
            refl,
            replied.written old.station.reacts.options written
                ∙ ap₂ (λ z e. telnet_bytes (reply_to z e t)) p.reached.stands.options
                (ap (λ (z : LastingParts D P). z.environ) answers ∙ named),
            refl,
          ),
          stands_passing new _ (ap (λ (z : LastingParts D P). z.ended) same ∙ works) refl
              (ap (λ (z : LastingParts D P). z.environ) same ∙ ap (λ e. environ_after e t) named) why
              (ap (λ (z : LastingParts D P). z.passing) same ∙ passing) (record {
                reached = subst (λ (z : PartsOn D P). ReachedOn (on_display rules d) z [] []
                    (record { options = (station_answer at.state.options t).after; happened = at.state.happened }))
                    (sym (ap (λ (z : LastingParts D P). z.station) same)) (answered old.station at.state t p.reached);
                of_record = p.of_record;
                spoilt = p.spoilt;
              }),
          subst (λ (z : LastingParts D P). IsCounted old.counts [] z.counts) (sym same) (counted_none old.counts),
        )

    pub passes_eor : IsPrefixFree rules → Begins rules → (new : LastingParts D P)
        → station_allows_records old.station.reacts.options ≡ true
        → old.begun ≡ [] → bytes_written (on_display rules d) new step.reply ≡ negative why.reason
        → step.event ≡ Some (Refused why)
        → new ≡ record old { size = 0; passing = None; counts = new.counts; refused_at = Some old.passing_from }
        → IsCounted old.counts (Refused why ∷ []) new.counts
        → IsWordHeard (on_display rules d) old.counts new at here (Whole Eor) (Ok step)
    passes_eor free begins new allows between written told same counted = rw told (
      record at { so_far = []; begun = new.begun },
      (
        refl,
        refl,
        inr (
          refl,
          why,
          both_true _ _ p.of_record (ap station_allows_records (sym p.reached.stands.options) ∙ allows),
          inl p.spoilt,
          written,
          refl,
        ),
      ),
      stands_reading new _ (ap (λ (z : LastingParts _ _). z.ended) same ∙ works) refl
          (ap (λ (z : LastingParts _ _). z.environ) same ∙ named)
          (ap (λ (z : LastingParts _ _). z.passing) same)
          (reads_anew free begins new.station new.taken _ refl (ap (λ (z : LastingParts _ _). z.begun) same ∙ between)
          (subst (λ (z : PartsOn D P). ReachedOn (on_display rules d) z [] [] at.state)
          (sym (ap (λ (z : LastingParts _ _). z.station) same)) p.reached))
          (ap (λ (z : LastingParts _ _). z.size) same),
      counted,
    )
