use Rattle.ws_lasting.proofs.Common as C
use C.{◌≡◌, ℕ, List, [], ◌∷◌, ◌++◌, None, refl, sym, ap, ◌∙◌, inl, inr, true, flat_map-append, map-append, Rules}
use C.{IsPrefixFree, IsSpelled, More, Whole, Begins, same_last, token_rules, Token, Data, Eor, TelnetToken}
use C.{item_spelling, plain_spelling, Holds, Item, RecordItem, TelnetItem, holds_data, holds_more, holds_command}
use C.{holds_record, Act, Came, Did, AllTaken, Happen, Happening, doing, Reaction, Refuses, GoesOn, goes_on, DisplayOf}
use C.{KeyReactionOn, EndStateOn, on_display, RefusesKey, Silent, Answers, Signals, at_key_on, key_on, takes_on}
use C.{applied_by, at_item_on, transitions_on, all_carried_out, Footing, IsAtByte, Lasts, CarriedOut}
use Rattle.ws_lasting.proofs.Holdings.{one_holds, ended, no_more}
use Rattle.ws_lasting.proofs.ReadingOn.{gone_parts, plain_tokens}
use Rattle.ws_lasting.proofs.TokenSteps.{token_step}

-- Where a station refuses no record, one that no record ends does as it.

module _ {D P U H PlaceV V K R : Type 0} (rules : Rules P U) (d : DisplayOf D U H PlaceV V K R)
    (free : IsPrefixFree rules) (begins : Begins rules) where
  abbrev Stood : EndStateOn H → List ℕ → List ℕ → Footing H
  Stood state so_far begun = record { state = state; environ = None; so_far = so_far; begun = begun }

  module _ {bytes : List ℕ} {items : List (Item U)} {so_far begun left over : List ℕ} (state : EndStateOn H) (b : ℕ)
      (h : Holds rules bytes items so_far begun) where
    -- the byte completes no item
    none_complete : Holds rules (bytes ++ b ∷ []) items left over
        → IsAtByte (on_display rules d) (Stood state so_far begun) b (Stood state left over) [] []
    none_complete k = elim (token_step b h.cut k.cut) [
      | inl m ↦ (let same = one_holds rules free begins (holds_more rules h (b ∷ []) m.1) k in
          (More, (m.0, m.1), (refl, refl, sym same.1, refl, refl)))
      | inr t ↦ by t.0 t.1 t.2
    ] where
      by : (t : Token) → over ≡ [] → IsSpelled token_rules tt (begun ++ b ∷ []) t
          → IsAtByte (on_display rules d) (Stood state so_far begun) b (Stood state left over) [] []
      by (Data v) none s =
          let same = one_holds rules free begins (holds_data rules h b v s) k in
          (Whole (Data v), (none, s), (refl, refl, sym same.1, refl, refl))
      by (TelnetToken u) none s =
          let same = one_holds rules free begins (holds_command rules h b u s) k in
          absurd (no_more rules free begins items (TelnetItem u) (sym same.0))
      by Eor none s =
          let r = ended rules free begins h b s k in
          let same = one_holds rules free begins (holds_record rules h b r.0 s r.1 r.2) k in
          absurd (no_more rules free begins items (RecordItem r.0) (sym same.0))

    -- the byte completes one, at which the station goes on so
    one_complete : (item : Item U) → Holds rules (bytes ++ b ∷ []) (items ++ item ∷ []) left over
        → (next : EndStateOn H) (writes : List (Item V)) → takes_on d state item ≡ GoesOn next writes
        → IsAtByte (on_display rules d) (Stood state so_far begun) b (Stood next left over)
        (plain_spelling d.out writes) (all_carried_out (applied_by item))
    one_complete item k next writes goes = elim (token_step b h.cut k.cut) [
      | inl m ↦ (let same = one_holds rules free begins (holds_more rules h (b ∷ []) m.1) k in
          absurd (no_more rules free begins items item same.0))
      | inr t ↦ by t.0 t.1 t.2 item k goes
    ] where
      by : (t : Token) → over ≡ [] → IsSpelled token_rules tt (begun ++ b ∷ []) t → (item : Item U)
          → Holds rules (bytes ++ b ∷ []) (items ++ item ∷ []) left over → takes_on d state item ≡ GoesOn next writes
          → IsAtByte (on_display rules d) (Stood state so_far begun) b (Stood next left over)
          (plain_spelling d.out writes) (all_carried_out (applied_by item))
      by (Data v) none s item k goes =
          let same = one_holds rules free begins (holds_data rules h b v s) k in
          absurd (no_more rules free begins items item same.0)
      by (TelnetToken u) none s item k goes =
          let same = one_holds rules free begins (holds_command rules h b u s) k in
          let is : TelnetItem u ≡ item = (same_last items items (TelnetItem u) item same.0).1 in
          let gone = gone_parts _ _ _ _ (ap (takes_on d state) is ∙ goes) in (
            Whole (TelnetToken u),
            (none, s),
            (
              sym gone.0,
              refl,
              sym same.1,
              ap (plain_spelling d.out) (sym gone.1) ∙ plain_tokens d.out _,
              ap (λ (i : Item U). all_carried_out (applied_by i)) (sym is),
            ),
          )
      by Eor none s item k goes =
          let r = ended rules free begins h b s k in
          let same = one_holds rules free begins (holds_record rules h b r.0 s r.1 r.2) k in
          let is : RecordItem r.0 ≡ item = (same_last items items (RecordItem r.0) item same.0).1 in (
            Whole Eor,
            (none, s),
            (
              refl,
              sym same.1,
              inl (
                (r.0, r.1, r.2, writes, ap (takes_on d state) is ∙ goes, refl),
                ap (λ (i : Item U). all_carried_out (applied_by i)) (sym is),
              ),
            ),
          )

  -- a key tells nothing
  key_untold : (state : EndStateOn H) (r : KeyReactionOn H) → (at_key_on d state r).events ≡ []
  key_untold state (RefusesKey fault) = refl
  key_untold state (Silent next) = refl
  key_untold state (Answers next kind aid) = refl
  key_untold state (Signals opcode flags) = refl

  -- what a station does at what happens, one that no record ends does at the acts
  pub as_station : (acts : List (Act K)) (bytes : List ℕ) (items : List (Item U)) (state : EndStateOn H)
      (so_far begun : List ℕ) → Holds rules bytes items so_far begun → (hs : List (Happening U K))
      → Happen rules bytes items acts hs → AllTaken (transitions_on d) state hs → (next : Footing H)
      × Lasts (on_display rules d) (Stood state so_far begun) acts next
      (plain_spelling d.out (doing (transitions_on d) state hs).written)
      (all_carried_out (doing (transitions_on d) state hs).events)
  as_station [] bytes items state so_far begun h hs happen taken =
      rw happen (Stood state so_far begun, (refl, refl, refl))
  as_station (Did key ∷ acts) bytes items state so_far begun h hs happen taken =
      let done = at_key_on d state (key_on d state key) in
      let rest = as_station acts bytes items done.state so_far begun h happen.0 happen.2 (rw happen.1 at taken).1 in
      let both = doing (transitions_on d) done.state happen.0 in
      rw happen.1 (
        rest.0,
        (
          plain_spelling d.out both.written,
          rw (key_untold state (key_on d state key)) rest.1,
          flat_map-append (item_spelling d.out) done.written both.written,
        ),
      )
  as_station (Came b ∷ acts) bytes items state so_far begun h hs (inl p) taken =
      let rest = as_station acts (bytes ++ b ∷ []) items state p.0.0 p.0.1 p.0.2 hs p.1 taken in
      (rest.0, (Stood state p.0.0 p.0.1, [], _, [], _, none_complete state b h p.0.2, rest.1, refl, refl))
  as_station (Came b ∷ acts) bytes items state so_far begun h hs (inr p) taken =
      rw p.3 (arrives (takes_on d state p.0) refl (rw p.3 at taken).0 (rw p.3 at taken).1
      (λ next t. as_station acts (bytes ++ b ∷ []) (items ++ p.0 ∷ []) next p.2.0 p.2.1 p.2.2 p.1 p.4 t)) where
        arrives : (r : Reaction (EndStateOn H) (List (Item V))) → takes_on d state p.0 ≡ r
            → goes_on (takes_on d state p.0) ≡ true
            → AllTaken (transitions_on d) (at_item_on d state p.0 (takes_on d state p.0)).state p.1
            → ((next : EndStateOn H) → AllTaken (transitions_on d) next p.1 → (last : Footing H)
            × Lasts (on_display rules d) (Stood next p.2.0 p.2.1) acts last
            (plain_spelling d.out (doing (transitions_on d) next p.1).written)
            (all_carried_out (doing (transitions_on d) next p.1).events))
            → (next : Footing H) × Lasts (on_display rules d) (Stood state so_far begun) (Came b ∷ acts) next
            (plain_spelling d.out ((at_item_on d state p.0 (takes_on d state p.0)).written
            ++ (doing (transitions_on d) (at_item_on d state p.0 (takes_on d state p.0)).state p.1).written))
            (all_carried_out ((at_item_on d state p.0 (takes_on d state p.0)).events
            ++ (doing (transitions_on d) (at_item_on d state p.0 (takes_on d state p.0)).state p.1).events))
        arrives (Refuses reason) is goes taken rest_from = (let no = rw is at goes in cc)
        arrives (GoesOn next writes) is goes taken rest_from =
            let rest = rest_from next (rw is at taken) in
            let then = doing (transitions_on d) next p.1 in
            rw is (
              rest.0,
              (
                Stood next p.2.0 p.2.1,
                plain_spelling d.out writes,
                plain_spelling d.out then.written,
                all_carried_out (applied_by p.0),
                all_carried_out then.events,
                one_complete state b h p.0 p.2.2 next writes is,
                rest.1,
                flat_map-append (item_spelling d.out) writes then.written,
                map-append (λ applied. CarriedOut) (applied_by p.0) then.events,
              ),
            )
