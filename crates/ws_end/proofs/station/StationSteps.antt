-- What a station does at an item.

use Rattle.ws_end.proofs.Common as C
use C.{◌&&◌, not, ◌≡◌, ◌+◌, List, [], ◌∷◌, ◌++◌, refl, ◌∙◌, ℕ, Some, None, Option, ap, sym, arith, ◌^◌, min}
use C.{if◌then◌else◌, Bool, true, false, map, ◌-◌, Err, Ok, Result, Rules, RecordBeforeNegotiation, telnet_spelling}
use C.{Telnet, telnet_bytes, station_allows_records, station_answer, record_of, plain_spelling, Head, Item, RecordItem}
use C.{TelnetItem, Read, Attention, SystemRequest, KeyRefusal, Refuses, KeyFault, NotReady, RefusesKey, IsReaction}
use Rattle.ws_keys.specs.declared.answer.Answer.{Answer}
use Rattle.ws_end.specs.declared.station.key_fault.KeyFault.TheVariants.{Key as Refused}
use Rattle.ws_end.specs.station.Displays.{DisplayOf, EndStateOn, IsApplied, IsPressedOnDisplay, ComesTo, on_display}
use Rattle.ws_end.specs.station.StationTransitions.{applied, takes_on, key_on}
use Rattle.ws_end.specs.station.StationReacting.{PartsOn, StationKept, StationStands, station_puts, station_reacting}
use Rattle.ws_end.specs.station.Stations.{ReachedOn, IsKeyedOn}
use Rattle.ws_end.proofs.RecordCounts.{records_append}

pub plain_tokens : {Place U : Type 0} (rules : Rules Place U) (ts : List Telnet)
    → plain_spelling rules (map TelnetItem ts) ≡ telnet_bytes ts
plain_tokens rules [] = refl
plain_tokens rules (t ∷ ts) = ap (λ z. telnet_spelling t ++ z) (plain_tokens rules ts)

module _ {D U H PlaceV V K R : Type 0} (d : DisplayOf D U H PlaceV V K R) (old : StationKept D) (items : List (Item U))
    (state : EndStateOn H) (h : StationStands d old items state) where
  -- a Telnet command is answered
  pub answered : (token : Telnet) (reply : R)
      → d.written old.screen reply ≡ telnet_bytes (station_answer old.options token).reply
      → IsReaction (station_reacting d) (record old { options = (station_answer old.options token).after })
      (items ++ TelnetItem token ∷ []) (station_puts {U = U} (TelnetItem token)) (takes_on d state (TelnetItem token))
      (Ok (record { reply = reply; event = None }))
  answered token reply written = (
    record { options = (station_answer state.options token).after; happened = state.happened },
    map TelnetItem (station_answer state.options token).reply,
    refl,
    written ∙ ap (λ z. telnet_bytes (station_answer z token).reply) h.options ∙ sym (plain_tokens d.out _),
    refl,
    record {
      options = ap (λ z. (station_answer z token).after) h.options;
      given = h.given;
      counted = grind (arith, h.counted, records_append items (TelnetItem token ∷ []));
    },
  )

  -- a record is carried out
  pub carried_out : (screen : D) (head : Head) (units : List U) (reply : R) (records : ℕ)
      → records ≡ min (old.records + 1) (2 ^ 64 - 1) → station_allows_records old.options ≡ true
      → IsApplied d screen state (record_of head units) (Ok reply)
      → IsReaction (station_reacting d) (record { options = old.options; screen = screen; records = records })
      (items ++ RecordItem (record_of head units) ∷ []) (station_puts (RecordItem (record_of head units)))
      (takes_on d state (RecordItem (record_of head units)))
      (Ok (record { reply = reply; event = Some applied }))
  carried_out screen head units reply records count allows a = (
    a.0,
    a.1,
    ap (λ (b : Bool). if b then d.applies state (record_of head units) else Refuses RecordBeforeNegotiation)
        (ap station_allows_records (sym h.options) ∙ allows) ∙ a.2,
    a.3,
    refl,
    record {
      options = h.options ∙ sym a.4;
      given = a.5;
      counted = omega (arith, count, h.counted, records_append items (RecordItem (record_of head units) ∷ []));
    },
  )

-- What a key makes of a station.

abbrev pub as_fault : Result (Option Answer) KeyRefusal → Result (Option Answer) KeyFault
as_fault (Ok answer) = Ok answer
as_fault (Err refusal) = Err (Refused refusal)

-- with another display
abbrev pub showing : {D P : Type 0} → PartsOn D P → D → PartsOn D P
showing old new = record old { reacts = record old.reacts { screen = new } }

module _ {D P U H PlaceV V K R : Type 0} (rules : Rules P U) (d : DisplayOf D U H PlaceV V K R) where
  module _ (old : PartsOn D P) (bytes : List ℕ) (items : List (Item U)) (state : EndStateOn H)
      (l : ReachedOn (on_display rules d) old bytes items state) where
    -- the station behind a key
    led_to : (new : D) (next : EndStateOn H) → ComesTo d new state next
        → ReachedOn (on_display rules d) (showing old new) bytes items next
    led_to new next c = record {
      so_far = l.so_far;
      reached = l.reached;
      kept = l.kept;
      stands = record { options = l.stands.options ∙ sym c.options; given = c.given; counted = l.stands.counted };
      works = l.works;
    }

    led_on : (new : D) → d.gives state.happened new
        → ReachedOn (on_display rules d) (showing old new) bytes items state
    led_on new given = led_to new state (record { options = refl; given = given })

    -- where it may send, it does as its display
    reacts : (key : K) → (d.sends key && not (station_allows_records old.reacts.options)) ≡ false
        → key_on d state key ≡ d.presses state key
    reacts key may = ap (λ (b : Bool). if b then RefusesKey NotReady else d.presses state key)
        (ap (λ o. d.sends key && not (station_allows_records o)) (sym l.stands.options) ∙ may)

    pub pressed : (key : K) → (d.sends key && not (station_allows_records old.reacts.options)) ≡ false → (new : D)
        (result : Result (Option Answer) KeyRefusal) → IsPressedOnDisplay d old.reacts.screen new state key result
        → IsKeyedOn (on_display rules d) old (showing old new) bytes items state key (as_fault result)
    pressed key may new (Ok None) p = (p.0, reacts key may ∙ p.1, led_to new p.0 p.2)
    pressed key may new (Ok (Some (Read body))) p =
        (p.0, p.1, p.2, reacts key may ∙ p.3, p.4, led_to new p.0 p.5)
    pressed key may new (Ok (Some Attention)) p = (reacts key may ∙ p.0, led_on new p.1)
    pressed key may new (Ok (Some SystemRequest)) p = (reacts key may ∙ p.0, led_on new p.1)
    pressed key may new (Err refusal) p = (reacts key may ∙ p.0, ap (showing old) p.1)
