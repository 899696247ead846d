-- A request, by what the transitions of its end do at it.

use Rattle.ws_end.proofs.Common as C
use Rattle.std.specs.Prelude.{MatchResult, OnErr}
use C.{◌≡◌, ◌+◌, List, [], ◌∷◌, ◌++◌, refl, subst, ◌∙◌, ℕ, ◌<◌, Option, Some, None, ap, sym, arith, ◌^◌, length, false}
use C.{Err, Ok, Result, subst₂, append-nil, Rules, WentOut, Fault, Write, plain_spelling, item_spelling}
use C.{record_spelling, header, CancelInvite, PutGet, Item, answer_rules, element_rules, AnswerPart, Element}
use C.{ScreenParts, ReadKind, Read, Key, Doing, Did, Happening, Does, doing, items_of, IsTrace, Transitions}
use C.{station_transitions, host_at_send, host_transitions, AttachedParts, HaveLed, HaveLedUnwritten, Applied}
use C.{HostRequest, SendFault, SendFailed, KeyFault, AtHost, HostReached, HostParts, IsSent, IsSendFault, HostEndState}
use C.{SendReaction, RefusesSend, StationParts, StationReached, StationEndState, TakesNoMore}
use C.{RefusesKey, KeyFailed, answer_record, Opcode, host_send, IsSome, ◌≢◌}
use Rattle.ws_code.specs.Device.{Devices}
use Rattle.ws_keys.specs.declared.answer.Answer.{Answer}
use Rattle.ws_code.specs.declared.fault.Fault.TheVariants.{Memory as NoMemory}
use Rattle.ws_end.specs.Behaviour.{Behaviour}
use Rattle.ws_end.specs.attached.Requests.{HasActed, HasDoneKey, HasDoneRequest, IfRefused, Judged, key_judged, request_judged}
use Rattle.ws_end.specs.EndTransitions.{IsSendWanting}
use Rattle.ws_end.specs.declared.attached.acted.Acted.{Acted}
use Rattle.ws_end.specs.declared.attached.acted.Acted.TheVariants.{Done, Refused}
use Rattle.ws_end.specs.declared.end_step.HostRequest.TheVariants.{Cancel, Send}
use Rattle.ws_end.specs.declared.end_step.Sent.{Sent}
use Rattle.ws_end.specs.host_end.HostReached.{CarriesOut, sent_bytes}
use Rattle.ws_end.specs.host_end.HostEndState.{host_requests}
use Rattle.ws_end.specs.declared.host_end.send_fault.SendFault.TheVariants.{Memory}
use Rattle.ws_end.specs.station.Displays.{DisplayOf, EndStateOn, KeyReactionOn, on_display}
use Rattle.ws_end.specs.station.AnswerSpelling.{sent_by}
use Rattle.ws_end.specs.station.StationTransitions.{at_key_on, key_on}
use Rattle.ws_end.specs.station.StationReacting.{PartsOn, transitions_on}
use Rattle.ws_end.specs.station.StationEndState.{profile}
use Rattle.ws_end.specs.station.Stations.{ReachedOn, IsKeyedOn}
use Rattle.ws_end.proofs.Shuts.{not_shut, shut_fails}
use Rattle.ws_end.specs.Acts.{protocol_of}

module _ {Place PlaceV State U V Request Event : Type 0} (rules : Rules Place U) (out : Rules PlaceV V)
    (transitions : Transitions State U V Request Event) (reached : List ℕ → List (Item U) → State → Type 0)
    (bytes : List ℕ) (items : List (Item U)) (state : State) (text : List ℕ) where
  -- it has written this text, told nothing, and come here
  abbrev pub Trace : Doing State V Event → Type 0
  Trace d = (text ≡ plain_spelling out d.written) × ([] ≡ d.events) × reached bytes items d.state

  pub request_trace : (request : Request) → Trace (transitions.at state (Does request))
      → IsTrace (protocol_of rules out transitions) reached bytes items state (Did request ∷ []) text []
  request_trace request p = record {
    happened = Does request ∷ [];
    happen = ([], refl, refl);
    taken = (tt, tt);
    wrote = p.0 ∙ sym (ap (plain_spelling out) (append-nil (transitions.at state (Does request)).written));
    tells = p.1 ∙ sym (append-nil (transitions.at state (Does request)).events);
    reached = rw (append-nil bytes, append-nil items) p.2;
  }

-- A key at a station.

-- what an answer is spelled as
abbrev pub SpellsOn : {D U H PlaceV V K R : Type 0} → DisplayOf D U H PlaceV V K R → Type 0
SpellsOn d = (screen : ScreenParts) (kind : ReadKind) (aid : ℕ)
    → plain_spelling d.out (d.answer screen kind aid ∷ [])
    ≡ plain_spelling answer_rules (answer_record screen kind aid ∷ [])

module _ {D P U H PlaceV V K R : Type 0} (rules : Rules P U) (d : DisplayOf D U H PlaceV V K R)
    (spells : SpellsOn d) where
  abbrev pub KeyTraceOn : PartsOn D P → List ℕ → List (Item U) → EndStateOn H → List ℕ → KeyReactionOn H → Type 0
  KeyTraceOn new bytes items state text z = Trace rules d.out (transitions_on d)
      (ReachedOn (on_display rules d) new) bytes items
      state
      text (at_key_on d state z)

  key_trace : (new : PartsOn D P) (bytes : List ℕ) (items : List (Item U)) (state : EndStateOn H) (key : K)
      (text : List ℕ) → KeyTraceOn new bytes items state text (key_on d state key)
      → IsTrace (protocol_of rules d.out (transitions_on d)) (ReachedOn (on_display rules d) new) bytes items state
      (Did key ∷ [])
      text []
  key_trace new bytes items state key text = request_trace _ _ _ _ bytes items state text key

  key_sends : (old new : PartsOn D P) (bytes : List ℕ) (items : List (Item U)) (state : EndStateOn H) (key : K)
      (answer : Option Answer) → IsKeyedOn (on_display rules d) old new bytes items state key (Ok answer)
      → KeyTraceOn new bytes items state (sent_by answer) (key_on d state key)
  key_sends old new bytes items state key None k = rw k.1 (refl, refl, k.2)
  key_sends old new bytes items state key (Some (Read body)) k =
      rw k.3 (
        ap (λ z. record_spelling (header (10 + length z) 0 PutGet ++ z)) k.4 ∙ sym (append-nil _)
            ∙ sym (spells (d.shows state.happened) k.1 k.2),
        refl,
        k.5,
      )
  key_sends old new bytes items state key (Some answer) k = rw k.0 (refl, refl, k.1)

  -- whatever led to the station, the key gives this
  abbrev pub KeyedOn : PartsOn D P → PartsOn D P → K → Result (Option Answer) KeyFault → Type 0
  KeyedOn old new key result = (bytes : List ℕ) (items : List (Item U)) (state : EndStateOn H)
      → ReachedOn (on_display rules d) old bytes items state → length bytes + 1 < 2 ^ 64
      → IsKeyedOn (on_display rules d) old new bytes items state key result

  key_taken : (old new : PartsOn D P) (bytes : List ℕ) (items : List (Item U)) (state : EndStateOn H) (key : K)
      (answer : Option Answer) → IsKeyedOn (on_display rules d) old new bytes items state key (Ok answer)
      → (fault : KeyFault) → key_on d state key ≡ RefusesKey fault → ⊥
  key_taken old new bytes items state key None k fault e = cc (k.1, e)
  key_taken old new bytes items state key (Some (Read body)) k fault e = cc (k.3, e)
  key_taken old new bytes items state key (Some answer) k fault e = cc (k.0, e)

  pub key_judges : (old new : PartsOn D P) (key : K) (result : Result (Option Answer) KeyFault)
      → KeyedOn old new key result → (IsSome old.ended → result ≡ Err KeyFailed)
      → (old.live.taken + 1 ≡ 2 ^ 64 → result ≡ Err KeyFailed) → OnErr result (new ≡ old)
      → HasDoneKey (key_judged (on_display rules d) key) old new result
  key_judges old new key (Ok answer) keyed failed full same =
      let works = not_shut _ _ KeyFailed answer failed full in
      record {
        done = record {
          led = λ bytes items state l few. key_trace new bytes items state key (sent_by answer)
              (key_sends old new bytes items state key answer (keyed bytes items state l (omega (arith, few))));
          shut = λ shut. absurd (works shut);
        };
        taken = record {
          led = λ bytes items state l few.
              key_taken old new bytes items state key answer (keyed bytes items state l few);
          works = works;
        };
        refused = tt;
        same = tt;
      }
  key_judges old new key (Err fault) keyed failed full same = record {
    done = tt;
    taken = tt;
    refused = (
      record {
        led = λ bytes items state l few. (keyed bytes items state l few).0;
        shut = λ shut. (let e : ◌≡◌ {A = Result (Option Answer) KeyFault} (Err fault) (Err KeyFailed) =
            shut_fails _ _ KeyFailed _ failed full shut in cc);
      },
      record {
        led = λ bytes items state l few.
            let k = keyed bytes items state l (omega (arith, few)) in
            key_trace new bytes items state key [] (rw k.0 (refl, refl, rw k.1 l));
        shut = λ shut. record { no_byte = refl; same = same; unwritten = refl; no_event = refl };
      },
    );
    same = same;
  }

-- the profile's answers
pub profile_spells : SpellsOn profile
profile_spells screen kind aid = refl

abbrev pub Keyed : StationParts → StationParts → Key → Result (Option Answer) KeyFault → Type 0
Keyed = KeyedOn element_rules profile profile_spells

-- what a key has made is known
pub known_keyed : (old new : StationParts) (key : Key) (result is : Result (Option Answer) KeyFault) → result ≡ is
    → Keyed old new key result → Keyed old new key is
known_keyed old new key result is e k = subst (λ (z : Result (Option Answer) KeyFault). Keyed old new key z) e k

-- what the act of a key has written, and where it has led
pub key_did : (new : StationParts) (bytes : List ℕ) (items : List (Item Element)) (state : StationEndState) (key : Key)
    (text : List ℕ) (events : List Applied) → IsTrace (protocol_of element_rules answer_rules station_transitions)
    (StationReached new) bytes items state (Did key ∷ []) text events
    → (text ≡ plain_spelling answer_rules (doing station_transitions state (Does key ∷ [])).written)
    × StationReached new bytes items (doing station_transitions state (Does key ∷ [])).state
key_did new bytes items state key text events g =
    let does : g.happened ≡ Does key ∷ [] = g.happen.1 ∙ ap (λ z. Does key ∷ z) g.happen.2 in
    let n = subst (λ (hs : List (Happening Element Key)).
    (text ≡ plain_spelling answer_rules (doing station_transitions state hs).written)
    × StationReached new (bytes ++ []) (items ++ items_of hs) (doing station_transitions state hs).state) does
    (g.wrote, g.reached) in (
      n.0,
      subst₂ (λ x its. StationReached new x its (doing station_transitions state (Does key ∷ [])).state)
          (append-nil bytes) (append-nil items) n.1,
    )

-- at an attached end
pub unmoved : {E S K : Type 0} (now from : AttachedParts E S K) → from ≡ now → (end : E) (sink : K) → end ≡ from.end
    → sink ≡ from.sink → record from { end = end; sink = sink } ≡ now
unmoved {E} {S} {K} now from is end sink e s = rw (e, s) is

module _ {E S K Request Event : Type 0}
    (behaviour : Behaviour E Request Event)
    (devices : Devices S K) (now from to : AttachedParts E S K)
    (is : from ≡ now) (request : Request) (text : List ℕ) (gone : behaviour.traces from.end
    (Did request ∷ []) text [] to.end) where
  pub request_led : WentOut devices.writer from.sink to.sink text
      → HaveLed behaviour devices now to (Did request ∷ []) []
  request_led went = rw (← is) (record { written = text; led = gone; wrote = went })

-- what follows from a refusal holds of a refused one
pub refused_then : {Why : Type 0} (acted : Acted Why) {P Q : Why → Type 0} → IfRefused acted P
    → ((why : Why) → P why → Q why) → IfRefused acted Q
refused_then Done p f = tt
refused_then (Refused why) p f = f why p

-- where memory can't be wanting for a request, a write alone may fail
pub unwritten_alone : {E Request Event Why S K : Type 0} {devices : Devices S K} {j : Judged E Request Event Why}
    {from to : AttachedParts E S K} (why : Fault) → HasActed devices j from to (Err why) → (j.wants from.end → ⊥)
    → from.broken ≡ false → (why ≡ Write) × HaveLedUnwritten j.behaviour devices from to (Did j.request ∷ [])
unwritten_alone Write h none works = (refl, (h.fault works).0)
unwritten_alone NoMemory h none works = absurd (none (h.wanting refl))
unwritten_alone why h none works = absurd (h.fault works)

-- a send that is refused for another reason than want of memory
pub refrains : (reaction : SendReaction) (fault : SendFault) → fault ≢ Memory → IsSendFault reaction fault
    → reaction ≡ RefusesSend fault
refrains reaction SendFailed ne f = absurd f
refrains reaction Memory ne f = absurd (ne refl)
refrains reaction fault ne f = f

-- What a request to a host end comes to.
module _ (request : HostRequest) (old new : HostParts) where
  works : (sent : Sent) → CarriesOut request old new (Ok sent) → TakesNoMore old → ⊥
  works sent c = not_shut _ _ SendFailed _ c.failed c.full

  fails : (fault : SendFault) → CarriesOut request old new (Err fault) → TakesNoMore old → fault ≡ SendFailed
  fails fault c shut = (let e : ◌≡◌ {A = Result Sent SendFault} (Err fault) (Err SendFailed) =
      shut_fails _ _ SendFailed _ c.failed c.full shut in cc)

  -- by what the host end does at the request
  goes : (bytes : List ℕ) (items : List (Item AnswerPart)) (state : HostEndState) (text : List ℕ)
      → Trace answer_rules element_rules host_transitions (HostReached new) bytes items state text
      (host_at_send state (host_requests state request))
      → IsTrace (protocol_of answer_rules element_rules host_transitions) (HostReached new) bytes items state
      (Did request ∷ []) text []
  goes bytes items state text = request_trace _ _ _ _ bytes items state text request

  wanted : CarriesOut request old new (Err Memory) → IsSendWanting old request
  wanted c = (
    record {
      led = λ bytes items state l few fault e. (let s = c.sent bytes items state l few in cc (s.2, e));
      works = λ shut. (let e = fails Memory c shut in cc);
    },
    c.wanting refl,
  )

  pub does_request : (result : Result Sent SendFault) → CarriesOut request old new result
      → HasDoneRequest (request_judged request) old new result
  does_request (Ok sent) c = record {
    done = record {
      led = λ bytes items state l few.
          let s = c.sent bytes items state l (omega (arith, few)) in
          goes bytes items state (sent_bytes sent)
          (rw s.2 (s.3 ∙ sym (append-nil (item_spelling element_rules s.1)), refl, s.6));
      shut = λ shut. absurd (works sent c shut);
    };
    taken = record {
      led = λ bytes items state l few fault e. (let s = c.sent bytes items state l few in cc (s.2, e));
      works = works sent c;
    };
    refused = tt;
    wanting = λ e. cc;
    same = tt;
  }
  does_request (Err fault) c = record {
    done = tt;
    taken = tt;
    refused = λ ne. (
      record {
        led = λ bytes items state l few. refrains _ fault ne (c.sent bytes items state l few);
        shut = fails fault c;
      },
      record {
        led = λ bytes items state l few. goes bytes items state []
            (rw (refrains _ fault ne (c.sent bytes items state l (omega (arith, few)))) (refl, refl, rw c.same l));
        shut = λ shut. record { no_byte = refl; same = c.same; unwritten = refl; no_event = refl };
      },
    );
    wanting = λ e. wanted (rw e at c);
    same = c.same;
  }

-- a send of Cancel Invite is a cancel, and one of another opcode is itself
pub cancels : (body : List Element) (old new : HostParts) (result : Result Sent SendFault)
    → CarriesOut Cancel old new result → CarriesOut (Send CancelInvite body) old new result
cancels body old new result c =
    record { sent = c.sent; same = c.same; wanting = c.wanting; full = c.full; failed = c.failed }

pub sends : (opcode : Opcode) → opcode ≢ CancelInvite → (body : List Element) (old new : HostParts)
    (result : Result Sent SendFault) → AtHost old (λ bytes items state. length bytes + 1 < 2 ^ 64
    → MatchResult result (λ sent. IsSent new bytes items (host_send state opcode body) (sent_bytes sent))
    (IsSendFault (host_send state opcode body))) → OnErr result (new ≡ old)
    → (old.live.taken + 1 ≡ 2 ^ 64 → result ≡ Err SendFailed) → (IsSome old.ended → result ≡ Err SendFailed)
    → CarriesOut (Send opcode body) old new result
sends CancelInvite other body old new result sent same full failed = absurd (other refl)
sends opcode other body old new result sent same full failed =
    record { sent = sent; same = same; wanting = λ e. refl; full = full; failed = failed }
