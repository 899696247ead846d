use Rattle.std.proofs.Common.{◌≡◌, ◌≢◌, ℕ, ◌+◌, ◌<◌, ◌^◌, List, [], ◌∷◌, Some, None, Err, length, refl, sym, ap, ◌∙◌}
use Rattle.std.proofs.Common.{arith, rules}
use Rattle.std.proofs.lemmas.List.{append-nil}
use Rattle.ws_record.specs.Encode.{item_spelling}
use Rattle.ws_record.specs.RawBody.{raw_rules}
use Rattle.ws_record.specs.declared.record.Item.TheVariants.{Record as RecordItem}
use Rattle.ws_record.specs.declared.record.Record.{Record}
use Rattle.ws_end.specs.Acts.{Did}
use Rattle.ws_end.specs.declared.host_end.send_fault.SendFault.{SendFault}
use Rattle.ws_end.specs.declared.host_end.send_fault.SendFault.TheVariants.{Failed, Memory}
use Rattle.ws_end.specs.driver.DriverBehaviour.{DriverTraces}
use Rattle.ws_end.specs.driver.Driven.{TakesNoMore, transitions_of}
use Rattle.ws_end.proofs.EndRequests.{request_trace}
use Rattle.ws_end.proofs.Shuts.{none_reached, not_shut, shut_fails}
use Rattle.ws_any_host.specs.AnyReached.{AnyReached, AnyParts, AtAny, IsAnySendFault, IsAnySendRefusal, IsAnySendTaken}
use Rattle.ws_any_host.specs.AnyOptions.{Negotiated}
use Rattle.ws_any_host.specs.AnyEndState.{any_driving, send_fault}
use Rattle.ws_any_host.proofs.end.AnyHostActing.act.Goals as goal

module _ (host : AnyParts) (r : Record ℕ) where
  -- a record that is sent
  sent_goes : (text : List ℕ) → send_fault host.reacts r ≡ None → text ≡ item_spelling raw_rules (RecordItem r)
      → (TakesNoMore host → ⊥) → DriverTraces any_driving host (Did r ∷ []) text [] host
  sent_goes text none e works = record {
    led = λ bytes items state l few. request_trace raw_rules raw_rules (transitions_of any_driving)
        (AnyReached host) bytes items state text r (rw (ap (λ n. send_fault n r) (sym l.stands) ∙ none)
        (e ∙ sym (append-nil (item_spelling raw_rules (RecordItem r))), refl, l));
    shut = λ shut. absurd (works shut);
  }

  sent_taken : send_fault host.reacts r ≡ None → (TakesNoMore host → ⊥) → IsAnySendTaken host r
  sent_taken none works =
      record { led = λ bytes items state l few. ap (λ n. send_fault n r) (sym l.stands) ∙ none; works = works }

  -- why it isn't sent
  module _ (fault : SendFault) (f : (TakesNoMore host → ⊥) → IsAnySendFault host.reacts r fault) where
    led_fault : AtAny host (λ bytes items state. length bytes + 1 < 2 ^ 64 → IsAnySendFault state r fault)
    led_fault bytes items state l few =
        rw l.stands at (f (none_reached host.ended host.live.taken (length bytes) l.works l.reached.count few))

    named : (n : Negotiated) (fault : SendFault) → fault ≢ Memory → IsAnySendFault n r fault
        → send_fault n r ≡ Some fault
    named n Memory ne p = absurd (ne refl)
    named n Failed ne p = absurd p
    named n other ne p = p

    refused_goes : fault ≢ Memory → DriverTraces any_driving host (Did r ∷ []) [] [] host
    refused_goes ne = record {
      led = λ bytes items state l few.
          let p = named state fault ne (led_fault bytes items state l (omega (arith, few))) in
          request_trace raw_rules raw_rules (transitions_of any_driving) (AnyReached host) bytes items state [] r
          (rw p (refl, refl, l));
      shut = λ shut. record { no_byte = refl; same = refl; unwritten = refl; no_event = refl };
    }

    refused_why : fault ≢ Memory → (TakesNoMore host → fault ≡ Failed) → IsAnySendRefusal host r fault
    refused_why ne shut = record {
      led = λ bytes items state l few. named state fault ne (led_fault bytes items state l few);
      shut = shut;
    }

    wanting : fault ≡ Memory → (TakesNoMore host → ⊥) → IsAnySendTaken host r
    wanting is works =
        record { led = λ bytes items state l few. rw is at (led_fault bytes items state l few); works = works }

pub returns-in-Ok : goal.returns-in-Ok
returns-in-Ok c =
    let works = not_shut _ _ Failed _ c.in-Ok.ensures.failed c.in-Ok.ensures.full in
    record {
      done = sent_goes c.args.self.now c.args.request.now _ c.in-Ok.ensures.sent.0 c.in-Ok.ensures.sent.1 works;
      taken = sent_taken c.args.self.now c.args.request.now c.in-Ok.ensures.sent.0 works;
      refused = tt;
      wanting = λ e. cc;
      same = tt;
    }

pub returns-in-Err : goal.returns-in-Err
returns-in-Err c = record {
  done = tt;
  taken = tt;
  refused = λ ne. (
    refused_why c.args.self.now c.args.request.now c.in-Err.fault c.in-Err.ensures.refused ne (λ shut.
        (let e : Err c.in-Err.fault ≡ Err Failed = shut_fails _ _ Failed _ c.in-Err.ensures.failed
        c.in-Err.ensures.full shut in cc)),
    refused_goes c.args.self.now c.args.request.now c.in-Err.fault c.in-Err.ensures.refused ne,
  );
  wanting = λ wants. (
      let is : c.in-Err.fault ≡ Memory = cc in
      wanting c.args.self.now c.args.request.now c.in-Err.fault c.in-Err.ensures.refused is (λ shut.
      (let e : Err c.in-Err.fault ≡ Err Failed = shut_fails _ _ Failed _ c.in-Err.ensures.failed c.in-Err.ensures.full
      shut in cc (e, is))));
  same = search rules;
}
