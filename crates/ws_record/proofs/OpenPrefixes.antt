-- What is open and refused, told of whole streams and of prefixes of the last record alike.
use Rattle.ws_record.proofs.Common as C
use C.{◌≡◌, ℕ, List, [], ◌∷◌, ◌++◌, take, drop, refl, sym, ◌∙◌, append_assoc, length, ◌≤◌, arith, ◌+◌, zero, suc}
use C.{length-append, ◌↔◌, common_steps, append-nil, take-append-drop, take_more, take-append-le, take_at, Rules}
use C.{Reason, SpellsBytes, Begins, CanEnd, chain_append, cut_at, drop-front, joined, token_rules, Eor, BeginsList}
use C.{IsOpenPrefix, IsFirstClosedTo, AreOpenBelow, IsRefusedByPrefix, IsTruncatedByPrefix, CanBeFramed, IsRefused}
use C.{IsTruncated, Layer, IsRight, IsOpen, IsFirstClosed, Tokens, Header, Body}
use Rattle.ws_telnet.proofs.LastRecords.{last_of_stream, stream_of_last}
use Rattle.ws_telnet.proofs.Streams.{left-append, stream_of, nothing_asked}
use Rattle.ws_record.proofs.Faults.{open_tokens}
use Rattle.ws_record.proofs.OpenRecords.{nothing_framed}
use Rattle.ws_record.proofs.Refusals.{can_be_body, opens}

module _ {Place U : Type 0} (rules : Rules Place U) (begins : Begins rules) (can : CanEnd rules)
    (law : SpellsBytes rules) where
  -- open by streams, open by prefixes
  to_prefix : (l : Layer) (bytes : List ℕ) → IsOpen rules l bytes → IsOpenPrefix rules l bytes
  to_prefix Tokens bytes o = record {
    units = joined o.stream.parts o.stream.rest;
    more = o.more;
    whole = o.stream.tokens;
    spelled = sym o.stream.spelled;
  }
  to_prefix Header bytes o =
      last_of_stream _ CanBeFramed
      (λ r m framed are. record { more = m; bytes = are; framed = framed }) nothing_framed _ _ o.stream
  to_prefix Body bytes o = last_of_stream _ (λ r. BeginsList rules (drop 10 r)) (λ r m body are. (
      let left = drop-front 10 r m in
      record { units = body.units; more = left.0; whole = body.whole; spelled = sym body.spelled ∙ left.1 })) (
      let some = can rules.first in
      record { units = some.0; more = _; whole = record { chain = some.1; ends = some.2 }; spelled = refl }) _ _
      o.stream

  -- and back, of bytes that are open without the last
  to_stream : (l : Layer) (before : List ℕ) (b : ℕ) → IsOpen rules l before → IsOpenPrefix rules l (before ++ b ∷ [])
      → IsOpen rules l (before ++ b ∷ [])
  to_stream Tokens before b o q = record {
    more = q.more ++ 0xff ∷ 0xef ∷ [];
    stream = stream_of (IsRight rules Tokens) (q.units ++ Eor ∷ []) (chain_append token_rules tt q.units (Eor ∷ [])
        q.whole.chain (record { is_unit = tt; may_follow = refl }, tt)) (grind (arith, common_steps))
        (nothing_asked _) (left-append [] q.units (Eor ∷ []));
  }
  to_stream Header before b o q =
      opens rules (stream_of_last _ CanBeFramed (λ r h. (h.more, h.bytes, h.framed)) _ b _ o.stream q)
  to_stream Body before b o q =
      opens rules (stream_of_last _ (λ r. BeginsList rules (drop 10 r)) (λ r s. (
      let found = cut_at rules begins _ _ _ _ s.whole.chain s.spelled in
      can_be_body _ can law r _ _ (record { chain = found.chain; more = found.more; spelled = found.spelled }))) _ b _
      o.stream q)

  -- the first layer to which all bytes with one more are closed
  closed : (l : Layer) (before : List ℕ) (b : ℕ) → ((m : Layer) → IsOpen rules m before)
      → IsFirstClosed rules l (before ++ b ∷ []) ↔ IsFirstClosedTo rules l (before ++ b ∷ [])
  closed Tokens before b opened =
      (λ c o. c (to_stream _ _ b (opened Tokens) o), λ c o. c (to_prefix _ _ o))
  closed Header before b opened = (
    λ c. (to_prefix _ _ c.0, λ o. c.1 (to_stream _ _ b (opened Header) o)),
    λ c. (to_stream _ _ b (opened Tokens) c.0, λ o. c.1 (to_prefix _ _ o)),
  )
  closed Body before b opened = (
    λ c. (to_prefix _ _ (open_tokens rules _ c.0), to_prefix _ _ c.0, λ o. c.1 (to_stream _ _ b (opened Body) o)),
    λ c. (to_stream _ _ b (opened Header) c.1, λ o. c.2 (to_prefix _ _ o)),
  )

  -- where the front of the bytes is open, so is each prefix of it; and back
  open_below : (before after : List ℕ) → ((l : Layer) → IsOpen rules l before)
      → AreOpenBelow rules (before ++ after) (length before)
  open_below before after opened lower k l =
      let n : ℕ = lower + 1 in
      let o = opened l in
      rw (take-append-le n before after (omega arith)) (to_prefix l _ (record {
        more = drop n before ++ o.more;
        stream = rw (← append_assoc (take n before), take-append-drop n before) o.stream;
      }))

  open_through : (bytes : List ℕ) (n : ℕ) → n ≤ length bytes → AreOpenBelow rules bytes n → (l : Layer)
      → IsOpen rules l (take n bytes)
  open_through bytes zero k each l = record { more = []; stream = stream_of _ [] tt refl tt refl }
  open_through bytes (suc n) k each l =
      let next : suc n ≡ n + 1 = omega arith in
      let one_more = take_more bytes n 0 (omega arith) in
      rw (next, one_more) (to_stream l _ _ (open_through _ n (omega arith) (λ lower h. each lower (omega arith)) l)
      (rw one_more at (each n (omega arith) l)))

  all_through : (before after : List ℕ) → AreOpenBelow rules (before ++ after) (length before) → (l : Layer)
      → IsOpen rules l before
  all_through before after each l = rw (take_at before after (length before) refl) at
      (open_through _ _ (omega (arith, length-append before after)) each l)

  -- both forms name the same refusals
  pub refused_forms : (bytes : List ℕ) (place : ℕ) (reason : Reason) → IsRefused rules bytes place reason
      ↔ IsRefusedByPrefix rules bytes place reason
  refused_forms bytes place reason = (
    λ r. record {
      before = r.before;
      byte = r.byte;
      after = r.after;
      split = r.split;
      at_place = r.at_place;
      layer = r.layer;
      least = rw (r.at_place, r.split) (open_below _ _ r.opened);
      closed = (closed _ _ _ r.opened).0 r.closed;
      why = r.why;
    },
    λ r. (let opened = all_through r.before _ (rw (r.at_place, r.split) at r.least) in record {
      before = r.before;
      byte = r.byte;
      after = r.after;
      split = r.split;
      at_place = r.at_place;
      layer = r.layer;
      opened = opened;
      closed = (closed _ _ _ opened).1 r.closed;
      why = r.why;
    }),
  )

  -- and the same bytes as truncated
  pub truncated_forms : (bytes : List ℕ) → IsTruncated rules bytes ↔ IsTruncatedByPrefix rules bytes
  truncated_forms bytes = (
    λ t. record { each = rw append-nil at (open_below bytes [] t.opened); unfinished = t.unfinished },
    λ t. record { opened = all_through bytes [] (rw append-nil t.each); unfinished = t.unfinished },
  )
