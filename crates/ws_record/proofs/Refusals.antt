-- Which bytes are refused, layer by layer, at a byte more.
use Rattle.ws_record.proofs.Common as C
use C.{AllByRecursion, ◌≡◌, ℕ, List, [], ◌∷◌, ◌++◌, drop, refl, sym, ap, ◌∙◌, length, inl, inr, arith, ◌+◌, map}
use C.{length-append, common_steps, append-nil, Rules, IsSpelled, IsPrefix, spelling_of, AreBytes, IsCut, Reason}
use C.{AreBytes-apart, SpellsBytes, list_bytes, padding, one_cut, AreBytes-append, CanEnd, cut_ends, IsStream, joined}
use C.{carried, token_rules, token_prefix_free, Token, Data, Eor, IsRecord, Holds, record_bytes, IsBodyBytes, IsStretch}
use C.{CanBeFramed, IsDataRefused, IsEndRefused, IsRefused, IsTruncated, Layer, IsRight, IsOpen, IsFirstClosed}
use C.{IsReason, Tokens, Header, Body, Item, Record}
use Rattle.ws_telnet.proofs.Streams.{Running, of_parts, left_by, open_stream, ended_stream, bad_token, bad_data}
use Rattle.ws_telnet.proofs.Streams.{bad_eor, ends_with_one}
use Rattle.ws_record.proofs.Encodings.{parts_of, holds_data}
use Rattle.ws_record.proofs.Reading.{parts_no_eor}

module _ {Place U : Type 0} (rules : Rules Place U) where
  -- a record is right to each layer
  record_right : (r : Record U) → IsRecord rules r → (l : Layer) → IsRight rules l (record_bytes rules r)
  record_right r is Tokens = tt
  record_right r is Header = record {
    flags = r.flags;
    opcode = r.opcode;
    rest = spelling_of rules r.body;
    flags_fit = is.flags_fit;
    length_fits = is.length_fits;
    spelled = grind (arith, common_steps);
  }
  record_right r is Body = record { units = r.body; whole = is.body; spelled = refl }

  parts_right : (ss : List (List Token × Record U)) → AllByRecursion (IsStretch rules) ss → (l : Layer)
      → AllByRecursion (IsRight rules l) (map carried (parts_of rules ss))
  parts_right [] h l = tt
  parts_right (s ∷ ss) h l = (rw h.0.carries (record_right _ h.0.is_record l), parts_right ss h.1 l)

  -- what bytes hold is right to each layer
  pub held : {bytes : List ℕ} {items : List (Item U)} {so_far begun : List ℕ} → Holds rules bytes items so_far begun
      → (l : Layer) → Running (IsRight rules l) bytes so_far begun
  held h l =
      let facts = of_parts _ _ (parts_no_eor _ _ h.each, h.no_eor) in
      record {
        tokens = joined (parts_of rules h.stretches) h.rest;
        cut = h.cut;
        right = rw facts.1 (parts_right _ h.each l);
        left = facts.0 ∙ sym h.is_open;
      }

  -- what is read so far can become right
  pub can_be_body : CanEnd rules → SpellsBytes rules → (so_far : List ℕ) (units : List U) (begun : List ℕ)
      → IsCut rules (drop 10 so_far) units begun → (more : List ℕ) × AreBytes more
      × IsBodyBytes rules (drop 10 (so_far ++ more))
  can_be_body can law so_far units begun cut =
      let ends = cut_ends rules can (drop 10 so_far) units begun cut in
      let fill = padding so_far in
      let are : AreBytes ends.1 =
      (AreBytes-apart (drop 10 so_far) _ (rw ends.3 at (list_bytes rules law _ _ ends.2.chain))).1 in (
        fill.0 ++ ends.1,
        AreBytes-append fill.0 ends.1 fill.1 are,
        record { units = ends.0; whole = ends.2; spelled = grind (arith, common_steps) },
      )

  pub opens : {l : Layer} {bytes : List ℕ} → (m : List ℕ) × IsStream (IsRight rules l) (bytes ++ m)
      → IsOpen rules l bytes
  opens found = record { more = found.0; stream = found.1 }

  -- bytes that hold items, and an open record that can become right, are open
  is_open : {bytes : List ℕ} {items : List (Item U)} {so_far begun : List ℕ} (more : List ℕ) (l : Layer)
      → Holds rules bytes items so_far begun → AreBytes more → IsRight rules l (so_far ++ more) → IsOpen rules l bytes
  is_open more l h are right = opens (open_stream (held h l) more are right)

  pub all_open : CanEnd rules → SpellsBytes rules → {bytes : List ℕ} {items : List (Item U)} {so_far begun : List ℕ}
      {units : List U} {begun_unit : List ℕ} → Holds rules bytes items so_far begun → CanBeFramed so_far
      → IsCut rules (drop 10 so_far) units begun_unit → (l : Layer) → IsOpen rules l bytes
  all_open can law h framed cut Tokens = is_open [] Tokens h tt tt
  all_open can law h framed cut Header = is_open framed.more Header h framed.bytes framed.framed
  all_open can law h framed cut Body = let m = can_be_body can law _ _ _ cut in is_open m.0 Body h m.1 m.2

  -- a refusal at a byte more
  module _ (can : CanEnd rules) (law : SpellsBytes rules) {bytes : List ℕ} {items : List (Item U)}
      {so_far begun : List ℕ} (h : Holds rules bytes items so_far begun) (framed : CanBeFramed so_far) {units : List U}
      {begun_unit : List ℕ} (cut : IsCut rules (drop 10 so_far) units begun_unit) (b : ℕ) {reason : Reason} where
    refuse : (layer : Layer) → IsFirstClosed rules layer (bytes ++ b ∷ []) → IsReason rules layer bytes b reason
        → (place : ℕ) × (length (bytes ++ b ∷ []) ≡ place + 1) × IsRefused rules (bytes ++ b ∷ []) place reason
    refuse layer closed why = (
      length bytes,
      length-append bytes (b ∷ []),
      record {
        before = bytes;
        byte = b;
        after = [];
        split = refl;
        at_place = refl;
        layer = layer;
        opened = all_open can law h framed cut;
        closed = closed;
        why = why;
      },
    )

    -- a byte that no token goes on with is refused
    pub refuse_token : (IsPrefix token_rules tt (begun ++ b ∷ []) → ⊥) → reason ≡ token_rules.reason tt begun b
        → (place : ℕ) × (length (bytes ++ b ∷ []) ≡ place + 1)
        × IsRefused rules (bytes ++ b ∷ []) place reason
    refuse_token bad why = refuse Tokens (λ o. bad_token (held h Tokens) b _ bad o.stream)
        (joined (parts_of rules h.stretches) h.rest, begun, h.cut, why)

    -- data with which no right record goes on is refused
    pub refuse_data : {v : ℕ} → IsSpelled token_rules tt (begun ++ b ∷ []) (Data v)
        → IsDataRefused rules so_far v reason → (place : ℕ) × (length (bytes ++ b ∷ []) ≡ place + 1)
        × IsRefused rules (bytes ++ b ∷ []) place reason
    refuse_data {v} s refused =
        let ends = ends_with_one (held h Tokens) b s in
        elim refused [
          | inl r ↦ refuse Header (is_open [] Tokens more tt tt, closed Header r.0) (so_far, Data v, ends, r.1)
          | inr r ↦
              refuse Body (is_open _ Header more r.0.bytes r.0.framed, closed Body r.1) (so_far, Data v, ends, r.2)
        ] where
          more : Holds rules (bytes ++ b ∷ []) items (so_far ++ v ∷ []) []
          more = holds_data rules h b v s

          closed : (l : Layer) → ((m : List ℕ) → IsRight rules l (so_far ++ v ∷ m) → ⊥)
              → IsOpen rules l (bytes ++ b ∷ []) → ⊥
          closed l bad o = bad_data (held h l) b _ s bad o.stream

    -- an Eor after a record that isn't whole is refused
    pub refuse_end : IsSpelled token_rules tt (begun ++ b ∷ []) Eor → IsEndRefused rules so_far reason
        → (place : ℕ) × (length (bytes ++ b ∷ []) ≡ place + 1)
        × IsRefused rules (bytes ++ b ∷ []) place reason
    refuse_end s refused =
        let ends = ends_with_one (held h Tokens) b s in
        elim refused [
          | inl r ↦ refuse Header (behind Tokens tt, closed Header r.0) (so_far, Eor, ends, r.1)
          | inr r ↦ refuse Body (behind Header r.0, closed Body r.1) (so_far, Eor, ends, r.2)
        ] where
          -- the record ended just before is right
          behind : (l : Layer) → IsRight rules l so_far → IsOpen rules l (bytes ++ b ∷ [])
          behind l right =
              record { more = []; stream = rw (append-nil (bytes ++ b ∷ [])) (ended_stream (held h l) b s right) }

          closed : (l : Layer) → (IsRight rules l so_far → ⊥) → IsOpen rules l (bytes ++ b ∷ []) → ⊥
          closed l bad o = bad_eor (held h l) b _ s bad o.stream

  -- bytes that end inside a record or a token are truncated
  pub truncated : (bytes : List ℕ) (items : List (Item U)) (so_far begun : List ℕ)
      → Holds rules bytes items so_far begun → ((l : Layer) → IsOpen rules l bytes)
      → (so_far ≡ [] → begun ≡ [] → ⊥) → IsTruncated rules bytes
  truncated bytes items so_far begun h opened inside = record {
    opened = opened;
    unfinished = λ others k. (
        let a = held h Tokens in
        let b = held k Tokens in
        let same = one_cut token_rules token_prefix_free tt _ _ _ _ a.cut.chain b.cut.chain a.cut.more b.cut.more
        (a.cut.spelled ∙ sym b.cut.spelled) in
        inside (sym a.left ∙ ap (left_by []) same.0 ∙ b.left) same.1);
  }
