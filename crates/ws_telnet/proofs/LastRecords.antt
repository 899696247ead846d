-- Where bytes stand in a stream: after an Eor, or elsewhere.
use Rattle.std.specs.List.{AllByRecursion}
use Rattle.std.proofs.Common.{append_assoc, ap, arith, ◌≡◌, ℕ, List, [], ◌∷◌, ◌++◌, inl, inr, sym, ◌∙◌}
use Rattle.std.proofs.lemmas.Grind.{common_steps, flat_map-append}
use Rattle.std.proofs.lemmas.List.{append-nil}
use Rattle.ws_code.specs.Code.{IsChain, IsCut, AreBytes, spelling_of}
use Rattle.ws_code.proofs.Bytes.{AreBytes-apart}
use Rattle.ws_code.proofs.CodeLaws.{one_cut, no_end, AreBytes-append, one_list}
use Rattle.ws_code.proofs.Cuts.{cut_at}
use Rattle.ws_code.proofs.Lists.{AllByRecursion-append, AllByRecursion-last, AllByRecursion-both, all_but_last, last_of}
use Rattle.ws_code.proofs.Lists.{same_last}
use Rattle.ws_telnet.specs.Streams.{IsStream, joined, EndsRecord, LastRecordMeets, EndsWithToken}
use Rattle.ws_telnet.specs.Token.{token_rules, token_spelling, IsToken}
use Rattle.ws_telnet.specs.TokenLaws.{token_prefix_free, token_begins, token_nonempty}
use Rattle.ws_telnet.specs.declared.token.Token.{Token}
use Rattle.ws_telnet.specs.declared.token.Token.TheVariants.{Data, Eor, Telnet as TelnetToken}
use Rattle.ws_telnet.proofs.Streams.{ends_with, stream_of, stream_right, stream_asks, open_stream, left_by, ended_by}
use Rattle.ws_telnet.proofs.Streams.{left-append, ended-append, of_parts, left_open, parted}
use Rattle.ws_telnet.proofs.TokenLists.{chain_front}

-- bytes that end with an Eor have one cut
behind_eor : {bytes ended begun : List ℕ} {tokens : List Token} → IsCut token_rules bytes tokens begun
    → (e : EndsRecord bytes ended) → (tokens ≡ joined e.parts e.rest ++ Eor ∷ []) × (begun ≡ [])
behind_eor cut e = one_cut token_rules token_prefix_free tt _ _ _ [] cut.chain e.tokens.chain cut.more
    (token_begins tt) (cut.spelled ∙ e.spelled ∙ sym (append-nil _))

last_token : (us : List Token) (t : Token) → IsChain token_rules tt (us ++ t ∷ []) → IsToken t
last_token [] t c = c.0.is_unit
last_token (u ∷ us) t c = last_token us t c.1

-- the records that tokens end are of bytes
ended_are_bytes : (so_far : List ℕ) (tokens : List Token) → IsChain token_rules tt tokens → AreBytes so_far
    → AllByRecursion AreBytes (ended_by so_far tokens)
ended_are_bytes so_far [] c are = tt
ended_are_bytes so_far (Data b ∷ tokens) c are =
    ended_are_bytes (so_far ++ b ∷ []) tokens c.1 (AreBytes-append so_far (b ∷ []) are (c.0.is_unit, tt))
ended_are_bytes so_far (Eor ∷ tokens) c are = (are, ended_are_bytes [] tokens c.1 tt)
ended_are_bytes so_far (TelnetToken t ∷ tokens) c are = ended_are_bytes so_far tokens c.1 are

module _ (P : List ℕ → Type 0) where
  -- Where all but the last byte begin a stream, the records are right that tokens before the last byte end.
  earlier_right : (before : List ℕ) (b : ℕ) (more : List ℕ) (us : List Token) (w : List ℕ)
      → IsChain token_rules tt us → before ++ b ∷ [] ≡ spelling_of token_rules us ++ w → (w ≡ [] → ⊥)
      → IsStream P (before ++ more) → AllByRecursion P (ended_by [] us)
  earlier_right before b more us w chain e some s =
      let front = spelling_of token_rules us in
      let left = all_but_last before b front w e some in
      (stream_asks P (left.0 ++ more)
      (record { chain = chain; more = token_begins tt; spelled = append-nil front })
      (rw (left.1, append_assoc front) at s)).0

module _ (P Q : List ℕ → Type 0) where
  -- From streams to prefixes: the last record of a stream's front is right, or begins a right one.
  pub last_of_stream : ((r m : List ℕ) → P (r ++ m) → AreBytes m → Q r) → Q [] → (bytes more : List ℕ)
      → IsStream P (bytes ++ more) → LastRecordMeets P Q bytes
  last_of_stream begin nothing bytes more s =
      let found =
      cut_at token_rules token_begins tt (joined s.parts s.rest) bytes more s.tokens.chain (sym s.spelled) in
      at_cut found.units found.begun (record { chain = found.chain; more = found.more; spelled = found.spelled }) where
        elsewhere : (tokens : List Token) (begun : List ℕ) → IsCut token_rules bytes tokens begun
            → ((ended : List ℕ) → EndsRecord bytes ended → ⊥) → LastRecordMeets P Q bytes
        elsewhere tokens begun cut other =
            let q = parted tokens in
            let right = stream_right P s in
            inr (
              left_by [] tokens,
              record {
                parts = q.parts;
                rest = q.rest;
                begun = begun;
                no_eor = q.no_eor;
                cut = rw q.is cut;
                is_open = rw q.is at (of_parts _ _ q.no_eor).0;
                elsewhere = other;
              },
              elim (stream_asks (λ x. P x × AreBytes x) more cut (stream_of (λ x. P x × AreBytes x) _ s.tokens.chain
                  s.spelled (AllByRecursion-both P AreBytes _ right.0 (ended_are_bytes [] _ s.tokens.chain tt))
                  right.1)).1 [
                    | inl q ↦ begin _ q.0 q.1.0 (AreBytes-apart _ _ q.1.1).1
                    | inr q ↦ rw q nothing
                  ],
            )

        at_last : (us : List Token) (t : Token) → IsCut token_rules bytes (us ++ t ∷ []) [] → LastRecordMeets P Q bytes
        at_last us Eor cut = inl (
          left_by [] us,
          ends_with us Eor cut.chain (sym cut.spelled ∙ append-nil _),
          AllByRecursion-last P (ended_by [] us) _
              (rw (ended-append [] us (Eor ∷ [])) at (stream_asks P more cut s).0),
        )
        at_last us t cut =
            elsewhere _ [] cut (λ ended e. (let f = (same_last us _ t Eor (behind_eor cut e).0).1 in cc))

        at_cut : (tokens : List Token) (begun : List ℕ) → IsCut token_rules bytes tokens begun
            → LastRecordMeets P Q bytes
        at_cut tokens (b ∷ begun) cut = elsewhere _ _ cut (λ ended e. (let none = (behind_eor cut e).1 in cc))
        at_cut tokens [] cut = elim (last_of tokens) [
          | inl none ↦ elsewhere _ [] cut
              (λ ended e. no_end (joined e.parts e.rest) Eor [] (sym none ∙ (behind_eor cut e).0))
          | inr q ↦ at_last q.0 q.1 (rw q.2 at cut)
        ]

  -- From prefixes to streams: where all but the last byte begin a stream, and the last record is right or begins a
  -- right one, they all begin a stream.
  pub stream_of_last : ((r : List ℕ) → Q r → (m : List ℕ) × AreBytes m × P (r ++ m))
      → (before : List ℕ) (b : ℕ) (more : List ℕ) → IsStream P (before ++ more)
      → LastRecordMeets P Q (before ++ b ∷ []) → (m : List ℕ) × IsStream P ((before ++ b ∷ []) ++ m)
  stream_of_last become before b more s (inl q) =
      let e = q.1 in
      let us = joined e.parts e.rest in
      let earlier = earlier_right P before b more us (0xff ∷ 0xef ∷ []) (chain_front us _ e.tokens.chain)
      (e.spelled ∙ flat_map-append token_rules.spelling us (Eor ∷ [])) (λ f. cc) s in (
        [],
        stream_of P (us ++ Eor ∷ []) e.tokens.chain (append-nil (before ++ b ∷ []) ∙ e.spelled)
            (rw (ended-append [] us (Eor ∷ []), left_open e)
            (AllByRecursion-append P (ended_by [] us) _ earlier (q.2, tt))) (left-append [] us (Eor ∷ [])),
      )
  stream_of_last become before b more s (inr q) =
      let o = q.1 in
      let m = become q.0 q.2 in
      open_stream (record {
        tokens = joined o.parts o.rest;
        cut = o.cut;
        right = earlier (joined o.parts o.rest) o.begun o.cut o.elsewhere;
        left = (of_parts _ _ o.no_eor).0 ∙ sym o.is_open;
      }) m.0 m.1 m.2 where
        but_last : (us : List Token) (t : Token) → IsCut token_rules (before ++ b ∷ []) (us ++ t ∷ []) []
            → ((ended : List ℕ) → EndsRecord (before ++ b ∷ []) ended → ⊥)
            → AllByRecursion P (ended_by [] (us ++ t ∷ []))
        but_last us Eor cut other = absurd (other _ (ends_with us Eor cut.chain (sym cut.spelled ∙ append-nil _)))
        but_last us t cut other = rw (ended-append [] us (t ∷ []), append-nil (ended_by [] us))
            (earlier_right P before b more us (token_spelling t) (chain_front us _ cut.chain)
            (grind (arith, common_steps))
            (token_nonempty t (last_token us t cut.chain)) s)

        earlier : (us : List Token) (begun : List ℕ) → IsCut token_rules (before ++ b ∷ []) us begun
            → ((ended : List ℕ) → EndsRecord (before ++ b ∷ []) ended → ⊥) → AllByRecursion P (ended_by [] us)
        earlier us (c ∷ begun) cut other =
            earlier_right P before b more us (c ∷ begun) cut.chain (sym cut.spelled) (λ f. cc) s
        earlier us [] cut other = elim (last_of us) [
          | inl none ↦ rw none tt
          | inr q ↦ rw q.2 (but_last q.0 q.1 (rw q.2 at cut) other)
        ]

-- the last of whole tokens, and the record bytes before it
pub one_end : (bytes so_far other : List ℕ) (s t : Token) → EndsWithToken bytes so_far s → EndsWithToken bytes other t
    → (so_far ≡ other) × (s ≡ t)
one_end bytes so_far other s t e f =
    let last = same_last _ _ s t (one_list token_rules token_prefix_free token_begins _ _ e.tokens.chain f.tokens.chain
    (sym e.spelled ∙ f.spelled)) in
    (sym (left_open e) ∙ ap (left_by []) last.0 ∙ left_open f, last.1)
