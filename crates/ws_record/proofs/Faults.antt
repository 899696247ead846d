-- The faults of a stream: of pieces, of sources, and that there is one at most.
use Rattle.ws_record.proofs.Common as C
use C.{◌≡◌, ℕ, List, [], ◌∷◌, ◌++◌, take, drop, sym, ap, ◌∙◌, append_assoc, ◌<◌, ◌⊎◌, Result, Ok, Err, IfOk, IfErr}
use C.{MatchResult, length, ◌*◌, ◌≤◌, inl, inr, arith, length-append, common_steps, append-nil, take-append-drop, Rules}
use C.{IsPrefixFree, most_reads, list_reader, GaveAll, Reader, Gave, Fault, Refused, Truncated, Memory, Read, Reason}
use C.{Begins, one_cut, one_begins, list_gave, list_gave_all, list_no_fault, joined, token_rules, token_prefix_free}
use C.{Token, Data, IsSourceFault, IsInGrammar, MayGrow, IsDecodeFault, Receiving, HasReceived, HasItem, IsTakeAllFault}
use C.{IsRefused, IsTruncated, Layer, IsRight, IsOpen, IsFirstClosed, IsBodyReason, IsReason, Tokens, Header, Body}
use C.{Item}
use Rattle.ws_telnet.proofs.LastRecords.{one_end}
use Rattle.ws_telnet.proofs.Streams.{stream_of, stream_right, nothing_asked}
use Rattle.ws_record.proofs.Reading.{one_items}
use Rattle.ws_record.proofs.Receivers.{refused_append}
use Rattle.ws_record.proofs.Refusals.{held}

module _ {Place U : Type 0} (rules : Rules Place U) where
  pub closed_is_not : (l : Layer) (bytes : List ℕ) → IsFirstClosed rules l bytes → IsOpen rules l bytes → ⊥
  closed_is_not Tokens bytes c o = c o
  closed_is_not l bytes c o = c.1 o

  -- and so none of its bytes is refused
  pub not_refused : (bytes : List ℕ) (items : List (Item U)) (place : ℕ) (reason : Reason)
      → IsInGrammar rules bytes items → IsRefused rules bytes place reason → ⊥
  not_refused bytes items place reason a r =
      closed_is_not _ _ r.closed (record {
        more = r.after;
        stream = (let h = held rules a r.layer in rw (append_assoc r.before, ← r.split)
            (stream_of _ h.tokens h.cut.chain (sym h.cut.spelled ∙ append-nil _) h.right h.left));
      })

  -- a list in the grammar meets no fault but that of memory
  pub only_memory : (bytes : List ℕ) (items : List (Item U)) (fault : Fault) → IsInGrammar rules bytes items
      → IsDecodeFault rules bytes fault → fault ≡ Memory
  only_memory bytes items fault a f =
      let whole : IsTruncated rules bytes → ⊥ = λ t. t.unfinished items a in
      grind (arith, not_refused bytes items)

module _ {Place U : Type 0} (rules : Rules Place U) where
  -- a fault of the first piece
  pub feed_decodes : (bytes : List ℕ) (fault : Fault) → IsTakeAllFault rules [] bytes fault
      → IsDecodeFault rules bytes fault
  feed_decodes bytes fault f = grind arith

  -- what may grow does whatever follows
  pub grows_more : (bytes more : List ℕ) → MayGrow rules bytes → MayGrow rules (bytes ++ more)
  grows_more bytes more (inl (items, u)) =
      inl (items, (u.0, u.1, u.2 ++ more, ap (λ x. x ++ more) u.3 ∙ append_assoc u.0 (u.1 ∷ u.2) more, u.4))
  grows_more bytes more (inr i) = inr (record {
    front = i.front;
    rest = i.rest ++ more;
    split = ap (λ x. x ++ more) i.split ∙ append_assoc i.front i.rest more;
    items = i.items;
    item = i.item;
    so_far = i.so_far;
    begun = i.begun;
    holds = i.holds;
    opened = i.opened;
  })

  -- a growth that was refused for an item of a piece
  pub item_completed : (bytes piece : List ℕ) (items : List (Item U)) (item : Item U) (used : ℕ)
      (new : Receiving Place U) → HasReceived rules new (bytes ++ take used piece) (items ++ item ∷ [])
      → HasItem rules (bytes ++ piece)
  item_completed bytes piece items item used new t = record {
    front = bytes ++ take used piece;
    rest = drop used piece;
    split = sym (append_assoc bytes (take used piece) (drop used piece)
        ∙ ap (λ x. bytes ++ x) (take-append-drop used piece));
    items = items;
    item = item;
    so_far = t.leads.0;
    begun = new.live.begun;
    holds = t.leads.1.holds;
    opened = t.leads.1.opened;
  }

-- What the loop over a source keeps: the bytes that it gave lead to the receiver, and are at most 4,096 a read.
pub record Reading {Place U S : Type 0} (rules : Rules Place U) (reader : Reader S) (from to : S)
    (reads : ℕ) (receiver : Receiving Place U) (items : List (Item U)) : Type 0 where
  pub bytes : List ℕ
  pub gave : Gave reader from to reads bytes
  pub taken : HasReceived rules receiver bytes items
  pub few : length bytes ≤ 4096 * reads

module _ {Place U S : Type 0} (rules : Rules Place U) (reader : Reader S) (from to : S) where
  -- a fault of a piece that a source gave
  pub feed_source : (reads : ℕ) (bytes piece : List ℕ) (fault : Fault)
      → Gave reader from to reads (bytes ++ piece) → IsTakeAllFault rules bytes piece fault
      → IsSourceFault rules reader from to fault
  feed_source reads bytes piece (Refused place reason) gave (inl f) = (bytes ++ piece, reads, gave, f.1.1)
  feed_source reads bytes piece Memory gave (inl (items, f)) = (
    bytes ++ piece,
    reads,
    gave,
    inl (items, (bytes ++ f.0, f.1, f.2, rw (f.3, append_assoc bytes), f.4)),
  )
  feed_source reads bytes piece fault gave (inr f) = rw f.0 (bytes ++ piece, reads, gave, inr f.1)
  feed_source reads bytes piece fault gave (inl f) = absurd f.1

-- Bytes are refused at one place and for one reason, or truncated, and not both.

module _ {Place U : Type 0} (rules : Rules Place U) where
  one_body_reason : IsPrefixFree rules → (bytes : List ℕ) (t : Token) (r s : Reason) → IsBodyReason rules bytes t r
      → IsBodyReason rules bytes t s → r ≡ s
  one_body_reason free bytes (Data b) r s p q =
      let cut = one_cut rules free rules.first _ _ _ _ p.2.chain q.2.chain p.2.more q.2.more
      (p.2.spelled ∙ sym q.2.spelled) in rw (p.3, q.3, cut.0, cut.1)
  one_body_reason free bytes t r s p q = p ∙ sym q

  one_reason : IsPrefixFree rules → (layer : Layer) (before : List ℕ) (b : ℕ) (r s : Reason)
      → IsReason rules layer before b r → IsReason rules layer before b s → r ≡ s
  one_reason free Tokens before b r s p q =
      let cut = one_cut token_rules token_prefix_free tt _ _ _ _ p.2.chain q.2.chain p.2.more q.2.more
      (p.2.spelled ∙ sym q.2.spelled) in rw (p.3, q.3, cut.1)
  one_reason free Header before b r s p q = let last = one_end _ _ _ _ _ p.2 q.2 in cc
  one_reason free Body before b r s p q =
      let last = one_end _ _ _ _ _ p.2 q.2 in
      let moved : IsBodyReason rules (drop 10 q.0) p.1 r = rw last.0 at p.3 in
      one_body_reason free _ _ r s (rw last.1 at moved) q.3

  -- to the lowest layer all bytes are a record
  pub open_tokens : (bytes : List ℕ) → IsOpen rules Header bytes → IsOpen rules Tokens bytes
  open_tokens bytes o =
      let s = o.stream in
      record {
        more = o.more;
        stream = stream_of _ (joined s.parts s.rest) s.tokens.chain s.spelled (nothing_asked _)
            (stream_right (IsRight rules Header) s).1;
      }

  one_layer : (bytes : List ℕ) (l m : Layer) → IsFirstClosed rules l bytes → IsFirstClosed rules m bytes → l ≡ m
  one_layer bytes l m p q = grind (arith, open_tokens)

  -- after a byte at which a layer is closed nothing is open
  behind : (before : List ℕ) (byte : ℕ) (more longer : List ℕ) (layer : Layer)
      → IsFirstClosed rules layer (before ++ byte ∷ []) → longer ≡ before ++ byte ∷ more
      → ((l : Layer) → IsOpen rules l longer) → ⊥
  behind before byte more longer layer closed e opened =
      let o = opened layer in
      closed_is_not rules layer (before ++ byte ∷ []) closed (record {
        more = more ++ o.more;
        stream = rw (let same : longer ++ o.more ≡ (before ++ byte ∷ []) ++ (more ++ o.more) =
            grind (arith, common_steps) in same) at o.stream;
      })

  longer : (x y : List ℕ) (b c : ℕ) (v w : List ℕ) (l : Layer) → IsFirstClosed rules l (x ++ b ∷ [])
      → ((k : Layer) → IsOpen rules k y) → (r : List ℕ) → y ≡ x ++ r → b ∷ v ≡ r ++ c ∷ w → (x ≡ y) × (b ≡ c)
  longer x y b c v w l p oy [] g h = (sym (g ∙ append-nil x), (let s : b ≡ c = cc in s))
  longer x y b c v w l p oy (z ∷ r) g h =
      let s : z ≡ b = cc in absurd (behind x b r y l p (g ∙ ap (λ n. x ++ n ∷ r) s) oy)

  one_split : (x y : List ℕ) (b c : ℕ) (v w : List ℕ) (l m : Layer) → x ++ b ∷ v ≡ y ++ c ∷ w
      → IsFirstClosed rules l (x ++ b ∷ []) → IsFirstClosed rules m (y ++ c ∷ [])
      → ((k : Layer) → IsOpen rules k x) → ((k : Layer) → IsOpen rules k y) → (x ≡ y) × (b ≡ c)
  one_split x y b c v w l m e p q ox oy = elim (one_begins x y (b ∷ v) (c ∷ w) e) [
    | inl f ↦ longer x y b c v w l p oy f.0 f.1 f.2
    | inr f ↦ (let t = longer y x c b w v m q ox f.0 f.1 f.2 in (sym t.0, sym t.1))
  ]

  ends_before : (front rest : List ℕ) (place : ℕ) (reason : Reason) → ((layer : Layer) → IsOpen rules layer front)
      → (r : IsRefused rules (front ++ rest) place reason) → (more : List ℕ) → front ≡ r.before ++ more
      → r.byte ∷ r.after ≡ more ++ rest → length front ≤ place
  ends_before front rest place reason opened r [] e s =
      omega (arith, r.at_place, ap length (e ∙ append-nil r.before))
  ends_before front rest place reason opened r (z ∷ more) e s =
      let same : z ≡ r.byte = cc in
      absurd (behind r.before r.byte more front r.layer r.closed (e ∙ ap (λ n. r.before ++ n ∷ more) same) opened)

  -- one place and one reason
  pub one_refused : IsPrefixFree rules → (bytes : List ℕ) (place other : ℕ) (reason another : Reason)
      → IsRefused rules bytes place reason → IsRefused rules bytes other another
      → (place ≡ other) × (reason ≡ another)
  one_refused free bytes place other reason another a b =
      let same = one_split _ _ _ _ _ _ _ _ (sym a.split ∙ b.split) a.closed b.closed a.opened b.opened in
      let moved : (F : List ℕ → ℕ → Type 0) → F a.before a.byte → F b.before b.byte =
      λ F f. rw same.1 at (rw same.0 at f) in
      let layer : a.layer ≡ b.layer =
      one_layer _ _ _ (moved (λ x n. IsFirstClosed rules a.layer (x ++ n ∷ [])) a.closed) b.closed in
      let why : IsReason rules a.layer b.before b.byte reason =
      moved (λ x n. IsReason rules a.layer x n reason) a.why in
      (a.at_place ∙ ap length same.0 ∙ sym b.at_place, one_reason free _ _ _ _ _ (rw layer at why) b.why)

  -- what is refused isn't truncated
  pub refused_or_truncated : (bytes : List ℕ) (place : ℕ) (reason : Reason) → IsRefused rules bytes place reason
      → IsTruncated rules bytes → ⊥
  refused_or_truncated bytes place reason r t = behind r.before r.byte r.after bytes r.layer r.closed r.split t.opened

  -- what is open ends before a refused byte
  pub open_before : (front rest : List ℕ) (place : ℕ) (reason : Reason) → ((layer : Layer) → IsOpen rules layer front)
      → IsRefused rules (front ++ rest) place reason → length front ≤ place
  open_before front rest place reason opened r =
      elim (one_begins r.before front (r.byte ∷ r.after) rest (sym r.split)) [
        | inl f ↦ ends_before front rest place reason opened r f.0 f.1 f.2
        | inr f ↦ omega (arith, r.at_place, ap length f.1, length-append front f.0)
      ]

  -- so two decoders of the bytes meet one fault, unless a growth was refused
  pub one_fault : IsPrefixFree rules → (bytes : List ℕ) (fault other : Fault) → IsDecodeFault rules bytes fault
      → IsDecodeFault rules bytes other → (fault ≡ Memory) ⊎ (other ≡ Memory) ⊎ (fault ≡ other)
  one_fault free bytes fault other a b = grind (arith, one_refused free bytes, refused_or_truncated bytes)

-- Decoding bytes at once, and through a source over them.

module _ {Place U : Type 0} (rules : Rules Place U) where
  -- the fault of a source over bytes is one of these bytes
  pub source_fault : (bytes to : List ℕ) → length bytes < most_reads → (fault : Fault)
      → IsSourceFault rules list_reader bytes to fault → IsDecodeFault rules bytes fault
  source_fault bytes to few (Refused place reason) f =
      let whole : bytes ≡ f.0 ++ to = (list_gave bytes to f.1 f.0 f.2).0 in
      rw whole (refused_append _ _ to _ _ f.3)
  source_fault bytes to few (Truncated n) f =
      let whole : f.0 ≡ bytes = (list_gave_all bytes to f.0 f.1).0 in
      (f.2 ∙ ap length whole, rw whole at f.3)
  source_fault bytes to few Memory f =
      let whole : bytes ≡ f.0 ++ to = (list_gave bytes to f.1 f.0 f.2).0 in
      rw whole (grows_more rules f.0 to f.3)
  source_fault bytes to few Read f = absurd (list_no_fault bytes to f.0 few f.1)
  source_fault bytes to few fault f = absurd f

  -- the answer of a source over bytes is one to these bytes
  pub source_accepts : {A : Type 0} (from_source : Result A Fault) (items : A → List (Item U))
      (bytes from to : List ℕ) → from ≡ bytes
      → IfOk from_source
      (λ a. (given : List ℕ) × GaveAll list_reader from to given × IsInGrammar rules given (items a))
      → IfOk from_source (λ a. IsInGrammar rules bytes (items a))
  source_accepts (Ok a) items bytes from to same q = rw ((list_gave_all from to q.0 q.1).0 ∙ same) at q.2
  source_accepts (Err f) items bytes from to same q = tt

  pub source_faults : {A : Type 0} (from_source : Result A Fault) (bytes from to : List ℕ) → from ≡ bytes
      → length bytes < most_reads → IfErr from_source (λ f. IsSourceFault rules list_reader from to f)
      → IfErr from_source (λ f. IsDecodeFault rules bytes f)
  source_faults (Ok a) bytes from to same few q = tt
  source_faults (Err f) bytes from to same few q = source_fault _ to few f (rw same at q)

module _ {Place U : Type 0} (rules : Rules Place U) where
  -- both answers
  pub both_ways : {A : Type 0} → IsPrefixFree rules → Begins rules → (at_once from_source : Result A Fault)
      (items : A → List (Item U)) (bytes : List ℕ) → IfOk at_once (λ a. IsInGrammar rules bytes (items a))
      → IfErr at_once (λ f. IsDecodeFault rules bytes f)
      → IfOk from_source (λ a. IsInGrammar rules bytes (items a))
      → IfErr from_source (λ f. IsDecodeFault rules bytes f)
      → MatchResult at_once (λ a. MatchResult from_source (λ b. items a ≡ items b) (λ f. f ≡ Memory))
      (λ f. MatchResult from_source (λ b. f ≡ Memory) (λ e. (f ≡ Memory) ⊎ (e ≡ Memory) ⊎ (f ≡ e)))
  both_ways free begins (Ok a) (Ok b) items bytes p fp q fq = one_items _ free begins p q
  both_ways free begins (Ok a) (Err f) items bytes p fp q fq = only_memory _ _ _ f p fq
  both_ways free begins (Err f) (Ok b) items bytes p fp q fq = only_memory _ _ _ f q fp
  both_ways free begins (Err f) (Err e) items bytes p fp q fq = one_fault _ free _ f e fp fq
