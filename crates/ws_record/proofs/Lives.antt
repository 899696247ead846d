-- What a front of a piece makes of a decoder that gives steps.
use Rattle.ws_record.proofs.Common as C
use C.{true, ◌≡◌, ℕ, List, [], ◌∷◌, ◌++◌, take, refl, sym, ap, ◌∙◌, append_assoc, ◌<◌, ◌⊎◌, length, ◌≤◌, inl, false}
use C.{arith, ◌+◌, ◌^◌, length-append, ◌≢◌, Option, None, common_steps, append-nil, length-take-le, Rules, IsSpelled}
use C.{IsUnfinished, AreBytes, SpellsBytes, AreBytes-front, CanEnd, length_rest, AllByRecursion-front}
use C.{AllByRecursion-last, one_last, same_last, bytes_on, each_on, left_of, room_on, upto, unfinished_token, sub_of}
use C.{token_rules, IAC, Telnet, Data, Eor, TelnetToken, plain_byte, IsAdvance, OnLastNews, Onward, Holds, Watching}
use C.{Leads, LeadsWith, IsFrontStep, IsLiveStep, HoldsPart, RecordSoFar, Keeping, HasRead, IsStepOf, ArePlain}
use C.{KeepsTold, IsTaken, IsRecordEnd, IsWordTaken, OnlyIfOn, Advance, News, More, Whole, Open, Close, NoMemory, Head}
use C.{Item, TelnetItem, WithKeep, intake, with_keep, stream}
use Rattle.ws_code.specs.Keep.{Keeper, slot_keeper}
use Rattle.ws_code.proofs.Slots.{only_enough, slot_is}
use Rattle.ws_telnet.specs.Words.{IsWord}
use Rattle.ws_telnet.specs.declared.token.Sub.{Sub as ASub}
use Rattle.ws_telnet.specs.declared.tokens.Tokens.{Tokens}
use Rattle.ws_telnet.specs.declared.word.Word.{Word}
use Rattle.ws_telnet.specs.declared.word.Word.TheVariants as word
use Rattle.ws_telnet.proofs.Unfinished.{iac_goes_on}
use Rattle.ws_record.specs.declared.live.Step.{Step}
use Rattle.ws_record.specs.declared.live.Step.TheVariants as steps
use Rattle.ws_record.specs.declared.news.News.TheVariants as told
use Rattle.ws_record.specs.declared.news.News.TheVariants.{Refused, Failed}
use Rattle.ws_record.proofs.Encodings.{holds_more, holds_data, holds_command, holds_record}
use Rattle.ws_record.proofs.Refusals.{all_open, refuse_token, refuse_data, refuse_end}

-- what is the same with a keep is the same, and so is the keep
same_read : {R K : Type 0} {a b : WithKeep R K} → a ≡ b → a.read ≡ b.read
same_read {R} {K} e = ap (λ (w : WithKeep R K). w.read) e

same_keep : {R K : Type 0} {a b : WithKeep R K} → a ≡ b → a.keep ≡ b.keep
same_keep {R} {K} e = ap (λ (w : WithKeep R K). w.keep) e

-- a decoder that has taken these bytes, and works
abbrev pub working : {Place : Type 0} → Tokens → Keeping Place → List ℕ → Watching Place
working machine reader bytes = record {
  taken = length bytes;
  begun = unfinished_token machine;
  sub = sub_of machine;
  reader = reader;
  failed = false;
}

module _ {Place U : Type 0} (rules : Rules Place U) where
  -- values that are no FF
  pub holds_values : (bytes : List ℕ) (items : List (Item U)) (so_far v : List ℕ) → Holds rules bytes items so_far []
      → AreBytes v → ArePlain v → Holds rules (bytes ++ v) items (so_far ++ v) []
  holds_values bytes items so_far [] h are plain = rw (append-nil bytes) (rw (append-nil so_far) h)
  holds_values bytes items so_far (b ∷ v) h are plain =
      let one = holds_data _ h b b (plain_byte b are.0 plain.0) in
      let all = holds_values _ _ _ v one are.1 plain.1 in
      rw (append_assoc bytes (b ∷ []) v) at (rw (append_assoc so_far (b ∷ []) v) at all)

  -- nothing is complete in the bytes that lead to a decoder beside what they lead with
  pub part_led : {live : Watching Place} {bytes : List ℕ} {items : List (Item U)} {so_far : RecordSoFar U}
      → Leads rules live bytes items so_far → HoldsPart rules bytes items so_far.head so_far.units
  part_led {live} {so_far = so_far} l = record {
    so_far = so_far.bytes;
    begun = live.begun;
    unfinished = live.reader.begun;
    holds = l.holds;
    is_head = l.reads.head;
    cut = l.reads.cut;
  }

  pub part_first : {live : Watching Place} {bytes : List ℕ} {items : List (Item U)} {so_far : RecordSoFar U}
      → Leads rules live bytes items so_far → (piece : List ℕ) (n : ℕ) → n ≤ 0
      → HoldsPart rules (bytes ++ take n piece) items so_far.head so_far.units
  part_first {bytes = bytes} l piece n k = let zero : n ≡ 0 = omega (arith, k) in
      rw (zero, append-nil bytes) (part_led l)

  -- the bytes hold these items
  abbrev pub IsHeld : List (Item U) → List ℕ → Type 0
  IsHeld items bytes = (so_far begun : List ℕ) × Holds rules bytes items so_far begun

  pub part_held : {bytes : List ℕ} {items : List (Item U)} {head : Option Head} {units : List U}
      → HoldsPart rules bytes items head units → IsHeld items bytes
  part_held part = (part.so_far, part.begun, part.holds)

  -- more than that only units with which a keep goes on
  abbrev pub IsPart : {K : Type 0} → Keeper U K → List (Item U) → RecordSoFar U → List ℕ → Type 0
  IsPart keeper items so_far bytes = (more : List U) × OnlyIfOn keeper more
      × HoldsPart rules bytes items so_far.head (so_far.units ++ more)

  -- before the first byte of a front
  module _ {live : Watching Place} {bytes : List ℕ} {items : List (Item U)} {so_far : RecordSoFar U}
      (l : Leads rules live bytes items so_far) (piece : List ℕ) where
    pub held_at_none : (n : ℕ) → n < 1 → (x begun : List ℕ) × Holds rules (bytes ++ take n piece) items x begun
    held_at_none n lt =
        let zero : n ≡ 0 = omega (arith, lt) in (so_far.bytes, live.begun, rw (zero, append-nil bytes) l.holds)

    -- an FF after the bytes
    pub holds_iac : live.begun ≡ [] → Holds rules (bytes ++ IAC ∷ []) items so_far.bytes (IAC ∷ [])
    holds_iac fresh = holds_more _ (rw fresh at l.holds) (IAC ∷ []) iac_goes_on

  -- a front that carries values to the open record, the last one with its last byte
  pub record Carries (bytes : List ℕ) (items : List (Item U)) (so_far front values : List ℕ) : Type 0 where
    pub whole : Holds rules (bytes ++ front) items (so_far ++ values) []
    pub at_last : (before : List ℕ) (v : ℕ) → values ≡ before ++ v ∷ []
        → (f : List ℕ) × (b : ℕ) × (begun : List ℕ) × (front ≡ f ++ b ∷ [])
        × Holds rules (bytes ++ f) items (so_far ++ before) begun
        × IsSpelled token_rules tt (begun ++ b ∷ []) (Data v)

  pub carries_values : (bytes : List ℕ) (items : List (Item U)) (so_far v : List ℕ)
      → Holds rules bytes items so_far [] → AreBytes v → ArePlain v → Carries bytes items so_far v v
  carries_values bytes items so_far v h are plain = record {
    whole = holds_values _ _ _ v h are plain;
    at_last = λ before last e.
        let are' : AreBytes (before ++ last ∷ []) = rw e at are in
        let plain' : ArePlain (before ++ last ∷ []) = rw e at plain in (
          before,
          last,
          [],
          e,
          holds_values _ _ _ _ h (AreBytes-front before (last ∷ []) are') (AllByRecursion-front _ _ _ plain'),
          plain_byte last (AllByRecursion-last (λ b. b < 256) _ _ are')
              (AllByRecursion-last (λ b. b ≢ IAC) _ _ plain'),
        );
  }

  carries_one : (bytes : List ℕ) (items : List (Item U)) (so_far f begun : List ℕ) (b v : ℕ)
      → Holds rules (bytes ++ f) items so_far begun → IsSpelled token_rules tt (begun ++ b ∷ []) (Data v)
      → Carries bytes items so_far (f ++ b ∷ []) (v ∷ [])
  carries_one bytes items so_far f begun b v h spelled = record {
    whole = rw (append_assoc bytes f (b ∷ [])) at (holds_data _ h b v spelled);
    at_last = λ before last e.
        let ends = one_last v _ _ e in
        (f, b, begun, refl, rw (ap (λ x. so_far ++ x) ends.0 ∙ append-nil so_far) h, rw ends.1 spelled);
  }

module _ {Place U K : Type 0} (rules : Rules Place U) (keeper : Keeper U K) (old new : K)
    (items : List (Item U)) (so_far : RecordSoFar U) where
  -- the keep holds the units that are complete in the bytes
  abbrev pub KeepsPart : List ℕ → Type 0
  KeepsPart bytes = (more : List U) × (told : List ℕ) × KeepsTold keeper old new more told
      × HoldsPart rules bytes items so_far.head (so_far.units ++ more)

  module _ (bytes : List ℕ) (to : Keeping Place) (f : List ℕ) (b : ℕ) where
    -- of values that the record takes, before the last one
    pub values_kept : (front values : List ℕ) (news : News) → Carries rules bytes items so_far.bytes front values
        → IsTaken (intake rules keeper) (with_keep so_far old) values (with_keep to new) news → front ≡ f ++ b ∷ []
        → OnLastNews news (KeepsPart (bytes ++ f))
    values_kept front values (Refused reason) c t e =
        let at = c.at_last t.0 t.1 t.2 in
        let same = same_last f at.0 b at.1 (sym e ∙ at.3) in (
          t.3.1,
          t.3.5.0,
          t.3.5.1,
          rw same.0 (record {
            so_far = so_far.bytes ++ t.0;
            begun = at.2;
            unfinished = t.3.0.begun;
            holds = at.4;
            is_head = t.3.2.head;
            cut = t.3.2.cut;
          }),
        )
    values_kept front values NoMemory c t e =
        let at = c.at_last t.0 t.1 t.2 in
        let same = same_last f at.0 b at.1 (sym e ∙ at.3) in (
          t.3.1,
          t.3.8.0,
          t.3.8.1,
          rw same.0 (record {
            so_far = so_far.bytes ++ t.0;
            begun = at.2;
            unfinished = t.3.7.0.begun;
            holds = at.4;
            is_head = t.3.7.1.head;
            cut = t.3.7.1.cut;
          }),
        )
    values_kept front values Failed c t e = absurd t
    values_kept front values news c t e = tt

    module _ (begun : List ℕ) (h : Holds rules (bytes ++ f) items so_far.bytes begun) (reader : Keeping Place)
        (reads : HasRead rules reader so_far) where
      same_kept : new ≡ old → KeepsPart (bytes ++ f)
      same_kept same = (
        [],
        [],
        (λ units told h. rw (append-nil told, append-nil units, same) h),
        rw (append-nil so_far.units) (record {
          so_far = so_far.bytes;
          begun = begun;
          unfinished = reader.begun;
          holds = h;
          is_head = reads.head;
          cut = reads.cut;
        }),
      )

      end_kept : (news : News) → IsRecordEnd rules so_far to news → new ≡ old → OnLastNews news (KeepsPart (bytes ++ f))
      end_kept (Refused reason) t same = same_kept same
      end_kept NoMemory t same = absurd t
      end_kept Failed t same = absurd t
      end_kept news t same = tt

      -- of a word
      pub word_kept : (machine : Tokens) (w : Word) (news : News) → IsWord begun b machine w
          → IsWordTaken (intake rules keeper) so_far (with_keep reader old) w (with_keep to new) news
          → OnLastNews news (KeepsPart (bytes ++ f))
      word_kept machine word.More news i t = rw t.0 tt
      word_kept machine word.Data news i t =
          values_kept _ _ news (carries_one rules _ _ _ f _ b _ h i.0) t refl
      word_kept machine word.Eor news i t = end_kept news t.0 t.1
      word_kept machine (word.Telnet said) news i t = rw t.0 tt
      word_kept machine (word.Bad reason) news i t = rw t.0 (same_kept t.1)

module _ {Place U : Type 0} (rules : Rules Place U) (can : CanEnd rules) (law : SpellsBytes rules) where
  pub leads : {live : Watching Place} {bytes : List ℕ} {items : List (Item U)} {so_far : RecordSoFar U}
      → live.taken ≡ length bytes → Holds rules bytes items so_far.bytes live.begun → HasRead rules live.reader so_far
      → live.failed ≡ false → Leads rules live bytes items so_far
  leads count holds reads works = record {
    count = count;
    holds = holds;
    reads = reads;
    works = works;
    opened = all_open _ can law holds reads.framed reads.cut;
  }

  module _ {K : Type 0} (keeper : Keeper U K) (old new : K)
      (bytes : List ℕ) (items : List (Item U)) (so_far : RecordSoFar U) (machine : Tokens) (to : Keeping Place) where
    -- what a front makes of the decoder and of the keep
    abbrev Advances : List ℕ → News → Type 0
    Advances front news =
        IsAdvance (intake rules keeper) (with_keep (stream bytes items so_far) old) front
        (with_keep (working machine to (bytes ++ front)) new) news

    -- the open record takes values
    pub advance_values : (front values : List ℕ) (news : News) → Carries rules bytes items so_far.bytes front values
        → unfinished_token machine ≡ [] → IsTaken (intake rules keeper) (with_keep so_far old) values (with_keep to new)
        news
        → Advances front news
    advance_values front values More c fresh t =
        (t.0, t.1, record { grown = _; leads = leads refl (rw fresh c.whole) t.2 refl; body = t.3 }, t.4, t.5)
    advance_values front values Whole c fresh t =
        let now = bytes ++ front in
        let on : Onward rules (working machine to now) (stream now items so_far) (t.0 ++ t.1 ∷ []) t.2 =
        record { grown = _; leads = leads refl (rw fresh c.whole) t.3 refl; body = t.4 } in
        (t.0, t.1, t.2, on, t.5, t.6, t.7, t.8)
    advance_values front values (Open head) c fresh t = (t.0, (_, leads refl (rw fresh c.whole) t.1 refl, t.3), t.2)
    advance_values front values (Refused reason) c fresh t =
        let at = c.at_last t.0 t.1 t.2 in
        rw (at.3, ← append_assoc bytes at.0 (at.1 ∷ []))
        (refuse_data _ can law at.4 t.3.2.framed t.3.2.cut _ at.5 t.3.3)
    advance_values front values NoMemory c fresh t =
        let at = c.at_last t.0 t.1 t.2 in
        let read = rw (← t.2) at t.3.3 in (
          (
            at.0,
            at.1,
            at.3,
            record {
              so_far = so_far.bytes ++ t.0;
              begun = at.2;
              value = t.1;
              units = so_far.units ++ t.3.1;
              unit = t.3.2;
              holds = at.4;
              spelled = at.5;
              cut = rw (append_assoc so_far.bytes, append_assoc so_far.units) (rw t.3.4 at t.3.3.cut);
              opened = rw (append_assoc bytes at.0 (at.1 ∷ []), ← at.3)
                  (all_open _ can law c.whole read.framed read.cut);
            },
          ),
          t.3.5,
        )
    advance_values front values news c fresh t = absurd t

    module _ (f begun : List ℕ) (b : ℕ) (h : Holds rules (bytes ++ f) items so_far.bytes begun)
        (reader : Keeping Place) (reads : HasRead rules reader so_far) where
      -- a token is a command
      command_advance : (t : Telnet) → IsSpelled token_rules tt (begun ++ b ∷ []) (TelnetToken t)
          → unfinished_token machine ≡ [] → to ≡ reader
          → Leads rules (working machine to (bytes ++ (f ++ b ∷ []))) (bytes ++ (f ++ b ∷ []))
          (items ++ TelnetItem t ∷ []) so_far
      command_advance t spelled fresh same = leads refl
          (rw (fresh, ← append_assoc bytes f (b ∷ [])) (holds_command _ h b t spelled)) (rw same reads) refl

      -- it ends the record
      end_advance : (news : News) → IsSpelled token_rules tt (begun ++ b ∷ []) Eor → unfinished_token machine ≡ []
          → IsRecordEnd rules so_far to news → new ≡ old → Advances (f ++ b ∷ []) news
      end_advance (Close head) spelled fresh t same = (
        t.0,
        leads refl (rw (fresh, ← append_assoc bytes f (b ∷ []))
            (holds_record _ h b _ spelled t.0.is_record t.0.carries)) t.1 refl,
        same,
      )
      end_advance (Refused reason) spelled fresh t same =
          rw (← append_assoc bytes f (b ∷ [])) (refuse_end _ can law h reads.framed reads.cut b spelled t)
      end_advance news spelled fresh t same = absurd t

      -- a token goes on
      pub more_advance : IsUnfinished token_rules tt (unfinished_token machine) → unfinished_token machine ≡ begun ++ b ∷ []
          → to ≡ reader → new ≡ old → Advances (f ++ b ∷ []) More
      more_advance u grows same kept = (
        [],
        [],
        record {
          grown = so_far.bytes;
          leads = rw (append-nil so_far.units) (leads refl
              (rw (grows, ← append_assoc bytes f (b ∷ [])) (holds_more _ h (b ∷ []) (rw grows at u)))
              (rw same reads) refl);
          body = sym (append-nil _);
        },
        λ units told h. rw (append-nil told, append-nil units, kept) h,
        inl refl,
      )

      -- a word, and what the record has made of it
      pub word_advance : (w : Word) (news : News) → IsWord begun b machine w
          → IsWordTaken (intake rules keeper) so_far (with_keep reader old) w (with_keep to new) news
          → Advances (f ++ b ∷ []) news
      word_advance word.More news i t =
          rw t.0 (more_advance i.1 i.0 (same_read t.1) (same_keep t.1))
      word_advance word.Data news i t = advance_values _ _ _ (carries_one _ _ _ _ f _ b _ h i.0) i.1 t
      word_advance word.Eor news i t = end_advance _ i.0 i.1 t.0 t.1
      word_advance (word.Telnet said) news i t =
          rw t.0 (command_advance _ i.0 i.1 (same_read t.1), i.1, same_keep t.1)
      word_advance (word.Bad reason) news i t = rw (t.0, ← append_assoc bytes f (b ∷ []))
          (refuse_token _ can law h reads.framed reads.cut b i.0 i.1)

    -- the bytes are counted, and what has failed doesn't matter
    pub recount : (front : List ℕ) (now : Watching Place) (news : News)
        → (OnLastNews news ⊥ → now ≡ working machine to (bytes ++ front)) → Advances front news
        → IsAdvance (intake rules keeper) (with_keep (stream bytes items so_far) old) front (with_keep now new) news
    recount front now (Refused reason) e a = a
    recount front now NoMemory e a = a
    recount front now Failed e a = a
    recount front now news e a = rw (e tt) a

module _ {Place U K : Type 0} (rules : Rules Place U) (keeper : Keeper U K) (bytes : List ℕ) (items : List (Item U))
    (so_far : RecordSoFar U) (old : K)
    (live : Watching Place) (new : K) (news : News) where
  -- what a front after the bytes made, and that its bytes are counted
  pub record Made (front : List ℕ) : Type 0 where
    pub advance : IsAdvance (intake rules keeper) (with_keep (stream bytes items so_far) old) front (with_keep live new)
        news
    pub count : live.taken ≡ length (bytes ++ front)

module _ {Place U : Type 0} (rules : Rules Place U) where
  -- what `Live::advance` says of a piece
  abbrev pub Advanced : {K : Type 0} → Keeper U K → Watching Place → K → List ℕ → Advance → Watching Place → K → Type 0
  Advanced keeper was old piece result live new = record {
    within : result.used ≤ length piece;
    used : (result.news ≡ Failed → ⊥) → 0 < result.used;
    counted : was.taken + result.used < 2 ^ 64 → live.taken ≡ was.taken + result.used;
    advance : (bytes : List ℕ) (items : List (Item U)) (so_far : RecordSoFar U) → Leads rules was bytes items so_far
        → length bytes + length piece < 2 ^ 64
        → IsAdvance (intake rules keeper) (with_keep (stream bytes items so_far) old) (take result.used piece)
        (with_keep live new) result.news;
    near_full : (bytes : List ℕ) (items : List (Item U)) (so_far : RecordSoFar U) → Leads rules was bytes items so_far
        → length bytes + 1 < 2 ^ 64 → length bytes + result.used < 2 ^ 64
        → IsAdvance (intake rules keeper) (with_keep (stream bytes items so_far) old) (take result.used piece)
        (with_keep live new) result.news;
    first : (bytes : List ℕ) (items : List (Item U)) (so_far : RecordSoFar U) → Leads rules was bytes items so_far
        → (n : ℕ) → n < result.used → IsHeld rules items (bytes ++ take n piece);
    before : (bytes : List ℕ) (items : List (Item U)) (so_far : RecordSoFar U) → Leads rules was bytes items so_far
        → (n : ℕ) → n < result.used → IsPart rules keeper items so_far (bytes ++ take n piece);
    kept : (bytes : List ℕ) (items : List (Item U)) (so_far : RecordSoFar U) → Leads rules was bytes items so_far
        → (n : ℕ) → n + 1 ≡ result.used
        → OnLastNews result.news (KeepsPart rules keeper old new items so_far (bytes ++ take n piece));
    full : was.taken + 1 ≡ 2 ^ 64 → result.news ≡ Failed;
    failed : was.failed ≡ true → result.news ≡ Failed;
    idle : (was.failed ≡ true) ⊎ (was.taken + 1 ≡ 2 ^ 64) → (result.used ≡ 0) × (new ≡ old);
    only : (bytes : List ℕ) (items : List (Item U)) (so_far : RecordSoFar U) → Leads rules was bytes items so_far
        → result.news ≡ Failed → length bytes + 1 ≡ 2 ^ 64;
    after : OnLastNews result.news (live.failed ≡ true);
  }

  -- what a piece of one byte made
  pub made_one : {K : Type 0} {keeper : Keeper U K} {bytes : List ℕ}
      {items : List (Item U)} {so_far : RecordSoFar U} {was live : Watching Place} {old new : K} {result : Advance}
      (byte : ℕ) → Advanced keeper was old (byte ∷ []) result live new → Leads rules was bytes items so_far
      → length bytes + 1 < 2 ^ 64
      → Made rules keeper bytes items so_far old live new result.news (byte ∷ [])
  made_one {bytes = bytes} {result = result} byte e l fits =
      let a = e.advance _ _ _ l fits in
      let one : result.used ≡ 1 = omega (arith, e.within, e.used (λ f. rw f at a)) in
      record {
        advance = rw one at a;
        count = omega (arith, one, l.count, fits, e.counted, length-append bytes (byte ∷ []));
      }

  -- one that fetched a subnegotiation
  pub fetched : (live : Watching Place) (left : ASub) (bytes : List ℕ) (items : List (Item U))
      (so_far : RecordSoFar U) → Leads rules live bytes items so_far
      → Leads rules (record live { sub = left }) bytes items so_far
  fetched live left bytes items so_far l =
      record { count = l.count; holds = l.holds; reads = l.reads; opened = l.opened; works = l.works }

  -- what a front makes of a decoder and a slot
  abbrev pub MadeInSlot : List ℕ → List (Item U) → RecordSoFar U → List ℕ → Watching Place → Option U → News → Type 0
  MadeInSlot bytes items so_far front live slot news =
      Made rules slot_keeper bytes items so_far
      None live slot news front

  module _ {bytes : List ℕ} {items : List (Item U)} {so_far : RecordSoFar U} {front : List ℕ} {live : Watching Place}
      {slot : Option U} where
    -- the step out of news that came with a slot
    pub front_step : (new : Watching Place) (news : News) (step : Step U)
        → MadeInSlot bytes items so_far front live slot news → IsStepOf live news slot new step
        → IsFrontStep rules new (stream (bytes ++ front) items so_far) step
    front_step new More step m s = let a = m.advance in
        rw (s.0, s.1) (a.2.grown, rw (only_enough _ a.4, append-nil so_far.units) at a.2.leads)
    front_step new Whole step m s =
        let a = m.advance in
        let only : a.0 ≡ [] = only_enough _ a.5 in
        let t = s a.1 (slot_is slot a.1 (rw only at (a.4 [] [] refl))) in
        let on = rw only at a.3 in rw (t.0, t.1) (on.grown, on.leads)
    front_step new (told.Telnet word) step m s =
        let t = s m.advance.1 in rw (t.0, t.1.1) (fetched _ t.1.0 _ _ _ m.advance.0)
    front_step new news step m s = let a = m.advance in let count = m.count in grind arith

    pub more_step : {news : News} → MadeInSlot bytes items so_far front live slot news → news ≡ More
        → LeadsWith rules live (bytes ++ front) items so_far.head so_far.units
    more_step m is = front_step live More steps.More (rw is at m) (refl, refl)

  -- of one byte
  pub live_step : (bytes : List ℕ) (items : List (Item U)) (so_far : RecordSoFar U) (byte : ℕ) (new : Watching Place)
      (step : Step U) → IsFrontStep rules new (stream (bytes ++ byte ∷ []) items so_far) step
      → IsLiveStep rules new (stream bytes items so_far) byte step
  live_step bytes items so_far byte new (steps.Refused place reason) f =
      (omega (arith, f.0, length-append bytes (byte ∷ [])), f.1)
  live_step bytes items so_far byte new step f = f

module _ {Place U : Type 0} (rules : Rules Place U) where
  -- what a front of what is left of a piece made, whose bytes can be counted
  pub front_counted : {K : Type 0} {keeper : Keeper U K}
      {was live : Watching Place} {old new : K} {result : Advance} {items : List (Item U)} {so_far : RecordSoFar U}
      (piece : List ℕ) (i : ℕ) → Advanced rules keeper was old (left_of piece i) result live new
      → (bytes : List ℕ) → Leads rules was (bytes ++ take i piece) items so_far → i ≤ length piece
      → length bytes + (i + result.used) + 1 < 2 ^ 64
      → Made rules keeper (bytes ++ take i piece) items so_far old live new result.news
      (take result.used (left_of piece i))
  front_counted {result = result} piece i e bytes l within fits =
      let long : length (bytes ++ take i piece) ≡ length bytes + i =
      omega (arith, length-append bytes (take i piece), length-take-le i piece within) in
      record {
        advance = e.near_full _ _ _ l (omega (arith, long, fits)) (omega (arith, long, fits));
        count = grind (arith, common_steps);
      }

  pub front_made : {K : Type 0} {keeper : Keeper U K}
      {was live : Watching Place} {old new : K} {result : Advance} {items : List (Item U)} {so_far : RecordSoFar U}
      (piece : List ℕ) (i : ℕ) → Advanced rules keeper was old (left_of piece i) result live new
      → (bytes : List ℕ) → Leads rules was (bytes ++ take i piece) items so_far
      → length bytes + length piece + 1 < 2 ^ 64
      → Made rules keeper (bytes ++ take i piece) items so_far old live new result.news
      (take result.used (left_of piece i))
  front_made {result = result} piece i e bytes l fits =
      let room = room_on bytes piece i fits in
      record { advance = e.advance _ _ _ l room; count = grind (arith, common_steps) }

  -- what a decoder and a slot make of a piece
  abbrev pub AdvancedInSlot : Watching Place → List ℕ → Advance → Watching Place → Option U → Type 0
  AdvancedInSlot was piece result live slot =
      Advanced rules slot_keeper was None piece
      result live slot

  -- a front of the piece leads to the decoder, and nothing is complete with its bytes
  abbrev pub IsLed : Watching Place → List ℕ → ℕ → Watching Place → Type 0
  IsLed from piece used live = (used ≤ length piece)
      × ((bytes : List ℕ) (items : List (Item U)) (so_far : RecordSoFar U) → Leads rules from bytes items so_far
      → length bytes + used + 1 < 2 ^ 64
      → LeadsWith rules live (bytes ++ take used piece) items so_far.head so_far.units
      × ((n : ℕ) → n ≤ used → HoldsPart rules (bytes ++ take n piece) items so_far.head so_far.units))
      × (from.taken + used < 2 ^ 64 → live.taken ≡ from.taken + used)

  -- nothing is complete before the last byte of a front of what is left
  pub part_on : {was : Watching Place} (piece : List ℕ) (i used : ℕ) (bytes : List ℕ) (items : List (Item U))
      (so_far : RecordSoFar U)
      → ((bytes : List ℕ) (items : List (Item U)) (so_far : RecordSoFar U) → Leads rules was bytes items so_far
      → (n : ℕ) → n < used → IsPart rules slot_keeper items so_far
      (bytes ++ take n (left_of piece i)))
      → LeadsWith rules was (bytes ++ take i piece) items so_far.head so_far.units
      → ((n : ℕ) → n ≤ i → HoldsPart rules (bytes ++ take n piece) items so_far.head so_far.units)
      → (n : ℕ) → n < i + used → HoldsPart rules (bytes ++ take n piece) items so_far.head so_far.units
  part_on piece i used bytes items so_far e l below =
      each_on (λ b. HoldsPart rules b items so_far.head so_far.units) bytes piece i used below
      (λ n lt. (let part = e _ _ _ l.1 n lt in rw (only_enough _ part.1, append-nil so_far.units) at part.2))

  pub led_on : {from was live : Watching Place} {result : Advance} (piece : List ℕ) (i : ℕ) (slot : Option U)
      → AdvancedInSlot was (left_of piece i) result live slot → result.news ≡ More → IsLed from piece i was
      → IsLed from piece (i + result.used) live
  led_on {result = result} piece i slot e more led = (
    omega (arith, led.0, e.within, length_rest piece i),
    (λ bytes items so_far l fits. (
        let before = led.1 bytes items so_far l (omega (arith, fits)) in
        let on = rw (bytes_on bytes piece i result.used) at
        (more_step rules (front_counted piece i e bytes before.0.1 led.0 fits) more) in (
          on,
          upto (λ n. HoldsPart rules (bytes ++ take n piece) items so_far.head so_far.units) (i + result.used)
              (part_on piece i result.used bytes items so_far e.before before.0 before.1) (part_led rules on.1),
        ))),
    λ fits. omega (arith, fits, led.2, e.counted),
  )
