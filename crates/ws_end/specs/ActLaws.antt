use Rattle.std.proofs.Common.{◌≡◌, ℕ, ◌+◌, List, [], ◌∷◌, ◌++◌, inl, inr, length, refl, ap, ◌∙◌, sym, subst, arith}
use Rattle.std.proofs.Common.{append_assoc, length-append}
use Rattle.std.proofs.lemmas.List.{append-nil}
use Rattle.std.proofs.lemmas.Grind.{flat_map-append}
use Rattle.ws_code.specs.Code.{Rules}
use Rattle.ws_record.specs.declared.record.Item.{Item}
use Rattle.ws_record.specs.Encode.{plain_spelling, item_spelling}
use Rattle.ws_end.specs.Acts.{Act, Came, Did, Happening, Arrives, Does, bytes_of, items_of, all_came, Doing}
use Rattle.ws_end.specs.Acts.{Transitions, one_then, doing, AllTaken, Happen, IsTrace, Traces, Protocol}

-- Acts one after another.

-- the bytes of two lists of acts are those of the one, then those of the other
pub bytes_append : {Request : Type 0} → (xs ys : List (Act Request)) → bytes_of (xs ++ ys) ≡ bytes_of xs ++ bytes_of ys
bytes_append [] ys = refl
bytes_append (Came b ∷ xs) ys = ap (λ z. b ∷ z) (bytes_append xs ys)
bytes_append (Did d ∷ xs) ys = bytes_append xs ys

-- the items of two lists of happenings are those of the one, then those of the other
pub items_append : {U Request : Type 0} → (xs ys : List (Happening U Request)) → items_of (xs ++ ys) ≡ items_of xs
    ++ items_of ys
items_append [] ys = refl
items_append (Arrives i ∷ xs) ys = ap (λ z. i ∷ z) (items_append xs ys)
items_append (Does d ∷ xs) ys = items_append xs ys

-- bytes that came in two parts came as one
pub came_append : {Request : Type 0} → (xs ys : List ℕ) → all_came {Request = Request} (xs ++ ys) ≡ all_came xs
    ++ all_came ys
came_append [] ys = refl
came_append (x ∷ xs) ys = ap (λ z. Came x ∷ z) (came_append xs ys)

-- the bytes of acts that only bring bytes are these bytes
pub bytes_came : (Request : Type 0) (xs : List ℕ) → bytes_of (all_came {Request = Request} xs) ≡ xs
bytes_came Request [] = refl
bytes_came Request (x ∷ xs) = ap (λ z. x ∷ z) (bytes_came Request xs)

module _ {State V Event : Type 0} where
  -- of three doings in a row it doesn't matter which two are joined first
  pub then_assoc : (a b c : Doing State V Event) → one_then (one_then a b) c ≡ one_then a (one_then b c)
  then_assoc a b c =
      ap (λ z. let o : Doing State V Event = record {
        state = c.state;
        written = z;
        events = (a.events ++ b.events)
            ++ c.events;
      } in o) (append_assoc a.written b.written c.written)
      ∙ ap (λ z. let o : Doing State V Event = record {
        state = c.state;
        written = a.written ++ (b.written ++ c.written);
        events = z;
      } in o) (append_assoc a.events b.events c.events)

module _ {State U V Request Event : Type 0} (m : Transitions State U V Request Event) where
  -- what two lists of happenings do is what the one does, and then the other from there
  pub doing_append : (s : State) (xs ys : List (Happening U Request)) → doing m s (xs ++ ys) ≡ one_then (doing m s xs)
      (doing m (doing m s xs).state ys)
  doing_append s [] ys = refl
  doing_append s (x ∷ xs) ys = ap (one_then (m.at s x)) (doing_append (m.at s x).state xs ys)
      ∙ sym (then_assoc (m.at s x) (doing m (m.at s x).state xs) (doing m (doing m (m.at s x).state xs).state ys))

  -- two lists are taken if the one is, and then the other from there
  pub taken_append : (s : State) (xs ys : List (Happening U Request)) → AllTaken m s xs → AllTaken m
      (doing m s xs).state ys → AllTaken m s (xs ++ ys)
  taken_append s [] ys p q = q
  taken_append s (x ∷ xs) ys p q = (p.0, taken_append (m.at s x).state xs ys p.1 q)

module _ {Place U Request : Type 0} (rules : Rules Place U) where
  -- acts in two parts happen as the one and then the other
  pub happen_append : (bytes : List ℕ) (items : List (Item U)) (xs ys : List (Act Request))
      (hs gs : List (Happening U Request))
      → Happen rules bytes items xs hs → Happen rules (bytes ++ bytes_of xs) (items ++ items_of hs) ys gs
      → Happen rules bytes items (xs ++ ys) (hs ++ gs)
  happen_append bytes items [] ys hs gs p q =
      subst (λ (z : List (Happening U Request)). Happen rules bytes items ys (z ++ gs)) (sym p)
      (subst (λ (z : List ℕ). Happen rules z items ys gs) (append-nil bytes)
      (subst (λ (z : List (Item U)). Happen rules (bytes ++ []) z ys gs) (append-nil items)
      (subst (λ (z : List (Happening U Request)). Happen rules (bytes ++ []) (items ++ items_of z) ys gs) p q)))
  happen_append bytes items (Did d ∷ xs) ys hs gs p q = (
    p.0 ++ gs,
    ap (λ z. z ++ gs) p.1,
    happen_append bytes items xs ys p.0 gs p.2
        (subst (λ (z : List (Happening U Request)). Happen rules (bytes ++ bytes_of xs) (items ++ items_of z) ys gs) p.1
        q),
  )
  happen_append bytes items (Came b ∷ xs) ys hs gs (inl p) q = inl (
    p.0,
    happen_append (bytes ++ b ∷ []) items xs ys hs gs p.1
        (subst (λ (z : List ℕ). Happen rules z (items ++ items_of hs) ys gs)
        (sym (append_assoc bytes (b ∷ []) (bytes_of xs))) q),
  )
  happen_append bytes items (Came b ∷ xs) ys hs gs (inr p) q = inr (
    p.0,
    p.1 ++ gs,
    p.2,
    ap (λ z. z ++ gs) p.3,
    happen_append (bytes ++ b ∷ []) (items ++ p.0 ∷ []) xs ys p.1 gs p.4
        (subst (λ (z : List ℕ). Happen rules z ((items ++ p.0 ∷ []) ++ items_of p.1) ys gs)
        (sym (append_assoc bytes (b ∷ []) (bytes_of xs)))
        (subst (λ (z : List (Item U)). Happen rules (bytes ++ bytes_of (Came b ∷ xs)) z ys gs)
        (sym (append_assoc items (p.0 ∷ []) (items_of p.1)))
        (subst (λ (z : List (Happening U Request)). Happen rules (bytes ++ bytes_of (Came b ∷ xs))
        (items ++ items_of z) ys gs) p.3 q))),
  )

module _ {Place U PlaceV V State Request Event : Type 0} (protocol : Protocol Place U PlaceV V State Request Event)
  where
    -- what then holds, after acts and others after them
    pub trace_on : (Mid End : List ℕ → List (Item U) → State → Type 0) (bytes : List ℕ) (items : List (Item U))
        (state : State) (xs ys : List (Act Request)) (v w : List ℕ) (s t : List Event)
        → IsTrace protocol Mid bytes items state xs v s
        → ((bytes' : List ℕ) (items' : List (Item U)) (state' : State) → Mid bytes' items' state' → length bytes'
        ≡ length bytes + length (bytes_of xs) → IsTrace protocol End bytes' items' state' ys w t)
        → IsTrace protocol End bytes items state (xs ++ ys) (v ++ w) (s ++ t)
    trace_on Mid End bytes items state xs ys v w s t f next =
        let d = doing protocol.transitions state f.happened in
        let g = next (bytes ++ bytes_of xs) (items ++ items_of f.happened) d.state f.reached
        (length-append bytes (bytes_of xs)) in
        let e = doing_append protocol.transitions state f.happened g.happened in
        let n = doing protocol.transitions d.state g.happened in
        let byte_lists : (bytes ++ bytes_of xs) ++ bytes_of ys ≡ bytes ++ bytes_of (xs ++ ys) = append_assoc bytes
        (bytes_of xs) (bytes_of ys) ∙ ap (λ z. bytes ++ z) (sym (bytes_append xs ys)) in
        let item_lists : (items ++ items_of f.happened) ++ items_of g.happened ≡ items
        ++ items_of (f.happened ++ g.happened) = append_assoc items (items_of f.happened) (items_of g.happened)
        ∙ ap (λ z. items ++ z) (sym (items_append f.happened g.happened)) in
        record {
          happened = f.happened ++ g.happened;
          happen = happen_append protocol.reads bytes items xs ys f.happened g.happened f.happen g.happen;
          taken = taken_append protocol.transitions state f.happened g.happened f.taken g.taken;
          wrote = ap (λ z. z ++ w) f.wrote ∙ ap (λ z. plain_spelling protocol.writes d.written ++ z) g.wrote
              ∙ sym (flat_map-append (item_spelling protocol.writes) d.written n.written)
              ∙ ap (λ (z : Doing State V Event). plain_spelling protocol.writes z.written) (sym e);
          tells = ap (λ z. z ++ t) f.tells ∙ ap (λ z. d.events ++ z) g.tells ∙ ap (λ (z : Doing State V Event). z.events)
              (sym e);
          reached = subst (λ (z : List ℕ). End z (items ++ items_of (f.happened ++ g.happened))
              (doing protocol.transitions state (f.happened ++ g.happened)).state) byte_lists
              (subst (λ (z : List (Item U)). End ((bytes ++ bytes_of xs) ++ bytes_of ys) z
              (doing protocol.transitions state (f.happened ++ g.happened)).state) item_lists
              (subst (λ (z : Doing State V Event). End ((bytes ++ bytes_of xs) ++ bytes_of ys)
              ((items ++ items_of f.happened) ++ items_of g.happened) z.state) (sym e) g.reached));
        }

module _ {Place U PlaceV V State Request Event E : Type 0} (protocol : Protocol Place U PlaceV V State Request Event)
    (reached : E → List ℕ → List (Item U) → State → Type 0)
    (is_shut : E → Type 0) where
  -- without an act an end stays as it is, writes nothing and tells nothing
  pub traces_none : (e : E) → Traces protocol reached is_shut e [] [] [] e
  traces_none e = record {
    led = λ bytes items state l few. record {
      happened = [];
      happen = refl;
      taken = tt;
      wrote = refl;
      tells = refl;
      reached = subst (λ (z : List ℕ). reached e z (items ++ []) state) (sym (append-nil bytes))
          (subst (λ (z : List (Item U)). reached e bytes z state) (sym (append-nil items)) l);
    };
    shut = λ h. record { no_byte = refl; same = refl; unwritten = refl; no_event = refl };
  }

  -- two ways of an end, one after the other, are one way
  pub goes_on : (a b c : E) (xs ys : List (Act Request)) (v w : List ℕ) (s t : List Event)
      → Traces protocol reached is_shut a xs v s b → Traces protocol reached is_shut b ys w t c
      → Traces protocol reached is_shut a (xs ++ ys) (v ++ w) (s ++ t) c
  goes_on a b c xs ys v w s t p q = record {
    led = λ bytes items state l few.
        let count : length (bytes_of (xs ++ ys)) ≡ length (bytes_of xs) + length (bytes_of ys) = ap (λ z. length z)
        (bytes_append xs ys) ∙ length-append (bytes_of xs) (bytes_of ys) in
        trace_on protocol (reached b) (reached c) bytes items state xs ys v w s t
        (p.led bytes items state l (omega (arith, few, count)))
        (λ bytes' items' state' m size. q.led bytes' items' state' m (omega (arith, few, count, size)));
    shut = λ h.
        let n = p.shut h in
        let m = q.shut (subst is_shut (sym n.same) h) in record {
          no_byte = bytes_append xs ys ∙ ap (λ z. z ++ bytes_of ys) n.no_byte ∙ m.no_byte;
          same = m.same ∙ n.same;
          unwritten = ap (λ z. z ++ w) n.unwritten ∙ m.unwritten;
          no_event = ap (λ z. z ++ t) n.no_event ∙ m.no_event;
        };
  }
