use Rattle.std.specs.Prelude.{Result, Ok, Err, IfOk, IfErr, IfSome, ◌⊎◌}
use Rattle.std.proofs.Common.{◌≡◌, ℕ, ◌+◌, ◌-◌, ◌<◌, ◌≤◌, List, [], ◌∷◌, ◌++◌, Bool, true, false, Option, None, Some}
use Rattle.std.proofs.Common.{inl, inr, length, take, drop, refl, sym, ap, ◌∙◌, subst, arith, append_assoc}
use Rattle.std.proofs.Common.{length-append, length-take, take-append-drop}
use Rattle.std.proofs.Math.Seq.{take-append-add}
use Rattle.std.proofs.lemmas.Grind.{flat_map-append}
use Rattle.std.proofs.lemmas.List.{append-nil, map-append, take-append-le, take-take, take_all}
use Rattle.ws_code.specs.Code.{Rules}
use Rattle.ws_code.specs.Device.{Writer, WentOut, FailedWithin}
use Rattle.ws_code.specs.declared.fault.Fault.{Fault}
use Rattle.ws_code.specs.declared.fault.Fault.TheVariants as faults
use Rattle.ws_code.specs.declared.reason.Reason.{Reason}
use Rattle.ws_code.proofs.DeviceLaws.{went_out_none, went_out_both}
use Rattle.ws_code.proofs.Parts.{fails_last}
use Rattle.ws_code.proofs.Pieces.{left_of, left_joined}
use Rattle.ws_record.specs.Grammar.{IsInGrammar}
use Rattle.ws_record.specs.Receiver.{Receiving, HasReceived, IsFeedFault, NoneBefore, given}
use Rattle.ws_record.specs.Refusal.{IsOpen, IsTruncated}
use Rattle.ws_record.specs.declared.receiver.Fed.{Fed}
use Rattle.ws_record.specs.declared.record.Item.{Item}
use Rattle.ws_text.specs.Printed.{IsPrinted}
use Rattle.ws_printing.specs.CheckLine.{is_accepted, line_of, verdict_by}
use Rattle.ws_printing.specs.Printouts.{printout}
use Rattle.ws_printing.specs.declared.verdict.Verdict.{Verdict}
use Rattle.ws_printing.specs.declared.verdict.Verdict.TheVariants.{Refused, Truncated}
use Rattle.ws_printing.proofs.SourceReads.{unrefused}
use Rattle.ws_program.specs.ShownSources.{AreAllLines}
use Rattle.ws_program.specs.StreamText.{Showing, View, Placed, items_without_places, lines_of, HoldsItems, IsComplete}
use Rattle.ws_program.specs.StreamText.{AreShown, AreFirstLines, IsShown, HasStopped, IsStoppedEnd, HasShown}
use Rattle.ws_program.specs.StreamText.{IsPieceShown, IsWholeItem, show_printing}
use Rattle.ws_trace.proofs.Tracings.{last_whole}

-- Items that are shown one after another.

module _ {U : Type 0} where
  items_more : (placed : List (Placed U)) (x : Placed U) → items_without_places (placed
      ++ x ∷ []) ≡ items_without_places placed ++ x.1 ∷ []
  items_more placed x = map-append (λ y. y.1) placed (x ∷ [])

  lines_more : (view : View U) (placed : List (Placed U)) (x : Placed U) → lines_of view (placed ++ x ∷ [])
      ≡ lines_of view placed ++ view.lines x.0 x.1
  lines_more view placed x = flat_map-append (λ x. view.lines x.0 x.1) placed (x ∷ [])
      ∙ ap (λ z. lines_of view placed ++ z) (append-nil (view.lines x.0 x.1))

module _ {Place U : Type 0} (rules : Rules Place U) where
  -- an item that is complete in bytes is in more
  complete_further : (bytes more : List ℕ) (before : List (Item U)) (x : Placed U) → IsComplete rules bytes before x
      → IsComplete rules (bytes ++ more) before x
  complete_further bytes more before x c =
      let front : (n : ℕ) → n ≤ length bytes → take n bytes ≡ take n (bytes ++ more) =
      λ n le. sym (take-append-le n bytes more le) in
      let last = front (x.0 + 1) (omega (arith, c.within)) in
      record {
        within = omega (arith, c.within, length-append bytes more);
        opened = λ layer. subst (λ (z : List ℕ). IsOpen rules layer z) last (c.opened layer);
        not_before = subst (λ (z : List ℕ). HoldsItems rules z before) (front x.0 (omega (arith, c.within)))
            c.not_before;
        with_it = subst (λ (z : List ℕ). HoldsItems rules z (before ++ x.1 ∷ [])) last c.with_it;
      }

  -- and in all of a piece, where it is in a front of it
  pub complete_in_piece : (bytes piece : List ℕ) (used : ℕ) (before : List (Item U)) (x : Placed U)
      → IsComplete rules (bytes ++ take used piece) before x → IsComplete rules (bytes ++ piece) before x
  complete_in_piece bytes piece used before x c =
      subst (λ (z : List ℕ). IsComplete rules z before x)
      (append_assoc bytes (take used piece) (drop used piece) ∙ ap (λ z. bytes ++ z) (take-append-drop used piece))
      (complete_further (bytes ++ take used piece) (drop used piece) before x c)

  -- the item that a receiver gave with the last byte that was used of a piece
  next_complete : (bytes piece : List ℕ) (items : List (Item U)) (item : Item U) (new : Receiving Place U) (used : ℕ)
      → 0 < used → used ≤ length piece → ((n : ℕ) → n < used → HoldsItems rules (bytes ++ take n piece) items)
      → HasReceived rules new (bytes ++ take used piece) (items ++ item ∷ [])
      → IsComplete rules (bytes ++ take used piece) items (new.live.taken - 1, item)
  next_complete bytes piece items item new used some within first received =
      let through : List ℕ = bytes ++ take used piece in
      let place : ℕ = new.live.taken - 1 in
      let count : new.live.taken ≡ length through = received.leads.1.count in
      let size : length through ≡ length bytes + used = omega (
        arith,
        length-append bytes (take used piece),
        length-take used piece,
      ) in
      let whole : through ≡ take (place + 1) through =
      sym (take_all (place + 1) through (omega (arith, count, size))) in
      let before : bytes ++ take (used - 1) piece ≡ take place through =
      ap (λ z. bytes ++ z) (sym (take-take (used - 1) used piece (omega arith)))
      ∙ sym (take-append-add bytes (take used piece) (used - 1))
      ∙ ap (λ (n : ℕ). take n through) (let e : length bytes + (used - 1) ≡ place = omega (arith, count, size) in e) in
      record {
        within = omega (arith, count, size);
        opened = λ layer. subst (λ (z : List ℕ). IsOpen rules layer z) whole (received.leads.1.opened layer);
        not_before = subst (λ (z : List ℕ). HoldsItems rules z items) before (first (used - 1) (omega arith));
        with_it = subst (λ (z : List ℕ). HoldsItems rules z (items ++ item ∷ [])) whole
            (received.leads.0, new.live.begun, received.leads.1.holds);
      }

module _ {Place U : Type 0} (way : Showing Place U) where
  shown_further : (bytes more : List ℕ) (before : List (Item U)) (placed : List (Placed U))
      → AreShown way bytes before placed → AreShown way (bytes ++ more) before placed
  shown_further bytes more before [] s = tt
  shown_further bytes more before (x ∷ xs) s = (
    complete_further way.rules bytes more before x s.0,
    s.1,
    shown_further bytes more (before ++ x.1 ∷ []) xs s.2,
  )

  shown_more : (bytes : List ℕ) (before : List (Item U)) (placed : List (Placed U)) (x : Placed U)
      → AreShown way bytes before placed → IsComplete way.rules bytes (before ++ items_without_places placed) x
      → way.view.fault (before ++ items_without_places placed) x.1 ≡ None → AreShown way bytes before (placed ++ x ∷ [])
  shown_more bytes before [] x s c none = (
    subst (λ (z : List (Item U)). IsComplete way.rules bytes z x) (append-nil before) c,
    ap (λ (z : List (Item U)). way.view.fault z x.1) (sym (append-nil before)) ∙ none,
    tt,
  )
  shown_more bytes before (y ∷ ys) x s c none =
      let on : before ++ items_without_places (y ∷ ys) ≡ (before ++ y.1 ∷ []) ++ items_without_places ys = sym
      (append_assoc before (y.1 ∷ [])
      (items_without_places ys)) in (
        s.0,
        s.1,
        shown_more bytes (before ++ y.1 ∷ []) ys x s.2
            (subst (λ (z : List (Item U)). IsComplete way.rules bytes z x) on c)
            (ap (λ (z : List (Item U)). way.view.fault z x.1) (sym on) ∙ none),
      )

module _ {S Place U : Type 0} (writer : Writer S) (from mid to : S) (way : Showing Place U) (bytes : List ℕ) where
  -- what comes behind lines that went out doesn't go out whole
  text_fails : (lines text : List ℕ) → WentOut writer from mid lines → AreFirstLines way bytes (lines ++ text)
      ⊎ ((accepted : Bool) × IsShown way bytes accepted (lines ++ text))
      → (fault : Fault) → (fault ≡ faults.Write) × FailedWithin writer mid to text
      → IsPrinted writer from to (show_printing way bytes) (Err fault)
  text_fails lines text w shown fault f =
      inr (lines ++ text, (f.0, shown), fails_last writer from mid to lines text w f.1)

  -- it goes out, or not the whole of it
  pub printed_behind : (accepted : Bool) (lines text : List ℕ) → WentOut writer from mid lines
      → IsShown way bytes accepted (lines ++ text) → (result : Result Bool Fault)
      → IfOk result (λ made. (made ≡ accepted) × WentOut writer mid to text)
      → IfErr result (λ fault. (fault ≡ faults.Write) × FailedWithin writer mid to text)
      → IsPrinted writer from to (show_printing way bytes) result
  printed_behind accepted lines text w shown (Ok made) done failed =
      (lines ++ text, rw done.0 shown, went_out_both writer from mid to lines text w done.1)
  printed_behind accepted lines text w shown (Err fault) done failed =
      text_fails lines text w (inr (accepted, shown)) fault failed

  -- the line behind which nothing more is shown
  pub line_stops : {Made : Type 0} (makes : List (Item U) → Made → Type 0) (receiver : Receiving Place U) (made : Made)
      (verdict : Verdict) → is_accepted verdict ≡ false → (lines : List ℕ) → WentOut writer from mid lines
      → HasStopped way bytes (lines ++ line_of verdict 0) → (result : Result Bool Fault)
      → IfOk result (λ told. (told ≡ is_accepted verdict) × WentOut writer mid to (line_of verdict 0))
      → IfErr result (λ fault. (fault ≡ faults.Write) × FailedWithin writer mid to (line_of verdict 0))
      → IsPieceShown (printout writer from to) way makes bytes receiver made result
  line_stops makes receiver made verdict refused lines w s (Ok true) done failed =
      let e : true ≡ false = done.0 ∙ refused in cc
  line_stops makes receiver made verdict refused lines w s (Ok false) done failed = (
    (lines ++ line_of verdict 0, s),
    printed_behind false lines (line_of verdict 0) w s.0 (Ok false) (refl, done.1) tt,
  )
  line_stops makes receiver made verdict refused lines w s (Err fault) done failed =
      printed_behind false lines (line_of verdict 0) w s.0 (Err fault) tt failed

-- an item that is complete has a whole body
pub whole_next : {Place U : Type 0} {rules : Rules Place U} {bytes : List ℕ} {items : List (Item U)} {x : Placed U}
    → IsComplete rules bytes items x → IsWholeItem rules x.1
whole_next {Place} {U} {rules} {bytes} {items} {x} c =
    last_whole rules (take (x.0 + 1) bytes) items x.1 c.with_it

-- what was taken of a piece, and the rest of it
pub piece_through : (bytes piece : List ℕ) (used : ℕ)
    → (bytes ++ take used piece) ++ left_of piece used ≡ bytes ++ piece
piece_through bytes piece used = append_assoc bytes (take used piece) (left_of piece used)
    ∙ ap (λ z. bytes ++ z) (left_joined piece used)

-- before the first byte
pub shows_none : {Place U Made S : Type 0} {receiver : Receiving Place U} {made : Made} (writer : Writer S) (s : S)
    (way : Showing Place U) (makes : List (Item U) → Made → Type 0) → HasReceived way.rules receiver [] []
    → makes [] made → HasShown (printout writer s s) way makes [] receiver made
shows_none writer s way makes received none = record {
  placed = [];
  shown = tt;
  received = received;
  makes_it = none;
  went_out = went_out_none writer s;
}

module _ {Place U Made S : Type 0} {way : Showing Place U} {makes : List (Item U) → Made → Type 0} {bytes : List ℕ}
    {receiver : Receiving Place U} {made : Made} {writer : Writer S} {from mid : S}
    (h : HasShown (printout writer from mid) way makes bytes receiver made) where
  -- the lines that went out, and the items that they show
  abbrev pub lines_out : List ℕ
  lines_out = lines_of way.view h.placed

  abbrev pub items_out : List (Item U)
  items_out = items_without_places h.placed

  holds_them : HoldsItems way.rules bytes items_out
  holds_them = (h.received.leads.0, receiver.live.begun, h.received.leads.1.holds)

  -- they are those of all items
  pub all_lines : AreAllLines way bytes lines_out
  all_lines = record {
    placed = h.placed;
    shown = h.shown;
    holds = holds_them;
    unrefused = unrefused way.rules bytes h.received.leads.1.opened;
    lines = refl;
  }

  -- the bytes are accepted, or end too early
  pub ends_accepted : IsInGrammar way.rules bytes items_out → (text : List ℕ)
      → ((items : List (Item U)) → makes items made → way.view.Ends items text)
      → IsShown way bytes true (lines_out ++ text)
  ends_accepted a text ends = record {
    placed = h.placed;
    shown = h.shown;
    end = text;
    ends = (a, ends items_out h.makes_it);
    lines = refl;
  }

  pub ends_early : IsTruncated way.rules bytes
      → IsShown way bytes false (lines_out ++ line_of (Truncated (length bytes)) 0)
  ends_early t = record {
    placed = h.placed;
    shown = h.shown;
    end = line_of (Truncated (length bytes)) 0;
    ends = inl (t, holds_them, refl);
    lines = refl;
  }

  -- what a receiver gave of a piece: an item that is complete with the last byte that was used
  pub fed_item : (piece : List ℕ) (new : Receiving Place U) (fed : Fed U) (item : Item U) (place : ℕ)
      → fed.item ≡ Some item → place ≡ new.live.taken - 1 → fed.used ≤ length piece
      → IfSome fed.item (λ _. 0 < fed.used)
      → HasReceived way.rules new (bytes ++ take fed.used piece) (items_out ++ given fed.item)
      → ((n : ℕ) → n < fed.used → HoldsItems way.rules (bytes ++ take n piece) items_out)
      → IsComplete way.rules (bytes ++ take fed.used piece) items_out (place, item)
      × HasReceived way.rules new (bytes ++ take fed.used piece) (items_out ++ item ∷ [])
  fed_item piece new fed item place is last within some received first =
      let taken : HasReceived way.rules new (bytes ++ take fed.used piece) (items_out ++ item ∷ []) =
      rw is at received in (
        rw last (next_complete way.rules bytes piece items_out item new fed.used (rw is at some) within first taken),
        taken,
      )

  -- What more bytes bring.
  module _ (more : List ℕ) where
    still_shown : AreShown way (bytes ++ more) [] h.placed
    still_shown = shown_further way bytes more [] h.placed h.shown

    -- no item more
    pub goes_on : (new : Receiving Place U) → HasReceived way.rules new (bytes ++ more) (items_out ++ [])
        → HasShown (printout writer from mid) way makes (bytes ++ more) new made
    goes_on new received = record {
      placed = h.placed;
      shown = still_shown;
      received = subst (λ (z : List (Item U)). HasReceived way.rules new (bytes ++ more) z) (append-nil items_out)
          received;
      makes_it = h.makes_it;
      went_out = h.went_out;
    }

    -- nothing more is shown
    stopped : (end text : List ℕ) → IsStoppedEnd way (bytes ++ more) h.placed end → text ≡ lines_out ++ end
        → HasStopped way (bytes ++ more) text
    stopped end text e same =
        (record { placed = h.placed; shown = still_shown; end = end; ends = inr e; lines = same }, e)

    -- what a fault of the receiver comes to
    abbrev pub IsStop : Result Verdict Fault → Type 0
    IsStop (Ok verdict) = (is_accepted verdict ≡ false)
        × HasStopped way (bytes ++ more) (lines_out ++ line_of verdict 0)
    IsStop (Err fault) = IsPrinted writer from mid (show_printing way (bytes ++ more)) (Err fault)

    pub feed_stops : (fault : Fault) → IsFeedFault way.rules bytes items_out more fault
        → NoneBefore way.rules bytes more items_out fault → IsStop (verdict_by fault)
    feed_stops (faults.Refused place reason) f none =
        let n : ℕ = place - length bytes in
        let last : length bytes + n ≡ place = omega (arith, f.0) in
        let held : HoldsItems way.rules (take place (bytes ++ more)) items_out =
        subst (λ (z : List ℕ). HoldsItems way.rules z items_out)
        (sym (take-append-add bytes more n) ∙ ap (λ (k : ℕ). take k (bytes ++ more)) last)
        (none n (omega (arith, last))) in
        (refl, stopped (line_of (Refused place reason) 0) _ (inl (place, reason, f.1, held, refl)) refl)
    feed_stops faults.Memory f none = inl (
      lines_out,
      (
        h.placed,
        still_shown,
        (
          bytes ++ f.0,
          f.1,
          f.2,
          ap (λ z. bytes ++ z) f.3 ∙ sym (append_assoc bytes f.0 (f.1 ∷ f.2)),
          f.4,
        ),
        refl,
      ),
      h.went_out,
    )
    feed_stops fault f none = absurd f

    -- which is answered
    pub fault_stops : (all : List ℕ) → bytes ++ more ≡ all → (fault why : Fault)
        → IsFeedFault way.rules bytes items_out more fault → NoneBefore way.rules bytes more items_out fault
        → Err why ≡ verdict_by fault → IsPrinted writer from mid (show_printing way all) (Err why)
    fault_stops all on fault why f none is =
        subst (λ (z : List ℕ). IsPrinted writer from mid (show_printing way z) (Err why)) on
        (subst (λ (r : Result Verdict Fault). IsStop r) (sym is) (feed_stops fault f none))

    -- The next item.
    module _ (x : Placed U) (complete : IsComplete way.rules (bytes ++ more) items_out x) where
      -- its lines don't go out whole
      pub item_fails : (all : List ℕ) → bytes ++ more ≡ all → (to : S) (fault : Fault)
          → (fault ≡ faults.Write) × FailedWithin writer mid to (way.view.lines x.0 x.1)
          → IsPrinted writer from to (show_printing way all) (Err fault)
      item_fails all on to fault f =
          let first : AreFirstLines way (bytes ++ more) (lines_out ++ way.view.lines x.0 x.1) = record {
            placed = h.placed;
            shown = still_shown;
            last = Some x;
            complete = complete;
            lines = refl;
          } in
          subst (λ (z : List ℕ). IsPrinted writer from to (show_printing way z) (Err fault)) on
          (text_fails writer from mid to way (bytes ++ more) lines_out (way.view.lines x.0 x.1) h.went_out (inl first)
          fault f)

      -- they do, and it isn't carried out
      pub item_stops : (reason : Reason) → way.view.fault items_out x.1 ≡ Some reason
          → HasStopped way (bytes ++ more) ((lines_out ++ way.view.lines x.0 x.1) ++ line_of (Refused x.0 reason) 0)
      item_stops reason found = stopped (way.view.lines x.0 x.1 ++ line_of (Refused x.0 reason) 0) _
          (inr (x, reason, complete, found, refl))
          (append_assoc lines_out (way.view.lines x.0 x.1) (line_of (Refused x.0 reason) 0))

      module _ (to : S) (out : WentOut writer mid to (way.view.lines x.0 x.1)) where
        pub item_out : WentOut writer from to (lines_out ++ way.view.lines x.0 x.1)
        item_out = went_out_both writer from mid to lines_out (way.view.lines x.0 x.1) h.went_out out

        -- or it is
        pub goes_on_after : (new : Receiving Place U) (next : Made)
            → HasReceived way.rules new (bytes ++ more) (items_out ++ x.1 ∷ [])
            → way.view.fault items_out x.1 ≡ None → makes (items_out ++ x.1 ∷ []) next
            → HasShown (printout writer from to) way makes (bytes ++ more) new next
        goes_on_after new next received none made_more =
            let same = sym (items_more h.placed x) in
            record {
              placed = h.placed ++ x ∷ [];
              shown = shown_more way (bytes ++ more) [] h.placed x still_shown complete none;
              received = subst (λ (z : List (Item U)). HasReceived way.rules new (bytes ++ more) z) same received;
              makes_it = subst (λ (z : List (Item U)). makes z next) same made_more;
              went_out = subst (λ (z : List ℕ). WentOut writer from to z) (sym (lines_more way.view h.placed x))
                  item_out;
            }
