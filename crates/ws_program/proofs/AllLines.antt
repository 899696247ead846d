use Rattle.std.specs.Prelude.{◌==◌, ◌&&◌, Bool, Result, Ok, Err, IfOk, IfErr, ◌↔◌, IsTrue}
use Rattle.std.proofs.Common.{◌≡◌, ℕ, ◌+◌, List, [], ◌∷◌, ◌++◌, inl, inr, Option, None, Some, length, map, take}
use Rattle.std.proofs.Common.{refl, sym, ap, ◌∙◌, subst, arith, length-take}
use Rattle.std.proofs.lemmas.Grind.{flat_map-append}
use Rattle.ws_code.specs.Code.{Rules}
use Rattle.ws_code.specs.Device.{Writer, WentOut, FailedWithin}
use Rattle.ws_code.specs.declared.fault.Fault.{Fault}
use Rattle.ws_code.specs.declared.fault.Fault.TheVariants as device
use Rattle.ws_code.specs.declared.reason.Reason.{Reason}
use Rattle.ws_code.proofs.DeviceLaws.{went_out_none, went_out_both}
use Rattle.std.proofs.lemmas.List.{append-nil}
use Rattle.ws_code.proofs.Parts.{fails_first, fails_last}
use Rattle.ws_record.specs.declared.record.Item.{Item}
use Rattle.ws_text.specs.Printed.{IsPrinted}
use Rattle.ws_printing.specs.Printouts.{printout}
use Rattle.ws_trace.specs.Ends.{AreHeard, EndAt, carry_fault, end_begins, made_of, told_with}
use Rattle.ws_trace.specs.Reading.{IsCountFault, StreamStanding, MayEndAt}
use Rattle.ws_trace.specs.Reading.StreamStanding.{Reads}
use Rattle.ws_trace.specs.Readers.{ReaderParts, IsFull, IsNextOf, StandsThere}
use Rattle.ws_trace.specs.Tracers.{IsAdded, Tracks, TracerParts}
use Rattle.ws_trace.specs.declared.told.Told.{Told}
use Rattle.ws_trace.specs.declared.told.Told.TheVariants.{Whole, Refused}
use Rattle.ws_trace.proofs.Tracings.{added_more, added_none, added_one, entries_there, fault_weaker, heard_count}
use Rattle.ws_program.specs.AllTold.{AllEnding, AreFirstTold, HasToldAll, IsAllTold, IsUntold, PlacedTold}
use Rattle.ws_program.specs.AllTold.{ToldWay, all_printing, carrying, counts_after, counts_of, counts_with, lines_told}
use Rattle.ws_program.specs.AllTold.{makes_by, placed_text, told_at}
use Rattle.ws_program.specs.declared.all_told.AllCounts.{AllCounts}
use Rattle.ws_program.specs.declared.all_told.Way.{Way}
use Rattle.ws_program.specs.declared.all_told.Way.TheVariants.{Refusals}

-- A stream that is told as it is read.

-- WHAT ITEMS MAKE

pub makes_there : {U Made : Type 0} (makes : List (Item U) → Made → Type 0) (way : Way) (items : List (Item U))
    (made : Made) → makes items made → makes_by way makes items made
makes_there makes (Refusals head) items made is = tt
makes_there makes way items made is = is

-- WHAT BYTES TELL

module _ {U : Type 0} where
  lines_both : (way : ToldWay U) (told more : List (PlacedTold U))
      → lines_told way (told ++ more) ≡ lines_told way told ++ lines_told way more
  lines_both way told more = flat_map-append _ told more

  counts_both : (told more : List (PlacedTold U)) (counts : AllCounts)
      → counts_after counts (told ++ more) ≡ counts_after (counts_after counts told) more
  counts_both [] more counts = refl
  counts_both (x ∷ told) more counts = counts_both told more _

-- WITH ONE BYTE

module _ {U S : Type 0} (way : ToldWay U) (writer : Writer S) (place : ℕ) (told : Told U) where
  abbrev pub TextWith : Option Reason → List ℕ
  TextWith refused = lines_told way (map (told_at place) (told_with (Some told) refused))

  abbrev first_text : List ℕ
  first_text = placed_text way (told_at place told)

  -- the sink fails within the lines of what came
  pub came_cut : (from to : S) (refused : Option Reason) → FailedWithin writer from to first_text
      → FailedWithin writer from to (TextWith refused)
  came_cut from to None f = fails_first writer from to first_text [] f
  came_cut from to (Some reason) f =
      fails_first writer from to first_text (lines_told way (told_at place (Refused reason) ∷ [])) f

  module _ (from mid to : S) (reason : Reason) (out : WentOut writer from mid first_text)
      (result : Result AllCounts Fault) where
    abbrev last_text : List ℕ
    last_text = placed_text way (told_at place (Refused reason))

    abbrev with_last : AllCounts → AllCounts
    with_last counts = counts_with {U = U} counts (Refused reason)

    -- what came is refused as a whole
    pub refusal_out : (counts more : AllCounts) → more ≡ counts_with counts told
        → IfOk result (λ all. (all ≡ with_last more) × WentOut writer mid to last_text)
        → IfOk result (λ all. (all ≡ counts_after counts (map (told_at place) (told_with (Some told) (Some reason))))
        × WentOut writer from to (TextWith (Some reason)))
    refusal_out counts more is h = on result h
      where
        on : (r : Result AllCounts Fault) → IfOk r (λ all. (all ≡ with_last more)
            × WentOut writer mid to last_text) → IfOk r (λ all. (all ≡ with_last (counts_with counts told))
            × WentOut writer from to (TextWith (Some reason)))
        on (Ok all) h = (
          h.0 ∙ ap with_last is,
          went_out_both writer from mid to first_text (last_text ++ []) out
              (subst (WentOut writer mid to) (sym (append-nil last_text)) h.1),
        )
        on (Err fault) h = tt

    pub refusal_cut : IfErr result (λ fault. (fault ≡ device.Write) × FailedWithin writer mid to last_text)
        → IfErr result (λ fault. (fault ≡ device.Write) × FailedWithin writer from to (TextWith (Some reason)))
    refusal_cut h = on result h
      where
        on : (r : Result AllCounts Fault) → IfErr r (λ fault. (fault ≡ device.Write)
            × FailedWithin writer mid to last_text) → IfErr r (λ fault. (fault ≡ device.Write)
            × FailedWithin writer from to (TextWith (Some reason)))
        on (Ok all) h = tt
        on (Err fault) h = (
          h.0,
          fails_last writer from mid to first_text (last_text ++ []) out
              (subst (FailedWithin writer mid to) (sym (append-nil last_text)) h.1),
        )

-- WITH ALL SO FAR

-- these bytes were told, of which so much was made and counted
pub record ToldSoFar {Place U Made S : Type 0} (rules : Rules Place U) (way : ToldWay U)
    (is_made : List (Item U) → Made → Type 0) (writer : Writer S) (from to : S) (bytes : List ℕ)
    (tracer : TracerParts Place U Made) (counts : AllCounts) : Type 0 where
  pub told : List (PlacedTold U)
  pub added : IsAdded rules (carrying way) told_at (end_begins (carrying way)) bytes [] told
      (Tracks rules is_made tracer)
  pub out : WentOut writer from to (lines_told way told)
  pub counted : counts ≡ counts_of told

module _ {Place U Made S : Type 0} (rules : Rules Place U) (way : ToldWay U)
    (is_made : List (Item U) → Made → Type 0) (writer : Writer S) (from : S) where
  -- none
  pub told_none : (reader : ReaderParts Place U) (made : Made) → StandsThere rules reader (Reads [] [])
      → is_made [] made → ToldSoFar rules way is_made writer from from [] (record { reader = reader; made = made; taken = 0 })
      (record { records = 0; commands = 0; refused = 0 })
  told_none reader made stands is = record {
    told = [];
    added = added_none rules (carrying way) told_at (end_begins (carrying way)) [] _
        (record { stands = stands; made = is; counted = refl });
    out = went_out_none writer from;
    counted = refl;
  }

  -- their lines
  pub first_told : {bytes : List ℕ} {told : List (PlacedTold U)} {IsThere : EndAt U (List (Item U)) → Type 0}
      (all : List ℕ) (count : ℕ) → take count all ≡ bytes
      → IsAdded rules (carrying way) told_at (end_begins (carrying way)) bytes [] told IsThere
      → AreFirstTold rules way all (lines_told way told)
  first_told {bytes} {told} {IsThere} all count is a = (
    count,
    record {
      told = a.added;
      next = a.next;
      heard = subst (λ (z : List ℕ). AreHeard rules (carrying way) told_at (end_begins (carrying way)) z a.added
          a.next) (sym is) a.heard;
      lines = ap (lines_told way) a.entries;
    },
  )

  module _ {to : S} {bytes : List ℕ} {reader : ReaderParts Place U} {made : Made} {taken : ℕ} {counts : AllCounts}
      (s : ToldSoFar rules way is_made writer from to bytes
      (record { reader = reader; made = made; taken = taken }) counts) (byte : ℕ) (next : ReaderParts Place U)
      (after : Made) (came : Option (Told U)) (refused : Option Reason) (on : IsNextOf rules reader next byte came)
      (why : (items : List (Item U)) → is_made items made → refused ≡ carry_fault (carrying way) items came)
      (makes : (items : List (Item U)) → is_made items made → is_made (made_of (carrying way) items came) after)
    where
      abbrev More : List (PlacedTold U)
      More = map (told_at taken) (told_with came refused)

      -- a byte more
      added_byte : IsAdded rules (carrying way) told_at (end_begins (carrying way)) (bytes ++ byte ∷ []) []
          (s.told ++ More) (Tracks rules is_made (record { reader = next; made = after; taken = taken + 1 }))
      added_byte =
          let a = s.added in
          added_more rules (carrying way) told_at a (added_one rules (carrying way) told_at is_made
          (record { reader = reader; made = made; taken = taken }) next after a.next byte came s.told (s.told ++ More)
          a.there on makes (entries_there rules (carrying way) told_at taken a.next came refused s.told a.there.counted
          (why a.next.state a.there.made)) (taken + 1) refl)

      pub told_more : (new : S) (more : AllCounts) → more ≡ counts_after counts More
          → WentOut writer to new (lines_told way More)
          → ToldSoFar rules way is_made writer from new (bytes ++ byte ∷ [])
          (record { reader = next; made = after; taken = taken + 1 }) more
      told_more new more is out = record {
        told = s.told ++ More;
        added = added_byte;
        out = subst (WentOut writer from new) (sym (lines_both way s.told More))
            (went_out_both writer from to new (lines_told way s.told) (lines_told way More) s.out out);
        counted = is ∙ ap (λ (n : AllCounts). counts_after n More) s.counted ∙ sym (counts_both s.told More _);
      }

      -- the sink fails within its lines
      pub told_cut : (new : S) (all : List ℕ) → take (taken + 1) all ≡ bytes ++ byte ∷ [] → (fault : Fault)
          → fault ≡ device.Write → FailedWithin writer to new (lines_told way More)
          → IsUntold rules way (printout writer from new) all fault
      told_cut new all is fault write failed = (
        lines_told way (s.told ++ More),
        first_told all (taken + 1) is added_byte,
        inr (
          write,
          subst (FailedWithin writer from new) (sym (lines_both way s.told More))
              (fails_last writer from to new (lines_told way s.told) (lines_told way More) s.out failed),
        ),
      )

  module _ {to : S} {bytes : List ℕ} {tracer : TracerParts Place U Made} {counts : AllCounts}
      (s : ToldSoFar rules way is_made writer from to bytes tracer counts) where
    -- no more are read
    pub told_stopped : (all : List ℕ) (count : ℕ) → take count all ≡ bytes → (fault : Fault)
        → IsCountFault (IsFull rules tracer.reader) fault → IsUntold rules way (printout writer from to) all fault
    told_stopped all count is fault stop =
        let next = s.added.next in
        let counted = heard_count rules (carrying way) told_at (end_begins (carrying way)) next bytes _ s.added.heard in (
          lines_told way s.told,
          first_told all count is s.added,
          inl (
            fault_weaker {fault = fault} (λ full. omega (
              arith,
              full next.standing s.added.there.stands,
              counted.1,
              length-take count all,
              ap length is,
            )) stop,
            s.out,
          ),
        )

    -- these are all
    pub told_all : (is_whole : Bool)
        → ((at : StreamStanding U) → StandsThere rules tracer.reader at → IsTrue is_whole ↔ MayEndAt rules at)
        → HasToldAll rules way (printout writer from to) bytes counts is_whole
        (λ items. is_made items tracer.made)
    told_all is_whole may_end = record {
      text = lines_told way s.told;
      first = record {
        told = s.told;
        next = s.added.next;
        heard = subst (λ (z : List (PlacedTold U)). AreHeard rules (carrying way) told_at (end_begins (carrying way))
            bytes z s.added.next) (sym s.added.entries) s.added.heard;
        lines = refl;
      };
      printed = s.out;
      counted = s.counted;
      may_end = may_end s.added.next.standing s.added.there.stands;
      made = s.added.there.made;
    }

-- WITH ITS END

module _ {Place U S : Type 0} (rules : Rules Place U) (way : ToldWay U) (writer : Writer S) (from mid to : S)
    (bytes : List ℕ) (counts : AllCounts) (is_whole : Bool) (IsMade : List (Item U) → Type 0)
    (h : HasToldAll rules way (printout writer from mid) bytes counts is_whole IsMade) (Ending : AllEnding U)
    (end : List ℕ) (ends : Ending h.first.next.state (counts_of h.first.told) is_whole (length bytes) end) where
  told_whole : (accepted : Bool) → accepted ≡ (is_whole && counts.refused == 0)
      → IsAllTold rules way Ending bytes accepted (h.text ++ end)
  told_whole accepted is = record {
    front = h.text;
    first = h.first;
    is_whole = is_whole;
    may_end = h.may_end;
    end = end;
    ends = ends;
    lines = refl;
    accept = is ∙ ap (λ (n : AllCounts). is_whole && n.refused == 0) h.counted;
  }

  pub end_out : (accepted : Bool) → accepted ≡ (is_whole && counts.refused == 0) → WentOut writer mid to end
      → IsPrinted writer from to (all_printing rules way Ending bytes) (Ok accepted)
  end_out accepted is out = (
    h.text ++ end,
    told_whole accepted is,
    went_out_both writer from mid to h.text end h.printed out,
  )

  pub end_cut : FailedWithin writer mid to end
      → IsPrinted writer from to (all_printing rules way Ending bytes) (Err device.Write)
  end_cut failed = inr (
    h.text ++ end,
    (refl, inr (_, told_whole _ refl)),
    fails_last writer from mid to h.text end h.printed failed,
  )
