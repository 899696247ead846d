use Rattle.ws_code.specs.declared.fault.Fault.{Fault}
use Rattle.ws_telnet.specs.Words.{telnet_of}
use Rattle.ws_record.specs.DataStep.{record_of}
use Rattle.ws_record.specs.OpenRecord.{RecordSoFar, no_record}
use Rattle.ws_record.specs.declared.news.News.{News}
use Rattle.ws_record.specs.declared.record.Item.TheVariants.{Record as RecordItem, Telnet as TelnetItem}
use Rattle.ws_printing.proofs.Common.{nothing_keeper, Reason, IsAdvance, Item, Bool, Result, Ok, Err, IfOk, IfErr, ◌≡◌}
use Rattle.ws_printing.proofs.Common.{ℕ, ◌+◌, ◌-◌, ◌<◌, ◌^◌, List, [], ◌∷◌, ◌++◌, Some, length, take, drop, refl, inr}
use Rattle.ws_printing.proofs.Common.{ap, ◌∙◌, arith, length-append, length-drop, append_assoc, take_all}
use Rattle.ws_printing.proofs.Common.{take-append-drop, Rules, Writer, WentOut, FailedWithin, intake, with_keep}
use Rattle.ws_printing.proofs.Common.{Watching, Leads, stream, IsPrinted, Counts, check_printing, tally_after, Tally}
use Rattle.ws_printing.specs.CheckLine.{IsVerdict, is_accepted, line_of, record_count, command_count}
use Rattle.ws_printing.specs.declared.verdict.Verdict.{Verdict}
use Rattle.ws_code.specs.declared.fault.Fault.TheVariants as device
use Rattle.ws_code.specs.declared.keep.Kept.TheVariants as answer
use Rattle.ws_record.specs.declared.news.News.TheVariants as told

counts-append : {U : Type 0} (xs ys : List (Item U)) → (record_count (xs ++ ys) ≡ record_count xs + record_count ys)
    × (command_count (xs ++ ys) ≡ command_count xs + command_count ys)
counts-append [] ys = (omega arith, omega arith)
counts-append (RecordItem r ∷ xs) ys = let more = counts-append xs ys in (omega (arith, more.0), more.1)
counts-append (TelnetItem t ∷ xs) ys = let more = counts-append xs ys in (more.0, omega (arith, more.1))

module _ {Place U : Type 0} (rules : Rules Place U) where
  -- what a front makes of a decoder that keeps nothing
  abbrev pub IsBareAdvance : {K : Type 0} → List ℕ → List (Item U) → RecordSoFar U → K → List ℕ → Watching Place → K
      → News → Type 0
  IsBareAdvance bytes items so_far old front live new news =
      IsAdvance (intake rules nothing_keeper) (with_keep (stream bytes items so_far) old) front (with_keep live new)
      news

  module _ {K : Type 0} (old new : Watching Place) (tally : Tally) (bytes front : List ℕ) (keep left : K)
      (k : Counts rules old tally bytes) (some : 0 < length front) (fits : length (bytes ++ front) < 2 ^ 64) where
    -- no item more
    count_none : (so_far : RecordSoFar U) → Leads rules new (bytes ++ front) k.items so_far
        → Counts rules new tally (bytes ++ front)
    count_none so_far l = record {
      items = k.items;
      so_far = so_far;
      leads = l;
      records = k.records;
      commands = k.commands;
      few = omega (arith, k.few, length-append bytes front);
    }

    -- the tally behind a front of which no byte is refused
    pub counts_front : (news : News) → IsBareAdvance bytes k.items k.so_far keep front new left news
        → ((reason : Reason) → news ≡ told.Refused reason → ⊥)
        → Counts rules new (tally_after tally news) (bytes ++ front)
    counts_front told.More a good = count_none (record {
      bytes = a.2.grown;
      head = k.so_far.head;
      units = k.so_far.units ++ a.0;
    }) a.2.leads
    counts_front told.Unit a good = (let e : answer.Enough ≡ answer.GoOn = a.7 in cc)
    counts_front (told.Open head) a good = count_none (record {
      bytes = a.1.0;
      head = Some head;
      units = k.so_far.units;
    }) a.1.1
    counts_front (told.Close head) a good =
        let item : Item U = RecordItem (record_of head k.so_far.units) in record {
          items = k.items ++ item ∷ [];
          so_far = no_record;
          leads = a.1;
          records = omega (arith, length-append bytes front, (counts-append k.items (item ∷ [])).0, k.few, k.records);
          commands = omega (arith, (counts-append k.items (item ∷ [])).1, k.commands);
          few = omega (arith, length-append bytes front, k.few);
        }
    counts_front (told.Telnet word) a good =
        let item : Item U = TelnetItem (telnet_of word new.sub) in record {
          items = k.items ++ item ∷ [];
          so_far = k.so_far;
          leads = a.0;
          records = omega (arith, (counts-append k.items (item ∷ [])).0, k.records);
          commands = omega (arith, length-append bytes front, (counts-append k.items (item ∷ [])).1, k.few, k.commands);
          few = omega (arith, length-append bytes front, k.few);
        }
    counts_front (told.Refused reason) a good = absurd (good reason refl)
    counts_front told.NoMemory a good = (let e : answer.NoMemory ≡ answer.GoOn = a.1 in cc)
    counts_front told.Failed a good = absurd a

-- bytes and what is left of a piece, as long as at the start
pub fits_on : (so_far rest bytes piece : List ℕ) → so_far ++ rest ≡ bytes ++ piece
    → length bytes + length piece < 2 ^ 64 → length so_far + length rest < 2 ^ 64
fits_on so_far rest bytes piece e fits = omega (arith, fits, simp length-append at (ap length e))

-- a front more, and what is left after it
pub goes_on : (so_far rest all : List ℕ) (n : ℕ) → so_far ++ rest ≡ all
    → (so_far ++ take n rest) ++ take (length rest - n) (drop n rest) ≡ all
goes_on so_far rest all n e = append_assoc so_far (take n rest) (take (length rest - n) (drop n rest))
    ∙ ap (λ x. so_far ++ (take n rest ++ x)) (take_all (length rest - n) (drop n rest) (omega (arith, length-drop n rest)))
    ∙ ap (λ x. so_far ++ x) (take-append-drop n rest) ∙ e

module _ {S : Type 0} (writer : Writer S) (from to : S) where
  -- the line of a verdict
  pub line_printed : {Place U : Type 0} (rules : Rules Place U) (bytes : List ℕ) (verdict : Verdict)
      → IsVerdict rules bytes verdict → (size : ℕ) → size ≡ length bytes → (result : Result Bool Fault)
      → IfOk result (λ accepted. (accepted ≡ is_accepted verdict) × WentOut writer from to (line_of verdict size))
      → IfErr result (λ fault. (fault ≡ device.Write) × FailedWithin writer from to (line_of verdict size))
      → IsPrinted writer from to (check_printing rules bytes) result
  line_printed rules bytes verdict is size sized (Ok accepted) done failed =
      (line_of verdict size, (verdict, is, ap (line_of verdict) sized, rw done.0 refl), done.1)
  line_printed rules bytes verdict is size sized (Err fault) done failed = inr (
    line_of verdict size,
    (failed.0, (Ok (is_accepted verdict), (verdict, is, ap (line_of verdict) sized, refl))),
    failed.1,
  )
