-- What a front of a piece makes of a live decoder and of a keep (RFC 854, 885, 1205).

use Rattle.std.specs.Prelude.{◌≡◌, ℕ, ◌+◌, Bool, true, false, List, [], ◌∷◌, ◌++◌, Some, None, length, drop}
use Rattle.ws_code.specs.Code.{Rules}
use Rattle.ws_code.specs.Run.{Intake, WithKeep}
use Rattle.ws_code.specs.declared.keep.Kept.TheVariants as answer
use Rattle.ws_telnet.specs.Words.{telnet_of}
use Rattle.ws_record.specs.declared.record.Item.TheVariants.{Record as RecordItem, Telnet as TelnetItem}
use Rattle.ws_record.specs.declared.news.News.{News}
use Rattle.ws_record.specs.declared.news.News.TheVariants.{More, Unit as Whole, Open, Close, Telnet, Refused, NoMemory}
use Rattle.ws_record.specs.declared.news.News.TheVariants.{Failed}
use Rattle.ws_record.specs.Refusal.{IsRefused}
use Rattle.ws_record.specs.OpenRecord.{no_record}
use Rattle.ws_record.specs.DataStep.{IsWholeRecord, record_of}
use Rattle.ws_record.specs.Taking.{KeepsTold, OnlyIfOn, EndIn}
use Rattle.ws_record.specs.Live.{Watching, StreamSoFar, with_bytes, Leads, CompletesUnit}

module _ {Place U : Type 0} where
  -- The stream leads to the decoder, but for these units and these body bytes more of its open record.
  pub record Onward (rules : Rules Place U) (live : Watching Place) (stream : StreamSoFar U) (more : List U)
      (told : List ℕ) : Type 0 where
    pub grown : List ℕ
    pub leads : Leads rules live stream.bytes stream.items
        (record { bytes = grown; head = stream.so_far.head; units = stream.so_far.units ++ more })
    pub body : drop 10 grown ≡ drop 10 stream.so_far.bytes ++ told

  -- What a front of a piece makes of the decoder to which the stream so far leads, and of its keep, by what is complete
  -- with the front's last byte.
  abbrev pub IsAdvance : {K : Type 0} → Intake Place U K → WithKeep (StreamSoFar U) K → List ℕ
      → WithKeep (Watching Place) K → News → Type 0
  IsAdvance intake before front after More =
      (more : List U) × (told : List ℕ)
      × Onward intake.rules after.read (with_bytes before.read front) more told
      × KeepsTold intake.keeper before.keep after.keep more told × OnlyIfOn intake.keeper more
  IsAdvance intake before front after Whole =
      (others : List U) × (unit : U) × (told : List ℕ)
      × Onward intake.rules after.read (with_bytes before.read front) (others ++ unit ∷ []) told
      × KeepsTold intake.keeper before.keep after.keep (others ++ unit ∷ []) told × OnlyIfOn intake.keeper others
      × (after.read.reader.begun ≡ []) × intake.keeper.may_answer answer.Enough
  IsAdvance intake before front after (Open head) =
      (before.read.so_far.head ≡ None)
      × ((grown : List ℕ)
      × Leads intake.rules after.read (before.read.bytes ++ front) before.read.items
      (record before.read.so_far { bytes = grown; head = Some head })
      × (drop 10 grown ≡ [])) × (after.keep ≡ before.keep)
  IsAdvance intake before front after (Close head) = IsWholeRecord intake.rules before.read.so_far head
      × Leads intake.rules after.read (before.read.bytes ++ front)
      (before.read.items ++ RecordItem (record_of head before.read.so_far.units) ∷ []) no_record
      × (after.keep ≡ before.keep)
  IsAdvance intake before front after (Telnet word) =
      Leads intake.rules after.read (before.read.bytes ++ front)
      (before.read.items ++ TelnetItem (telnet_of word after.read.sub) ∷ []) before.read.so_far
      × (after.read.begun ≡ []) × (after.keep ≡ before.keep)
  IsAdvance intake before front after (Refused reason) =
      (place : ℕ) × (length (before.read.bytes ++ front) ≡ place + 1)
      × IsRefused intake.rules (before.read.bytes ++ front) place reason
  IsAdvance intake before front after NoMemory =
      EndIn front (λ first last. CompletesUnit intake.rules (before.read.bytes ++ first) before.read.items last)
      × intake.keeper.may_answer answer.NoMemory
  IsAdvance intake before front after Failed = ⊥

-- the news is such that no item is complete with it, and more may follow
abbrev pub awaits_more : News → Bool
awaits_more More = true
awaits_more Whole = true
awaits_more (Open head) = true
awaits_more news = false

-- a fact where the news is such that nothing follows it
abbrev pub OnLastNews : News → Type 0 → Type 0
OnLastNews (Refused reason) P = P
OnLastNews NoMemory P = P
OnLastNews Failed P = P
OnLastNews news P = Unit {0}
