-- What values, and what words of the stream, make of an open record (RFC 1205, section 3).

use Rattle.std.specs.Prelude.{◌≡◌, ◌≢◌, ℕ, List, [], ◌∷◌, ◌++◌, ◌⊎◌, Some, None, drop}
use Rattle.std.specs.List.{AllByRecursion}
use Rattle.ws_code.specs.Code.{Rules}
use Rattle.ws_code.specs.Keep.{Keeper}
use Rattle.ws_code.specs.Run.{Intake, WithKeep, with_keep}
use Rattle.ws_code.specs.declared.keep.Kept.TheVariants as answer
use Rattle.ws_telnet.specs.declared.codes.TheConstants.{IAC}
use Rattle.ws_telnet.specs.declared.word.Word.{Word}
use Rattle.ws_telnet.specs.declared.word.Word.TheVariants as word
use Rattle.ws_record.specs.declared.news.News.{News}
use Rattle.ws_record.specs.declared.news.News.TheVariants.{More, Unit as Whole, Open, Close, Telnet, Refused, NoMemory}
use Rattle.ws_record.specs.OpenRecord.{RecordSoFar, no_record, Keeping, HasRead, IsDataRefused, IsEndRefused}
use Rattle.ws_record.specs.DataStep.{IsWholeRecord}

-- no byte is FF
abbrev pub ArePlain : List ℕ → Type 0
ArePlain bytes = AllByRecursion (λ b. b ≢ IAC) bytes

module _ {U K : Type 0} where
  -- whatever the one keep held, the other holds with these units after it, and was told of these values
  abbrev pub KeepsTold : Keeper U K → K → K → List U → List ℕ → Type 0
  KeepsTold keeper old new more values =
      (units : List U) (told : List ℕ) → keeper.holds old units told
      → keeper.holds new (units ++ more) (told ++ values)

  -- there are units only if the keep goes on with each
  abbrev pub OnlyIfOn : Keeper U K → List U → Type 0
  OnlyIfOn keeper units = (units ≡ []) ⊎ keeper.may_answer answer.GoOn

-- the values end with one that is so, after the others
abbrev pub EndIn : List ℕ → (List ℕ → ℕ → Type 0) → Type 0
EndIn values Q = (front : List ℕ) × (last : ℕ) × (values ≡ front ++ last ∷ []) × Q front last

module _ {U : Type 0} where
  -- the record with these values more, and these units
  abbrev pub grown : RecordSoFar U → List ℕ → List U → RecordSoFar U
  grown so_far values more = record {
    bytes = so_far.bytes ++ values;
    head = so_far.head;
    units = so_far.units ++ more;
  }

module _ {Place U : Type 0} where
  -- what a byte makes of a header
  abbrev pub IsHeaderStep : Rules Place U → Keeping Place → RecordSoFar U → ℕ → News → Type 0
  IsHeaderStep rules new so_far byte More = HasRead rules new (record so_far { bytes = so_far.bytes ++ byte ∷ [] })
  IsHeaderStep rules new so_far byte (Open head) = (so_far.head ≡ None)
      × HasRead rules new (record so_far { bytes = so_far.bytes ++ byte ∷ []; head = Some head })
  IsHeaderStep rules new so_far byte (Refused reason) = IsDataRefused rules so_far.bytes byte reason
  IsHeaderStep rules new so_far byte news = ⊥

  -- What values make of a record: its body grows, up to a unit with which the keep has enough; or its header is whole,
  -- and no byte of its body is there; or the last value is refused, or completes a unit that isn't kept.
  abbrev pub IsTaken : {K : Type 0} → Intake Place U K → WithKeep (RecordSoFar U) K → List ℕ
      → WithKeep (Keeping Place) K → News → Type 0
  IsTaken intake before values after More =
      (more : List U) × (told : List ℕ) × HasRead intake.rules after.read (grown before.read values more)
      × (drop 10 (before.read.bytes ++ values) ≡ drop 10 before.read.bytes ++ told)
      × KeepsTold intake.keeper before.keep after.keep more told × OnlyIfOn intake.keeper more
  IsTaken intake before values after Whole =
      (others : List U) × (unit : U) × (told : List ℕ)
      × HasRead intake.rules after.read (grown before.read values (others ++ unit ∷ []))
      × (drop 10 (before.read.bytes ++ values) ≡ drop 10 before.read.bytes ++ told)
      × KeepsTold intake.keeper before.keep after.keep (others ++ unit ∷ []) told × OnlyIfOn intake.keeper others
      × (after.read.begun ≡ []) × intake.keeper.may_answer answer.Enough
  IsTaken intake before values after (Open head) = (before.read.head ≡ None)
      × HasRead intake.rules after.read (record before.read { bytes = before.read.bytes ++ values; head = Some head })
      × (after.keep ≡ before.keep)
      × (drop 10 (before.read.bytes ++ values) ≡ [])
  IsTaken intake before values after (Refused reason) =
      EndIn values (λ front last. (reader : Keeping Place) × (more : List U)
      × HasRead intake.rules reader (grown before.read front more)
      × IsDataRefused intake.rules (before.read.bytes ++ front) last reason × OnlyIfOn intake.keeper more
      × ((told : List ℕ) × KeepsTold intake.keeper before.keep after.keep more told))
  IsTaken intake before values after NoMemory =
      EndIn values (λ front last. (reader : Keeping Place) × (more : List U) × (unit : U)
      × HasRead intake.rules reader (grown before.read (front ++ last ∷ []) (more ++ unit ∷ []))
      × (reader.begun ≡ []) × intake.keeper.may_answer answer.NoMemory × OnlyIfOn intake.keeper more
      × ((at_front : Keeping Place) × HasRead intake.rules at_front (grown before.read front more))
      × ((told : List ℕ) × KeepsTold intake.keeper before.keep after.keep more told))
  IsTaken intake before values after news = ⊥

  -- what the end of a record makes of it: it is whole, and no other is open; or it can't end here
  abbrev pub IsRecordEnd : Rules Place U → RecordSoFar U → Keeping Place → News → Type 0
  IsRecordEnd rules so_far reader (Close head) = IsWholeRecord rules so_far head × HasRead rules reader no_record
  IsRecordEnd rules so_far reader (Refused reason) = IsEndRefused rules so_far.bytes reason
  IsRecordEnd rules so_far reader news = ⊥

  -- what a word makes of it: the value FF is taken, an EOR ends it, and any other word leaves it alone
  abbrev pub IsWordTaken : {K : Type 0} → Intake Place U K → RecordSoFar U → WithKeep (Keeping Place) K → Word
      → WithKeep (Keeping Place) K → News → Type 0
  IsWordTaken intake so_far before word.More after news = (news ≡ More) × (after ≡ before)
  IsWordTaken intake so_far before word.Data after news =
      IsTaken intake (with_keep so_far before.keep) (IAC ∷ []) after news
  IsWordTaken intake so_far before word.Eor after news =
      IsRecordEnd intake.rules so_far after.read news × (after.keep ≡ before.keep)
  IsWordTaken intake so_far before (word.Telnet said) after news = (news ≡ Telnet said) × (after ≡ before)
  IsWordTaken intake so_far before (word.Bad reason) after news =
      (news ≡ Refused reason) × (after.keep ≡ before.keep)
