-- A station that no record ends: each stands for itself. One that is refused is answered, and nothing else comes of it
-- (RFC 1205, flag ERR)

use Rattle.std.specs.Prelude.{◌≡◌, ℕ, List, [], ◌∷◌, ◌++◌, ◌⊎◌, Bool, false, true, ◌&&◌, Option, length}
use Rattle.ws_code.specs.Code.{IsSpelled, IsUnfinished, IsPrefix}
use Rattle.ws_code.specs.declared.code.Push.{Push}
use Rattle.ws_code.specs.declared.code.Push.TheVariants.{More, Unit as Whole, Bad}
use Rattle.ws_code.specs.declared.reason.Reason.{Reason}
use Rattle.ws_code.specs.declared.reason.Reason.TheVariants.{RecordBeforeNegotiation}
use Rattle.ws_telnet.specs.Token.{token_rules}
use Rattle.ws_telnet.specs.declared.token.Token.{Token}
use Rattle.ws_telnet.specs.declared.token.Token.TheVariants.{Data, Eor, Telnet as TelnetToken}
use Rattle.ws_nego.specs.Options.{telnet_bytes}
use Rattle.ws_nego.specs.Station.{station_answer, station_allows_records}
use Rattle.ws_identity.specs.Environ.{EnvironState}
use Rattle.ws_record.specs.declared.record.Item.{Item}
use Rattle.ws_record.specs.declared.record.Item.TheVariants.{Record as RecordItem}
use Rattle.ws_record.specs.declared.record.Record.{Record}
use Rattle.ws_record.specs.Encode.{plain_spelling}
use Rattle.ws_record.specs.Grammar.{IsRecord, record_bytes}
use Rattle.ws_end.specs.Acts.{Act, Came, Did, Doing}
use Rattle.ws_end.specs.Reaction.{Refuses, GoesOn}
use Rattle.ws_end.specs.declared.end_step.Applied.{Applied}
use Rattle.ws_end.specs.station.Displays.{OnDisplay, EndStateOn}
use Rattle.ws_end.specs.station.StationTransitions.{takes_on, key_on, at_key_on}
use Rattle.ws_end.specs.station.Stations.{EndStateOf}
use Rattle.ws_lasting.specs.Identity.{environ_after, reply_to}
use Rattle.ws_lasting.specs.Negative.{is_of_record, negative}
use Rattle.ws_lasting.specs.Records.{IsUnfit, IsSpoilt}
use Rattle.ws_lasting.specs.declared.record_event.RecordEvent.{RecordEvent}
use Rattle.ws_lasting.specs.declared.record_event.RecordEvent.TheVariants.{CarriedOut, Refused}
use Rattle.ws_lasting.specs.declared.record_event.RefusedRecord.{RefusedRecord}

-- Where a station stands: on this state, with this of NEW-ENVIRON if it has an identity, after these bytes of an open
-- record and these of an unfinished token.
pub record Footing (H : Type 0) : Type 0 where
  pub state : EndStateOn H
  pub environ : Option EnvironState
  pub so_far : List ℕ
  pub begun : List ℕ

-- where it stands before the first byte
abbrev pub new_footing : {H : Type 0} → EndStateOn H → Option EnvironState → Footing H
new_footing state environ = record { state = state; environ = environ; so_far = []; begun = [] }

-- what a byte makes of tokens: the one that has begun grows by it, or ends with it, or none goes on with it
abbrev pub IsTokenStep : List ℕ → ℕ → List ℕ → Push Token → Type 0
IsTokenStep begun byte left More = (left ≡ begun ++ byte ∷ []) × IsUnfinished token_rules tt (begun ++ byte ∷ [])
IsTokenStep begun byte left (Whole t) = (left ≡ []) × IsSpelled token_rules tt (begun ++ byte ∷ []) t
IsTokenStep begun byte left (Bad reason) =
    (IsPrefix token_rules tt (begun ++ byte ∷ []) → ⊥) × (reason ≡ token_rules.reason tt begun byte)

module _ (on : OnDisplay) where
  abbrev pub FootingOn : Type 0
  FootingOn = Footing on.Happened

  -- the station goes on after a record that is refused for this reason
  abbrev pub may_pass_over : EndStateOf on → Reason → Bool
  may_pass_over state reason = is_of_record reason && station_allows_records state.options

  -- the record that has these bytes is carried out: the state that the station comes to, and what it writes
  abbrev pub IsPerformed : EndStateOf on → List ℕ → EndStateOf on → List ℕ → Type 0
  IsPerformed state bytes next written = (r : Record on.Reads) × IsRecord on.rules r × (bytes ≡ record_bytes on.rules r)
      × (writes : List (Item on.Writes)) × (takes_on on.does state (RecordItem r) ≡ GoesOn next writes)
      × (written ≡ plain_spelling on.does.out writes)

  -- the record that has these bytes is refused, by the screen before it
  abbrev pub IsDeclined : EndStateOf on → List ℕ → Reason → Type 0
  IsDeclined state bytes reason = (r : Record on.Reads) × IsRecord on.rules r × (bytes ≡ record_bytes on.rules r)
      × (takes_on on.does state (RecordItem r) ≡ Refuses reason)

  -- a token is refused after these bytes of a record, of which none is
  abbrev pub IsTokenRefused : EndStateOf on → List ℕ → Token → Reason → Type 0
  IsTokenRefused state so_far (Data b) reason = IsUnfit on.rules so_far (Data b) reason
  IsTokenRefused state so_far Eor reason = IsUnfit on.rules so_far Eor reason ⊎ IsDeclined state so_far reason
      ⊎ ((station_allows_records state.options ≡ false) × (reason ≡ RecordBeforeNegotiation))
  IsTokenRefused state so_far (TelnetToken t) reason = ⊥

  -- a record that has these bytes is refused: at one of them, or at its end
  abbrev pub IsRefusedFor : EndStateOf on → List ℕ → RefusedRecord → Type 0
  IsRefusedFor state bytes why =
      IsSpoilt on.rules bytes why ⊎ (IsTokenRefused state bytes Eor why.reason × (why.place ≡ length bytes))

  -- what a token makes of a station: where it stands then, what it writes, and what it tells
  abbrev pub IsAtToken : FootingOn → Token → FootingOn → List ℕ → List RecordEvent → Type 0
  IsAtToken at (Data b) next written told = (next.state ≡ at.state) × (next.environ ≡ at.environ)
      × (next.so_far ≡ at.so_far ++ b ∷ []) × (written ≡ []) × (told ≡ [])
  IsAtToken at (TelnetToken t) next written told =
      (next.state ≡ record { options = (station_answer at.state.options t).after; happened = at.state.happened })
      × (next.environ ≡ environ_after at.environ t) × (next.so_far ≡ at.so_far)
      × (written ≡ telnet_bytes (reply_to at.state.options at.environ t)) × (told ≡ [])
  IsAtToken at Eor next written told = (next.environ ≡ at.environ) × (next.so_far ≡ [])
      × ((IsPerformed at.state at.so_far next.state written × (told ≡ CarriedOut ∷ []))
      ⊎ ((next.state ≡ at.state) × (why : RefusedRecord) × (may_pass_over at.state why.reason ≡ true)
      × IsRefusedFor at.state at.so_far why × (written ≡ negative why.reason) × (told ≡ Refused why ∷ [])))

  -- what a byte makes of a station, by what it makes of tokens
  abbrev pub IsAtWord : FootingOn → Push Token → FootingOn → List ℕ → List RecordEvent → Type 0
  IsAtWord at More next written told = (next.state ≡ at.state) × (next.environ ≡ at.environ)
      × (next.so_far ≡ at.so_far) × (written ≡ []) × (told ≡ [])
  IsAtWord at (Whole t) next written told = IsAtToken at t next written told
  IsAtWord at (Bad reason) next written told = ⊥

  abbrev pub IsAtByte : FootingOn → ℕ → FootingOn → List ℕ → List RecordEvent → Type 0
  IsAtByte at byte next written told = (word : Push Token) × IsTokenStep at.begun byte next.begun word
      × IsAtWord at word next written told

  -- Acts one after another lead a station from where it stands to there. In them it wrote these bytes, and told these.
  abbrev pub Lasts : FootingOn → List (Act on.Pressed) → FootingOn → List ℕ → List RecordEvent → Type 0
  Lasts at [] next written told = (next ≡ at) × (written ≡ []) × (told ≡ [])
  Lasts at (Came byte ∷ acts) next written told = (mid : FootingOn) × (first rest : List ℕ)
      × (now later : List RecordEvent)
      × IsAtByte at byte mid first now × Lasts mid acts next rest later
      × (written ≡ first ++ rest) × (told ≡ now ++ later)
  Lasts at (Did key ∷ acts) next written told =
      let done : Doing (EndStateOf on) on.Writes Applied = at_key_on on.does at.state (key_on on.does at.state key) in
      (rest : List ℕ) × Lasts (record at { state = done.state }) acts next rest told
      × (written ≡ plain_spelling on.does.out done.written ++ rest)

  -- what a byte makes of tokens ends the session: no token goes on with it, or one is refused, and not as a record is
  abbrev pub IsFatalWord : FootingOn → Push Token → Reason → Type 0
  IsFatalWord at More reason = ⊥
  IsFatalWord at (Whole t) reason =
      IsTokenRefused at.state at.so_far t reason × (may_pass_over at.state reason ≡ false)
  IsFatalWord at (Bad bad) reason = reason ≡ bad

  -- the byte ends the session
  abbrev pub IsFatal : FootingOn → ℕ → Reason → Type 0
  IsFatal at byte reason = (word : Push Token) × (left : List ℕ) × IsTokenStep at.begun byte left word
      × IsFatalWord at word reason
