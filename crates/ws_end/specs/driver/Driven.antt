-- What drives it: a live decoder, what is kept of the open record, and why it takes no more bytes.

use Rattle.std.specs.Prelude.{◌≡◌, ◌≢◌, ℕ, ◌+◌, ◌-◌, ◌^◌, ◌<◌, ◌≤◌, ◌⊎◌, ◌++◌, ◌∷◌, List, [], Option, Some, None}
use Rattle.std.specs.Prelude.{IsSome, OnOk, OnErr, Result, Ok, Err, IfOk, IfErr, MatchResult, length, take, drop}
use Rattle.ws_code.specs.Code.{Rules, IsChain, spelling_of}
use Rattle.ws_code.specs.Keep.{Keeper}
use Rattle.ws_code.specs.declared.keep.Kept.TheVariants.{NoMemory}
use Rattle.ws_telnet.specs.Words.{telnet_of}
use Rattle.ws_telnet.specs.declared.token.Sub.{Sub as ASub}
use Rattle.ws_record.specs.DataStep.{record_of}
use Rattle.ws_record.specs.Encode.{plain_spelling}
use Rattle.ws_record.specs.Live.{Watching, Leads, CompletesUnit}
use Rattle.ws_record.specs.OpenRecord.{RecordSoFar}
use Rattle.ws_record.specs.Refusal.{IsRefused}
use Rattle.ws_record.specs.Taking.{EndIn}
use Rattle.ws_record.specs.declared.news.News.{News}
use Rattle.ws_record.specs.declared.news.News.TheVariants as news
use Rattle.ws_record.specs.declared.record.Item.{Item}
use Rattle.ws_record.specs.declared.record.Item.TheVariants.{Record as RecordItem, Telnet as TelnetItem}
use Rattle.ws_end.specs.Acts.{IsTrace, Transitions, HoldsItems, all_came, as_list, protocol_of}
use Rattle.ws_end.specs.Ends.{IsShut}
use Rattle.ws_end.specs.Reaction.{Refuses, GoesOn}
use Rattle.ws_end.specs.declared.end_step.EndFed.{EndFed}
use Rattle.ws_end.specs.declared.end_step.EndStep.{EndStep}
use Rattle.ws_end.specs.declared.refusal.Refusal.{Refusal}
use Rattle.ws_end.specs.declared.refusal.Refusal.TheVariants.{At, Failed, Memory}
use Rattle.ws_end.specs.declared.driver.halt.Halt.{Halt}
use Rattle.ws_end.specs.declared.driver.halt.Halt.TheVariants as halt
use Rattle.ws_end.specs.driver.Reacting.{ReactingOf, Reacts, reacting_transitions}

-- what a driver keeps
pub record Driven (R K Place : Type 0) : Type 0 where
  pub live : Watching Place
  pub collector : K
  pub reacts : R
  pub ended : Option Refusal

-- what a driver stands on: the rules of what comes, what keeps the open record, and what reacts
pub record Driving (R K Place U Request Event Reply : Type 0) : Type 1 where
  pub rules : Rules Place U
  pub collects : Keeper U K
  pub does : ReactingOf R U Request Event Reply

-- it is driven by these rules, with this keep
abbrev pub driving : {R K Place U Request Event Reply : Type 0} → Rules Place U → Keeper U K
    → ReactingOf R U Request Event Reply → Driving R K Place U Request Event Reply
driving rules collects does = record { rules = rules; collects = collects; does = does }

-- the refusal of a byte that stands at this place
abbrev pub refusal_of : ℕ → Halt → Refusal
refusal_of place (halt.Refused reason) = At place reason
refusal_of place halt.Memory = Memory
refusal_of place halt.Failed = Failed

-- nothing is told
abbrev pub TellsNothing : {Event Reply A : Type 0} → Result (EndStep Event Reply) A → Type 0
TellsNothing (Ok step) = step.event ≡ None
TellsNothing (Err why) = Unit {0}

-- the driver takes no more
abbrev pub TakesNoMore : {R K Place : Type 0} → Driven R K Place → Type 0
TakesNoMore driver = IsShut driver.ended driver.live.taken

module _ {R K Place U Request Event Reply : Type 0} (d : Driving R K Place U Request Event Reply) where
  -- its transitions
  abbrev pub transitions_of : Transitions d.does.State U d.does.V Request Event
  transitions_of = reacting_transitions d.does

  -- The bytes lead to the driver: they hold these items, none of them is refused, and what was done at them left it on
  -- this state.
  pub record IsReached (driver : Driven R K Place) (bytes : List ℕ) (items : List (Item U))
      (state : d.does.State) : Type 0
    where
      pub so_far : RecordSoFar U
      pub reached : Leads d.rules driver.live bytes items so_far
      pub kept : d.collects.holds driver.collector so_far.units (drop 10 so_far.bytes)
      pub stands : d.does.stands driver.reacts items state
      pub works : driver.ended ≡ None

  -- this holds of whatever led to the driver
  abbrev pub AtDriver : Driven R K Place → (List ℕ → List (Item U) → d.does.State → Type 0) → Type 0
  AtDriver driver Holds = (bytes : List ℕ) (items : List (Item U)) (state : d.does.State)
      → IsReached driver bytes items state → Holds bytes items state

  -- After these bytes others come: none of their items is refused, this is written and told, and then this holds.
  abbrev pub Come : (List ℕ → List (Item U) → d.does.State → Type 0) → List ℕ → List (Item U) → d.does.State → List ℕ
      → List ℕ → List Event → Type 0
  Come Then bytes items state came =
      IsTrace (protocol_of d.rules d.does.out transitions_of) Then bytes items state (all_came {Request = Request} came)

  -- nothing is written or told at these bytes
  abbrev pub AreSilent : List ℕ → List (Item U) → d.does.State → List ℕ → Type 0
  AreSilent bytes items state came = Come (λ bytes' items' state'. Unit {0}) bytes items state came [] []

  -- the last of these bytes completes an item, and so it reacts
  pub record Completes (bytes : List ℕ) (items : List (Item U)) (Q : Item U → Type 0) : Type 0 where
    pub item : Item U
    pub holds : HoldsItems d.rules bytes (items ++ item ∷ [])
    pub so : Q item

  -- Why the last of these bytes is refused, where the others led to this state: no stream begins so, or the item that
  -- it completes is refused; or memory is wanting for a unit that is kept, or an item that isn't refused.
  abbrev pub IsWhy : Refusal → List ℕ → List (Item U) → d.does.State → Type 0
  IsWhy (At place reason) bytes items state = (length bytes ≡ place + 1)
      × (IsRefused d.rules bytes place reason
      ⊎ Completes bytes items (λ item. d.does.takes state item ≡ Refuses reason))
  IsWhy Memory bytes items state =
      (d.collects.may_answer NoMemory × EndIn bytes (λ before last. CompletesUnit d.rules before items last))
      ⊎ Completes bytes items (λ item. (next : d.does.State) × (made : d.does.Made)
      × (d.does.takes state item ≡ GoesOn next made) × d.does.wants made)
  IsWhy Failed bytes items state = ⊥

  -- The last of these bytes completes no item, and nothing is written or told; or one, at which it goes on so.
  abbrev pub GoesOnAt : Driven R K Place → List ℕ → List (Item U) → d.does.State → EndStep Event Reply → Type 0
  GoesOnAt new bytes items state step = (IsReached new bytes items state × (d.does.written new.reacts step.reply ≡ [])
      × (step.event ≡ None)) ⊎ ((item : Item U) × (next : d.does.State) × (made : d.does.Made)
      × (d.does.takes state item ≡ GoesOn next made)
      × (d.does.written new.reacts step.reply ≡ plain_spelling d.does.out (d.does.puts item made).items)
      × (step.event ≡ (d.does.puts item made).event) × IsReached new bytes (items ++ item ∷ []) next)

  -- what the last of these bytes gives, where no item is complete before it
  abbrev pub IsPrefixTaken : Driven R K Place → List ℕ → List (Item U) → d.does.State
      → Result (EndStep Event Reply) Refusal → Type 0
  IsPrefixTaken new bytes items state (Ok step) = GoesOnAt new bytes items state step
  IsPrefixTaken new bytes items state (Err why) = IsWhy why bytes items state × d.does.stands new.reacts items state

  -- What a prefix of a piece gives, of which no item is complete before its last byte.
  pub record TakesPrefix (old : Driven R K Place) (piece : List ℕ) (new : Driven R K Place)
      (prefix : EndFed Event Reply) : Type 0 where
    pub within : prefix.used ≤ length piece
    pub used : prefix.step ≢ Err Failed → 0 < prefix.used
    pub prefixed : AtDriver old (λ bytes items state. length bytes + length piece < 2 ^ 64
        → IsPrefixTaken new (bytes ++ take prefix.used piece) items state prefix.step)
    pub first : AtDriver old (λ bytes items state. (n : ℕ) → n < prefix.used
        → HoldsItems d.rules (bytes ++ take n piece) items)
    pub counted : old.live.taken + prefix.used < 2 ^ 64 → new.live.taken ≡ old.live.taken + prefix.used
    pub ended : old.ended ≡ None → MatchResult prefix.step (λ step. new.ended ≡ None) (λ why. new.ended ≡ Some why)
    pub seen : TellsNothing prefix.step → d.does.shown new.reacts ≡ d.does.shown old.reacts
    pub stays : OnErr prefix.step (new.reacts ≡ old.reacts)

  -- what the bytes bring: they lead on, and this is written and told; or the last of them is refused, after others at
  -- which nothing is
  abbrev pub Bring : List ℕ → List (Item U) → d.does.State → List ℕ → Driven R K Place
      → Result (EndStep Event Reply) Refusal → Type 0
  Bring bytes items state came new (Ok step) =
      Come (IsReached new) bytes items state came (d.does.written new.reacts step.reply) (as_list step.event)
  Bring bytes items state came new (Err why) = (0 < length came)
      × Come (λ bytes' items' state'. IsWhy why (bytes' ++ drop (length came - 1) came) items' state'
      × d.does.stands new.reacts items' state') bytes items state (take (length came - 1) came) [] []

  -- A driver that isn't stopped takes these bytes, which end where it refuses one.
  pub record DriverTakes (old : Driven R K Place) (came : List ℕ) (new : Driven R K Place)
      (result : Result (EndStep Event Reply) Refusal) : Type 0 where
    -- what they bring, and that nothing came before the last of them
    pub brings : AtDriver old (λ bytes items state. Bring bytes items state came new result)
    pub first : AtDriver old (λ bytes items state. (n : ℕ) → n < length came → AreSilent bytes items state
        (take n came))
    -- how many were taken, and whether it goes on
    pub counted : new.live.taken ≡ old.live.taken + length came
    pub ended : MatchResult result (λ step. new.ended ≡ None) (λ why. new.ended ≡ Some why)
    -- what is seen changes with an event alone
    pub seen : TellsNothing result → d.does.shown new.reacts ≡ d.does.shown old.reacts

  -- What a piece gives: bytes of it are taken up to and with the first that is refused or brings something, or all that
  -- can be counted. A driver that is stopped takes none.
  pub record DriverFeeds (old : Driven R K Place) (piece : List ℕ) (new : Driven R K Place) (fed : EndFed Event Reply) :
      Type 0 where
    pub within : fed.used ≤ length piece
    pub some : 0 < length piece → fed.step ≢ Err Failed → 0 < fed.used
    pub whole : IfOk fed.step (λ step. d.does.written new.reacts step.reply ≡ [] → step.event ≡ None
        → (fed.used ≡ length piece) ⊎ (new.live.taken + 1 ≡ 2 ^ 64))
    pub takes : (TakesNoMore old → ⊥) → DriverTakes old (take fed.used piece) new fed.step
    pub stopped : TakesNoMore old → (fed.step ≡ Err Failed) × (fed.used ≡ 0) × (new.reacts ≡ old.reacts)
    pub failed : IsSome old.ended → new ≡ old
    -- what a refusal leaves, and that what is seen changes with an event alone
    pub after : IfErr fed.step (λ why. old.ended ≡ None → new.ended ≡ Some why)
    pub seen : TellsNothing fed.step → d.does.shown new.reacts ≡ d.does.shown old.reacts
    -- where a byte alone is refused, all that reacts is as it was
    pub stays : length piece ≤ 1 → OnErr fed.step (new.reacts ≡ old.reacts)

  -- what a byte gives: what a piece of that byte alone does
  abbrev pub DriverPushes : Driven R K Place → ℕ → Driven R K Place → Result (EndStep Event Reply) Refusal → Type 0
  DriverPushes old byte new result = (used : ℕ)
      × DriverFeeds old (byte ∷ []) new (record { used = used; step = result })

  -- a step at which nothing is written or told
  abbrev pub IsSilent : R → Result (EndStep Event Reply) Refusal → Type 0
  IsSilent reacts result = (step : EndStep Event Reply) × (result ≡ Ok step) × (step.event ≡ None)
      × (d.does.written reacts step.reply ≡ [])

  -- how it ends where this was done
  abbrev pub IsSettled : Driven R K Place → Result (EndStep Event Reply) Halt → Driven R K Place
      → Result (EndStep Event Reply) Refusal → Type 0
  IsSettled old (Ok step) new result = (result ≡ Ok step) × (new ≡ old)
  IsSettled old (Err why) new result = (result ≡ Err (refusal_of (old.live.taken - 1) why))
      × (new ≡ record old { ended = Some (refusal_of (old.live.taken - 1) why) })

  -- what is made of news that came with the last byte; a subnegotiation and the open record are taken out
  abbrev pub IsNewsTaken : Driven R K Place → News → Driven R K Place → Result (EndStep Event Reply) Halt → Type 0
  IsNewsTaken old (news.Close head) new result = (new ≡ record old { collector = new.collector; reacts = new.reacts })
      × OnOk result (d.collects.holds new.collector [] [])
      × ((units : List U) → IsChain d.rules d.rules.first units → length (spelling_of d.rules units) ≤ 65525
      → d.collects.holds old.collector units (spelling_of d.rules units)
      → Reacts d.does old.reacts (RecordItem (record_of head units)) new.reacts result)
  IsNewsTaken old (news.Telnet word) new result = old.live.begun ≡ [] → (left : ASub)
      × (new ≡ record old { live = record old.live { sub = left }; reacts = new.reacts })
      × Reacts d.does old.reacts (TelnetItem (telnet_of word old.live.sub)) new.reacts result
  IsNewsTaken old (news.Refused reason) new result = (result ≡ Err (halt.Refused reason)) × (new ≡ old)
  IsNewsTaken old news.NoMemory new result = (result ≡ Err halt.Memory) × (new ≡ old)
  IsNewsTaken old news.Failed new result = (result ≡ Err halt.Failed) × (new ≡ old)
  IsNewsTaken old other new result = (step : EndStep Event Reply) × (result ≡ Ok step) × (step.event ≡ None)
      × (d.does.written old.reacts step.reply ≡ []) × (new ≡ old)
