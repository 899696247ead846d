-- What reacts to the items of a stream: a station, or a host end.

use Rattle.std.specs.Prelude.{◌≡◌, ℕ, ◌++◌, ◌∷◌, List, [], None, Result, Ok, Err, OnErr, IfOk}
use Rattle.ws_code.specs.Code.{Rules}
use Rattle.ws_record.specs.Encode.{plain_spelling}
use Rattle.ws_record.specs.declared.record.Item.{Item}
use Rattle.ws_end.specs.Acts.{Happening, Arrives, Does, Doing, Transitions, idle, as_list}
use Rattle.ws_end.specs.Reaction.{Output, Reaction, Refuses, GoesOn, goes_on}
use Rattle.ws_end.specs.declared.end_step.EndStep.{EndStep}
use Rattle.ws_end.specs.declared.driver.halt.Halt.{Halt}
use Rattle.ws_end.specs.declared.driver.halt.Halt.TheVariants.{Refused, Memory, Failed}

-- How it reacts. First the types of which this speaks: the states in which it may stand, what it makes of an item, what
-- it writes, and what is seen of it. Then what it does at an item, what of that is written and told, and what it does
-- at a request; in which state it stands, which bytes a reply has, for what it makes memory may be wanting, and what is
-- seen.
pub record ReactingOf (R U Request Event Reply : Type 0) : Type 1 where
  pub State : Type 0
  pub Made : Type 0
  pub PlaceV : Type 0
  pub V : Type 0
  pub Shown : Type 0
  pub out : Rules PlaceV V
  pub takes : State → Item U → Reaction State Made
  pub puts : Item U → Made → Output V Event
  pub acts : State → Request → Doing State V Event
  pub stands : R → List (Item U) → State → Type 0
  pub written : R → Reply → List ℕ
  pub wants : Made → Type 0
  pub shown : R → Shown

module _ {State Made V Event : Type 0} (puts : Made → Output V Event) where
  -- at an item it goes on as it reacts, and at a refused one does nothing
  abbrev pub at_reaction : State → Reaction State Made → Doing State V Event
  at_reaction s (Refuses reason) = idle s
  at_reaction s (GoesOn next made) =
      record { state = next; written = (puts made).items; events = as_list (puts made).event }

module _ {R U Request Event Reply : Type 0} (does : ReactingOf R U Request Event Reply) where
  -- what it does at what happens
  abbrev pub reacts_at : does.State → Happening U Request → Doing does.State does.V Event
  reacts_at s (Arrives item) = at_reaction (does.puts item) s (does.takes s item)
  reacts_at s (Does request) = does.acts s request

  -- its transitions: what it does at what happens, and which items it takes
  abbrev pub reacting_transitions : Transitions does.State U does.V Request Event
  reacting_transitions = record { at = reacts_at; takes = λ s item. goes_on (does.takes s item) }

  -- the item is refused for this reason, or goes on with this output, and stands in the state that it comes to; memory
  -- may be wanting for some that aren't refused
  abbrev pub IsReaction : R → List (Item U) → (does.Made → Output does.V Event) → Reaction does.State does.Made
      → Result (EndStep Event Reply) Halt → Type 0
  IsReaction new items puts reaction (Ok step) = (next : does.State) × (made : does.Made) ×
      (reaction ≡ GoesOn next made) × (does.written new step.reply ≡ plain_spelling does.out (puts made).items) ×
      (step.event ≡ (puts made).event) × does.stands new items next
  IsReaction new items puts reaction (Err (Refused reason)) = reaction ≡ Refuses reason
  IsReaction new items puts reaction (Err Memory) = (next : does.State) × (made : does.Made)
      × (reaction ≡ GoesOn next made) × does.wants made
  IsReaction new items puts reaction (Err Failed) = ⊥

  -- it does what the item asks for, after others
  abbrev pub Reacts : R → Item U → R → Result (EndStep Event Reply) Halt → Type 0
  Reacts old item new result = (items : List (Item U)) (state : does.State) → does.stands old items state
      → IsReaction new (items ++ item ∷ []) (does.puts item) (does.takes state item) result

  -- a refusal leaves it as it was, and what is seen of it changes with an event alone
  abbrev pub Settles : R → R → Result (EndStep Event Reply) Halt → Type 0
  Settles old new result = OnErr result (new ≡ old)
      × IfOk result (λ step. step.event ≡ None → does.shown new ≡ does.shown old)
