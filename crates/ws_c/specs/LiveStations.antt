-- Stations that no refused record ends, as C sees them: how they are made, and keys at them

use Rattle.std.specs.Prelude.{◌≡◌, ◌≢◌, ◌⊎◌, ℕ, ◌+◌, ◌^◌, ◌<◌, Bool, true, List, [], ◌∷◌, Option, Some, None, Result, Ok, Err}
use Rattle.std.specs.Prelude.{Box, IfNone, IfSome, OnErr, find}
use Rattle.std.specs.declared.alloc.Global.{Global}
use Rattle.std.specs.Option.{option_map_or}
use Rattle.ws_code.specs.CodePage.{page_number}
use Rattle.ws_code.specs.declared.code_page.CodePage.{CodePage}
use Rattle.ws_nego.specs.Terminal.{terminal_named}
use Rattle.ws_nego.specs.declared.terminal.TerminalType.{TerminalType}
use Rattle.ws_identity.specs.Environ.{EnvironState, new_environ}
use Rattle.ws_identity.specs.Names.{capitals, is_device_name, is_keyboard_type}
use Rattle.ws_identity.specs.declared.identity.Identity.{Identity}
use Rattle.ws_screen.specs.ScreenParts.{ScreenParts}
use Rattle.ws_keys.specs.declared.answer.Answer.{Answer}
use Rattle.ws_keys.specs.declared.key.Key.{Key}
use Rattle.ws_keys.specs.declared.key.KeyRefusal.{KeyRefusal}
use Rattle.ws_extended_station.specs.declared.extended_key.ExtendedKey.{ExtendedKey}
use Rattle.ws_extended_station.specs.declared.extended_key.ExtendedKey.TheVariants.{Profile}
use Rattle.ws_end.specs.Ends.{IsShut}
use Rattle.ws_end.specs.declared.station.key_fault.KeyFault.{KeyFault}
use Rattle.ws_end.specs.declared.station.key_fault.KeyFault.TheVariants.{Failed}
use Rattle.ws_end.specs.station.StationTransitions.{new_state_on}
use Rattle.ws_entry.specs.EntryRules.{lacks}
use Rattle.ws_entry.specs.Following.{enter, follows, on_entry}
use Rattle.ws_entry.specs.declared.typed_key.TypedKey.{TypedKey}
use Rattle.ws_lasting.specs.Behaviour.{lasting_behaviour}
use Rattle.ws_lasting.specs.Footings.{AtLasting, IsKeyHeard, StandsAt, bytes_written}
use Rattle.ws_lasting.specs.Lasting.{FootingOn, new_footing}
use Rattle.ws_c.specs.Calls.{Crossed, IsKeyTold, Returned, TellsOnly, field_index, told_length}
use Rattle.ws_c.specs.Keys.{refusal_number}
use Rattle.ws_c.specs.LiveEnds.{IsPiecePush}
use Rattle.ws_c.specs.LiveParts.{HeldLive, IsTypedOn, LiveParts, left_live, page_told, live_screen}
use Rattle.ws_c.specs.Strokes.{AreStruck, keys_of_stroke}
use Rattle.ws_c.specs.declared.machine.Machine.{Machine}
use Rattle.ws_c.specs.declared.machine.Machine.TheVariants.{LiveStation}
use Rattle.ws_c.specs.declared.state_told.TheConstants.{NO_FIELD}
use Rattle.ws_c.specs.declared.status.Status.{Status}
use Rattle.ws_c.specs.declared.status.Status.TheVariants.{Done, NoMemory, InUse, NoRoom, BadArgument}
use Rattle.ws_c.specs.declared.stroke.Stroke.{Stroke}
use Rattle.ws_c.specs.declared.told.PushedTold.{PushedTold}
use Rattle.ws_c.specs.declared.told.Told.{Told}

-- an identity as C names it: by the number of a code page, 0 for none at all, and by names of no byte where there is none
pub record IdentityNames : Type 0 where
  pub page : ℕ
  pub device : List ℕ
  pub keyboard : List ℕ

-- these
abbrev pub identity_names : ℕ → List ℕ → List ℕ → IdentityNames
identity_names page device keyboard = record { page = page; device = device; keyboard = keyboard }

-- the name of these bytes, in capitals: none where there are none
abbrev pub IsNameOf : (List ℕ → Bool) → List ℕ → Option (List ℕ) → Type 0
IsNameOf is_name [] name = name ≡ None
IsNameOf is_name (b ∷ bs) name = (is_name (capitals (b ∷ bs)) ≡ true) × (name ≡ Some (capitals (b ∷ bs)))

-- the identity that is named so
pub record IsNamedSo (g : IdentityNames) (identity : Identity) : Type 0 where
  pub page : page_number identity.page ≡ g.page
  pub device : IsNameOf is_device_name g.device identity.device
  pub keyboard : IsNameOf is_keyboard_type g.keyboard identity.keyboard

-- the identity that is named so, where there is to be one
abbrev pub IsGivenIdentity : IdentityNames → Option Identity → Type 0
IsGivenIdentity g None = g.page ≡ 0
IsGivenIdentity g (Some identity) = (g.page ≢ 0) × IsNamedSo g identity

-- none is named so
abbrev pub NamesNone : IdentityNames → Type 0
NamesNone g = (identity : Option Identity) → IsGivenIdentity g identity → ⊥

-- NEW-ENVIRON of a new station, where it has an identity
abbrev pub environ_of : Option Identity → Option EnvironState
environ_of None = None
environ_of (Some identity) = Some (new_environ identity)

-- a new station of the terminal and the identity, of which nothing waits
pub record IsFreshLive (terminal : TerminalType) (identity : Option Identity) (held : HeldLive) : Type 0 where
  pub stands : StandsAt on_entry held.end (new_footing (new_state_on on_entry.does terminal) (environ_of identity))
  pub counts : held.end.counts ≡ record { carried_out = 0; refused = 0; last = None }
  pub taken : held.end.taken ≡ 0
  pub none : held.reply ≡ None

-- what a new one crosses as: it is made for the terminal of the name, with the identity, or the handle stays as it was
abbrev pub IsLiveNew : List ℕ → IdentityNames → Option Machine → Option Machine → Status → Type 0
IsLiveNew name g (Some held) now status = (status ≡ InUse) × (now ≡ Some held)
IsLiveNew name g None now Done = (terminal : TerminalType) × (identity : Option Identity) × (held : Box HeldLive Global)
    × (terminal_named name ≡ Some terminal) × IsGivenIdentity g identity × (now ≡ Some (LiveStation held))
    × IsFreshLive terminal identity held.value
IsLiveNew name g None now BadArgument = ((terminal_named name ≡ None) ⊎ NamesNone g) × (now ≡ None)
IsLiveNew name g None now NoMemory = (terminal : TerminalType) × (identity : Option Identity)
    × (terminal_named name ≡ Some terminal) × IsGivenIdentity g identity × (now ≡ None)
IsLiveNew name g None now status = ⊥

-- what a push of bytes into one crosses as
abbrev pub IsLivePush : List ℕ → Crossed PushedTold → HeldLive → HeldLive → Type 0
IsLivePush = IsPiecePush (lasting_behaviour on_entry) (bytes_written on_entry)

-- A key at a station, typed on its page: what comes of it wherever the station stands. One that is shut refuses it, and
-- where it is refused the station stays as it was.
pub record IsTypedAt (old new : LiveParts) (key : ExtendedKey) (result : Result (Option Answer) KeyFault)
    (Comes : TypedKey → FootingOn on_entry → Type 0) : Type 0 where
  pub page : CodePage
  pub typed : IsTypedOn (page_told old) page
  pub comes : AtLasting on_entry old (λ at. old.taken + 1 < 2 ^ 64 → Comes (record { key = key; page = page }) at)
  pub shut : IsShut old.ended old.taken → result ≡ Err Failed
  pub same : OnErr result (new ≡ old)

-- what a key of the profile does at one
abbrev pub is_live_keyed : LiveParts → LiveParts → Key → Result (Option Answer) KeyFault → Type 0
is_live_keyed old new key result =
    IsTypedAt old new (Profile key) result (λ typed at. IsKeyHeard on_entry old new at typed result)

-- what Enter gives, and what of it is told: that it is refused isn't
abbrev pub IsEnterHeard : LiveParts → LiveParts → FootingOn on_entry → CodePage → Option Answer → Type 0
IsEnterHeard old new at page told = IsKeyHeard on_entry old new at (enter page) (Ok told)
    ⊎ ((fault : KeyFault) × IsKeyHeard on_entry old new at (enter page) (Err fault) × (told ≡ None))

-- Enter after a key: the station that the key leads to, and what Enter gives there
abbrev pub IsHeardWithEnter : LiveParts → LiveParts → FootingOn on_entry → TypedKey → Result (Option Answer) KeyFault
    → Type 0
IsHeardWithEnter old new at key result = (mid : LiveParts) × (sent : Option Answer)
    × IsKeyHeard on_entry old mid at key (Ok sent) × (next : FootingOn on_entry) × StandsAt on_entry mid next
    × (told : Option Answer) × IsEnterHeard mid new next key.page told × (result ≡ Ok told)

-- what a key gives: where Enter follows and the key isn't refused, that too; else what the key gives alone
abbrev pub IsHeardThrough : LiveParts → LiveParts → FootingOn on_entry → TypedKey → Result (Option Answer) KeyFault
    → Type 0
IsHeardThrough old new at key result =
    ((follows (live_screen old) key.key ≡ true) × IsHeardWithEnter old new at key result)
    ⊎ (((follows (live_screen old) key.key ≡ true) → (fault : KeyFault) × (result ≡ Err fault))
    × IsKeyHeard on_entry old new at key result)

-- what a key gives at a station, with the Enter that follows some
abbrev pub IsLiveKey : LiveParts → LiveParts → ExtendedKey → Result (Option Answer) KeyFault → Type 0
IsLiveKey old new key result =
    IsTypedAt old new key result (λ typed at. IsHeardThrough old new at typed result)

-- what a key crosses as; where something waits it isn't pressed
pub record IsLivePress (key : ExtendedKey) (call : Crossed Told) (old new : HeldLive) : Type 0 where
  pub waits : left_live old ≢ [] → (new ≡ old) × TellsOnly call NoRoom (told_length 0)
  pub pressed : left_live old ≡ [] → (result : Result (Option Answer) KeyFault)
      × IsLiveKey old.end new.end key result × IsKeyTold result call × (new.reply ≡ None)

-- what a stroke crosses as; where something waits no key is pressed
pub record IsLiveStroke (stroke : Stroke) (gave : Returned Told) (old new : HeldLive) : Type 0 where
  pub waits : left_live old ≢ [] → (gave.status ≡ NoRoom) × (new ≡ old) × (gave.told ≡ told_length 0)
  pub pressed : left_live old ≡ []
      → AreStruck is_live_keyed (keys_of_stroke stroke (live_screen old.end)) gave old.end new.end × (new.reply ≡ None)

-- the index of the first field that lacks what a refusal tells; where none does, FFFF
abbrev pub missing_index : ScreenParts → KeyRefusal → ℕ
missing_index s refusal = option_map_or (λ f. field_index s.fields f.start) (find (lacks s refusal) s.fields) NO_FIELD

-- the refusal of a number, where there is one
pub record IsRefusalFrom (number : ℕ) (refusal : Option KeyRefusal) : Type 0 where
  pub some : IfSome refusal (λ r. refusal_number r ≡ number)
  pub none : IfNone refusal ((r : KeyRefusal) → refusal_number r ≡ number → ⊥)

-- what is told of the field that a refusal names, where there is such a refusal
abbrev pub IsMissingTold : Option KeyRefusal → LiveParts → Status → ℕ → Type 0
IsMissingTold None s status field = (status ≡ BadArgument) × (field ≡ 0)
IsMissingTold (Some refusal) s status field = (status ≡ Done) × (field ≡ missing_index (live_screen s) refusal)
