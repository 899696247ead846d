-- A key at a station, and Enter after it where the open field's format word asks for that (SC30-3533, field format
-- word, auto enter).
use Rattle.std.specs.Prelude.{◌≡◌, ◌⊎◌, ℕ, List, Bool, true, false, Option, None, Result, Ok, Err}
use Rattle.ws_code.specs.declared.code_page.CodePage.{CodePage}
use Rattle.ws_screen.specs.ScreenParts.{ScreenParts}
use Rattle.ws_keys.specs.declared.answer.Answer.{Answer}
use Rattle.ws_keys.specs.declared.key.Key.TheVariants.{Aid}
use Rattle.ws_extended.specs.ExtendedElements.{extended_rules}
use Rattle.ws_end.specs.declared.station.key_fault.KeyFault.{KeyFault}
use Rattle.ws_end.specs.station.Displays.{OnDisplay, on_display}
use Rattle.ws_end.specs.station.Stations.{EndStateOf, IsKeyedOn, ItemsOf, ReachedOn, StationOf}
use Rattle.ws_extended_station.specs.declared.extended_key.ExtendedKey.{ExtendedKey}
use Rattle.ws_extended_station.specs.declared.extended_key.ExtendedKey.TheVariants.{Profile, Reset}
use Rattle.ws_entry.specs.EntryDisplays.{by_format_words}
use Rattle.ws_entry.specs.EntryRules.{is_followed}
use Rattle.ws_entry.specs.declared.typed_key.TypedKey.{TypedKey}

-- what the station stands on
abbrev pub on_entry : OnDisplay
on_entry = on_display extended_rules by_format_words

-- Enter follows a key that was carried out on this screen
abbrev pub follows : ScreenParts → ExtendedKey → Bool
follows s Reset = false
follows s (Profile key) = is_followed s key

-- Enter, at a code page
abbrev pub enter : CodePage → TypedKey
enter page = record { key = Profile (Aid 0xF1); page = page }

-- what Enter gives, and what of it is told: that it is refused isn't (own choice)
abbrev pub IsEntered : StationOf on_entry → StationOf on_entry → List ℕ → ItemsOf on_entry → EndStateOf on_entry
    → CodePage → Option Answer → Type 0
IsEntered old new bytes items state page told =
    IsKeyedOn on_entry old new bytes items state (enter page) (Ok told)
    ⊎ ((fault : KeyFault) × IsKeyedOn on_entry old new bytes items state (enter page) (Err fault) × (told ≡ None))

-- Enter after a key: the station that the key leads to, and what Enter gives there
abbrev pub IsFollowedByEnter : StationOf on_entry → StationOf on_entry → List ℕ → ItemsOf on_entry → EndStateOf on_entry
    → TypedKey → Result (Option Answer) KeyFault → Type 0
IsFollowedByEnter old new bytes items state key result = (mid : StationOf on_entry) × (sent : Option Answer)
    × IsKeyedOn on_entry old mid bytes items state key (Ok sent)
    × (next : EndStateOf on_entry) × ReachedOn on_entry mid bytes items next
    × (told : Option Answer) × IsEntered mid new bytes items next key.page told × (result ≡ Ok told)

-- what a key gives: where Enter follows and the key isn't refused, that too; else what the key gives alone
abbrev pub IsPressedWithEnter : StationOf on_entry → StationOf on_entry → List ℕ → ItemsOf on_entry
    → EndStateOf on_entry → TypedKey → Result (Option Answer) KeyFault → Type 0
IsPressedWithEnter old new bytes items state key result =
    ((follows old.reacts.screen.display.display.screen key.key ≡ true)
    × IsFollowedByEnter old new bytes items state key result)
    ⊎ (((follows old.reacts.screen.display.display.screen key.key ≡ true)
    → (fault : KeyFault) × (result ≡ Err fault)) × IsKeyedOn on_entry old new bytes items state key result)
