-- Where a key leads a station.
use Rattle.std.proofs.Common.{ℕ, List, Option, Some, None, Ok}
use Rattle.ws_keys.specs.declared.answer.Answer.{Answer}
use Rattle.ws_keys.specs.declared.answer.Answer.TheVariants.{Read, Attention, SystemRequest}
use Rattle.ws_end.specs.station.Stations.{EndStateOf, IsKeyedOn, ItemsOf, ReachedOn, StationOf}
use Rattle.ws_entry.specs.Following.{on_entry}
use Rattle.ws_entry.specs.declared.typed_key.TypedKey.{TypedKey}

module _ (old new : StationOf on_entry) (bytes : List ℕ) (items : ItemsOf on_entry) (state : EndStateOf on_entry)
    (key : TypedKey) where
  -- a key that isn't refused leads to a station that these bytes lead to
  pub leads : (sent : Option Answer) → IsKeyedOn on_entry old new bytes items state key (Ok sent)
      → (next : EndStateOf on_entry) × ReachedOn on_entry new bytes items next
  leads None k = (k.0, k.2)
  leads (Some (Read body)) k = (k.0, k.5)
  leads (Some Attention) k = (state, k.1)
  leads (Some SystemRequest) k = (state, k.1)
