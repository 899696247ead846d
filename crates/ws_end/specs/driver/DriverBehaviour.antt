-- How a driver behaves, as whoever attaches it to devices or to a wire sees it

use Rattle.std.specs.Prelude.{◌≡◌, ℕ, ◌+◌, ◌^◌, ◌<◌, ◌++◌, ◌∷◌, List, [], IsSome, length}
use Rattle.ws_end.specs.Acts.{Act, Traces, protocol_of}
use Rattle.ws_end.specs.Behaviour.{Behaviour}
use Rattle.ws_end.specs.declared.refusal.Refusal.{Refusal}
use Rattle.ws_end.specs.declared.refusal.Refusal.TheVariants.{Failed}
use Rattle.ws_end.specs.driver.Driven.{Driven, Driving, IsReached, AtDriver, Come, AreSilent, TakesNoMore, IsWhy}
use Rattle.ws_end.specs.driver.Driven.{transitions_of}

module _ {R K Place U Request Event Reply : Type 0} (d : Driving R K Place U Request Event Reply) where
  -- the acts lead from one driver to another, which wrote and told this in them
  abbrev pub DriverTraces : Driven R K Place → List (Act Request) → List ℕ → List Event → Driven R K Place → Type 0
  DriverTraces = Traces (protocol_of d.rules d.does.out (transitions_of d)) (IsReached d) TakesNoMore

  -- It takes these bytes, writes and tells nothing at them, and refuses the one after them. Where it is stopped, it
  -- refuses the first, for that alone.
  pub record DriverRefuses (old : Driven R K Place) (prefix : List ℕ) (byte : ℕ) (why : Refusal)
      (new : Driven R K Place) : Type 0 where
    pub led : AtDriver d old (λ bytes items state. length bytes + length prefix + 1 < 2 ^ 64
        → Come d (λ bytes' items' state'. IsWhy d why (bytes' ++ byte ∷ []) items' state'
        × d.does.stands new.reacts items' state') bytes items state prefix [] [])
    pub counted : AtDriver d old (λ bytes items state. length bytes + length prefix + 1 < 2 ^ 64
        → new.live.taken ≡ length bytes + length prefix + 1)
    pub seen : d.does.shown new.reacts ≡ d.does.shown old.reacts
    pub shut : TakesNoMore old → (prefix ≡ []) × (why ≡ Failed) × (new.reacts ≡ old.reacts)

  -- it takes these bytes, and writes and tells nothing at them; where it is stopped, none
  pub record DriverSilent (old : Driven R K Place) (came : List ℕ) : Type 0 where
    pub led : AtDriver d old (λ bytes items state. length bytes + length came + 1 < 2 ^ 64
        → AreSilent d bytes items state came)
    pub shut : TakesNoMore old → came ≡ []

  -- how it behaves
  abbrev pub driver_behaviour : Behaviour (Driven R K Place) Request Event
  driver_behaviour = record {
    traces = DriverTraces;
    refuses = DriverRefuses;
    silent = DriverSilent;
    over = λ driver. IsSome driver.ended;
  }
