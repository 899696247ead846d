use Rattle.ws_lasting.proofs.Common as C
use C.{◌≡◌, ℕ, List, [], ◌∷◌, ◌++◌, refl, ap, ◌∙◌, inl, inr, append-nil, length, arith, ◌<◌, ◌+◌, ◌^◌, Option, Some}
use C.{None, Ok, Err, true, length-take-le, plain_spelling, Item, Arrives, as_list, goes_on, Reaction, Refuses, GoesOn}
use C.{EndStep, Refusal, Driven, Driving, IsReached, Come, DriverPushes, GoesOnAt, IsWhy, TakesNoMore, at_reaction}
use C.{trace_none, none_reached}

-- What a byte alone gives a driver.

one_told : {Event : Type 0} (event other : Option Event) → as_list event ≡ as_list other → event ≡ other
one_told None None e = refl
one_told None (Some b) e = cc
one_told (Some a) None e = cc
one_told (Some a) (Some b) e = cc

module _ {R K Place U Deed Event Reply : Type 0} (d : Driving R K Place U Deed Event Reply) (old new : Driven R K Place)
    (b : ℕ) (bytes : List ℕ) (items : List (Item U)) (state : d.does.State) where
  -- a byte that brings this completes no item, or one
  pub came_one : (step : EndStep Event Reply)
      → Come d (IsReached d new) bytes items state (b ∷ []) (d.does.written new.reacts step.reply) (as_list step.event)
      → GoesOnAt d new (bytes ++ b ∷ []) items state step
  came_one step g = elim g.happen [
    | inl h ↦ (let wrote = rw h.1 at g.wrote in
        let tells = rw h.1 at g.tells in
        let reached = rw (h.1, append-nil items) at g.reached in
        inl (reached, wrote, one_told step.event None tells))
    | inr h ↦ (let is : g.happened ≡ Arrives h.0 ∷ [] = h.3 ∙ ap (λ z. Arrives h.0 ∷ z) h.4 in
        arrives h.0 (d.does.takes state h.0) refl (rw is at g.taken).0 (rw is at g.wrote) (rw is at g.tells)
        (rw is at g.reached))
  ] where
    arrives : (item : Item U) (r : Reaction d.does.State d.does.Made) → d.does.takes state item ≡ r
        → goes_on (d.does.takes state item) ≡ true
        → d.does.written new.reacts step.reply
        ≡ plain_spelling d.does.out ((at_reaction (d.does.puts item) state (d.does.takes state item)).written ++ [])
        → as_list step.event ≡ (at_reaction (d.does.puts item) state (d.does.takes state item)).events ++ []
        → IsReached d new (bytes ++ b ∷ []) (items ++ item ∷ []) (at_reaction (d.does.puts item) state
        (d.does.takes state item)).state → GoesOnAt d new (bytes ++ b ∷ []) items state step
    arrives item (Refuses reason) is goes wrote tells reached = (let no = rw is at goes in cc)
    arrives item (GoesOn next made) is goes wrote tells reached = inr (
      item,
      next,
      made,
      is,
      rw (is, append-nil (d.does.puts item made).items) at wrote,
      one_told step.event (d.does.puts item made).event
          (rw (is, append-nil (as_list (d.does.puts item made).event)) at tells),
      rw is at reached,
    )

  module _ (l : IsReached d old bytes items state) (few : length bytes + 1 < 2 ^ 64) where
    works : TakesNoMore old → ⊥
    works = none_reached old.ended old.live.taken (length bytes) l.works l.reached.count few

    pub pushed : (step : EndStep Event Reply) → DriverPushes d old b new (Ok step)
        → GoesOnAt d new (bytes ++ b ∷ []) items state step
    pushed step p =
        let one : p.0 ≡ 1 = omega (arith, p.1.within, p.1.some (omega arith) (λ e. cc)) in
        came_one step (rw one at ((p.1.takes works).brings bytes items state l))

    pub refused : (why : Refusal) → DriverPushes d old b new (Err why)
        → IsWhy d why (bytes ++ b ∷ []) items state × d.does.stands new.reacts items state
    refused why p =
        let brings = (p.1.takes works).brings bytes items state l in
        let one : p.0 ≡ 1 = omega (arith, p.1.within, brings.0, length-take-le p.0 (b ∷ []) p.1.within) in
        trace_none (rw one at brings).1
