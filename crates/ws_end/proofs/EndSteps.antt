-- A byte that comes to an end, as an act.

use Rattle.ws_end.proofs.Common as C
use C.{◌≡◌, List, [], ◌∷◌, ◌++◌, ℕ, true, append-nil, Rules, plain_spelling, Item, Doing, Act, IsTrace, Arrives}
use C.{Transitions, Happen}
use Rattle.ws_end.specs.Acts.{bytes_of, protocol_of}

-- Acts that bring bytes: no item is complete with them, or one is.
module _ {Place PlaceV State U V Request Event : Type 0} {rules : Rules Place U} {out : Rules PlaceV V}
    {transitions : Transitions State U V Request Event} {reached : List ℕ → List (Item U) → State → Type 0}
    {bytes : List ℕ}
    {items : List (Item U)} {state : State} {acts : List (Act Request)} {prefix : List ℕ} {text : List ℕ}
    {events : List Event}
    (is : bytes_of acts ≡ prefix) where
  pub none_went : Happen rules bytes items acts [] → text ≡ [] → events ≡ [] → reached (bytes ++ prefix) items state
      → IsTrace (protocol_of rules out transitions) reached bytes items state acts text events
  none_went h w t l =
      record { happened = []; happen = h; taken = tt; wrote = w; tells = t; reached = rw (is, append-nil items) l }

  pub one_went : (item : Item U) (d : Doing State V Event) → transitions.at state (Arrives item) ≡ d
      → Happen rules bytes items acts (Arrives item ∷ []) → transitions.takes state item ≡ true
      → text ≡ plain_spelling out d.written → events ≡ d.events → reached (bytes ++ prefix) (items ++ item ∷ []) d.state
      → IsTrace (protocol_of rules out transitions) reached bytes items state acts text events
  one_went item d same h k w t l = record {
    happened = Arrives item ∷ [];
    happen = h;
    taken = (k, tt);
    wrote = rw (same, append-nil d.written) w;
    tells = rw (same, append-nil d.events) t;
    reached = rw (same, is) l;
  }

-- no act leads nowhere
module _ {Place PlaceV State U V Request Event : Type 0} {rules : Rules Place U} {out : Rules PlaceV V}
    {transitions : Transitions State U V Request Event} {reached : List ℕ → List (Item U) → State → Type 0}
    {bytes : List ℕ}
    {items : List (Item U)} {state : State} {written : List ℕ} {events : List Event} where
  pub trace_none : IsTrace (protocol_of rules out transitions) reached bytes items state [] written events
      → reached bytes items state
  trace_none g = rw (g.happen, append-nil bytes, append-nil items) at g.reached
