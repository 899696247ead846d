-- The machine value of a handle, which is also that of a box taken apart: a pointer, and an allocator that has no
-- bytes.
use Rattle.std.specs.contracts.alloc.Global.{the_row as GlobalRow}
use Rattle.std.specs.declared.alloc.Global.{Global}
use Rattle.std.proofs.Common.{◌≡◌, ℕ, zero, suc, List, [], ◌∷◌, ◌++◌, refl, ◌∙◌, lit<}
use Rattle.std.proofs.cell.Inside.{Good}
use denote.Builtin.{unit}
use base.Fml.{Fml}
use base.Logic.{ent, emp}
use types.Logic.{Logic, sem}
use seplogic.Ra.Ura.{Ura}
use denote.RattleType.{RattleType}
use denote.RawPtr.{Ptr, RawPtr, block_ptr, null_ptr, ptr_val}
use denote.Shadow.{shadow, makes_shadow}
use denote.Signature.{Slot, plain}
use denote.Struct.Struct.{Struct}
use mir.Syntax.{ty_ptr}
use mir.Val.{Val, vunit, vstruct, vcons, vnil, of_list}

-- the slot of a parameter
abbrev pub slot_at : {n : ℕ} → ℕ → List (Slot n) → Slot n
slot_at k [] = plain (λ _. unit)
slot_at zero (s ∷ ss) = s
slot_at (suc k) (s ∷ ss) = slot_at k ss

-- a struct by its fields alone: what it owns does not read its name
abbrev pub plainly : List RattleType → RattleType
plainly Rs = Struct (record { name = []; args = []; types = []; fields = Rs })

pub ptr_typed : (p : Ptr) → Good ty_ptr (ptr_val p)
ptr_typed (block_ptr b o) = (tt, tt)
ptr_typed null_ptr = (tt, record { fits = lit< tt })

abbrev pub memory_val : Val
memory_val = vstruct (vcons vunit vnil)

abbrev pub heap_val : Val
heap_val = vstruct (vcons memory_val vnil)

abbrev pub held_val : Ptr → Val
held_val p = vstruct (vcons (ptr_val p) (vcons heap_val vnil))

abbrev pub held_own : Ptr → Global → List Val → Fml
held_own p heap = (plainly (RawPtr ∷ GlobalRow ∷ [])).own_val (p, (heap, tt))

pub heap_told : (heap : Global) (vs : List Val) → shadow (GlobalRow.own_val heap vs) → vs ≡ heap_val ∷ []
heap_told heap vs s = s.1.0
    ∙ (λ i. vstruct (of_list ((s.1.1.0.1.0 ∙ (λ j. vstruct (of_list (s.1.1.0.1.1.0 j ++ [])) ∷ [])) i ++ [])) ∷ [])

pub held_told : (p : Ptr) (heap : Global) (vs : List Val) → shadow (held_own p heap vs) → vs ≡ held_val p ∷ []
held_told p heap vs s = s.1.0 ∙ (λ i. vstruct (of_list (s.1.1.0 i ++ (heap_told heap _ s.1.1.1.0 i ++ []))) ∷ [])

pub held_made : {M : Type 1} {𝓤 : Ura M} (𝓛 : Logic 𝓤) (p : Ptr) (heap : Global)
    → ent 𝓤 (emp 𝓤) (sem 𝓛 (held_own p heap (held_val p ∷ [])))
held_made 𝓛 p heap = makes_shadow 𝓛 (held_own p heap (held_val p ∷ []))
    (λ _. (tt, (tt, ((λ _. (tt, ((λ _. (tt, (tt, tt))), tt))), tt)))) (
      (ptr_val p ∷ [], (heap_val ∷ [], tt)),
      (refl, (refl, (((memory_val ∷ [], tt), (refl, (((vunit ∷ [], tt), (refl, (refl, tt))), tt))), tt))),
    )
