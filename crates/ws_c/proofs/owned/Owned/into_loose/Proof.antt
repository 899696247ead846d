-- `into_loose` hands what the handle owns to the box. Assumes `Logic`.
use Rattle.ws_c.proofs.Steps.{Option, Some, None, IsSome, ghosts, ◌≡◌, List, [], ◌∷◌, ◌++◌, refl, sym, and_tt}
use Rattle.ws_c.proofs.Steps.{Goes-blank, proved_at, leaves, alloc_all, pass_all, free_all, look_at, get, get_in, sets}
use Rattle.ws_c.proofs.Steps.{env, true≢false, ‵, raw, ◌⊛◌, prop, ◌$◌, ◌∵◌, !, qed, by, move, drop, use0, split, regoal}
use Rattle.ws_c.proofs.Steps.{rewrite, fsplit, fjoin, SProp, emp, fact, fact_i, whole, sub, agg, owns, stop, fld}
use Rattle.ws_c.proofs.Steps.{of_opd, no_more, and_then, returns, enter, tables, types_at, nothing, heard, Fn, alive}
use Rattle.ws_c.proofs.Steps.{Stays, stay_dropped, walk_of, Val, Env, WpFn}
use Rattle.std.specs.contracts.alloc.Global as Heap
use Rattle.ws_c.specs.Owned.{owned}
use Rattle.ws_c.specs.contracts.loose.Loose as loose
use Rattle.ws_c.specs.contracts.machine.Machine as machine
use Rattle.ws_c.specs.contracts.owned.Owned.into_loose.{ended, clauses}
use Rattle.ws_c.specs.contracts.owned.Owned.into_loose.Key.{name as #self}
use Rattle.ws_c.specs.declared.machine.Machine.{Machine}
use Rattle.ws_c.proofs.Values.{slot_at, ptr_typed, held_val, held_own, held_told, held_made}
use Rattle.ws_c.proofs.owned.Owned.into_loose.Code as compiled
use Rattle.ws_c.proofs.owned.Owned.into_loose.Statement.{statement}

some_of : {A : Type 0} (o : Option A) → IsSome o → (x : A) × (o ≡ Some x)
some_of None h = absurd (true≢false (sym h))
some_of (Some x) h = (x, refl)

pub into_loose_spec : {M : Type 1} → statement M
into_loose_spec 𝓤 𝓛 𝓜 𝓡 wired =
    let H = 𝓛.H in
    let fn : Fn = compiled.function in
    let stays : Stays ended.signature.params ended.kept =
    (stay_dropped (slot_at 0 ended.signature.params) ended.kept.0, tt) in
    let c = clauses 𝓛 𝓜.mem 𝓡.returns in
    let C = (tables 𝓤 H 𝓜 𝓡 𝓡.env).C in
    let Λ = (tables 𝓤 H 𝓜 𝓡 𝓡.env).Λ in
    proved_at 𝓛 ended stays c 𝓜 𝓡 (
      Goes-blank 𝓛 0 (slot_at 0 ended.signature.params) ended.kept.0 (λ κs x f. tt),
      tt,
    ) #self fn (compiled.unfolded 𝓤 H 𝓜 𝓡 wired) (λ z are.
    let Post : Val → SProp 𝓤 = (walk_of 𝓛 ended stays c).post z in
    let x = z.0.3.0 in
    let vss = z.0.4 in
    let told = held_told x.at x.alloc vss.0 are.0.0 in
    qed 𝓛 ((raw (alive 𝓛 ended.signature z.0.0 z.0.1) ⊛ ‵ (owns (types_at ended.signature.params z.0.0) z.0.3 vss)) ∷
    raw (fact 𝓤 (IsSome x.value)) ∷ []) ∵ move ! (1 ∷ []) $ heard ! (IsSome x.value) (λ some.
    let found = some_of x.value some in
    let y : (loose.the_row machine.the_row Heap.the_row ghosts).Denot = record {
      ptr = x.at;
      alloc = x.alloc;
      value = found.0;
    } in
    split ! $ move ! (1 ∷ []) $
    fsplit ! $ fsplit ! $ drop ! $ move ! (1 ∷ []) $ drop ! $
    rewrite ! 0 (λ (o : Option Machine). ‵ (owned x.alloc machine.the_row x.at o)) found.1 refl $
    regoal ! (λ (us : List Val). prop (WpFn 𝓤 H C Λ fn us Post)) (λ i. told i ++ []) refl $
    enter ! C Λ fn (held_val x.at ∷ []) Post $
    alloc_all ! (λ l. pass_all ! refl (
      (and_tt _ ((ptr_typed x.at).0), ((ptr_typed x.at).1, (((tt, tt), tt), tt))),
      tt,
    ) $ let En : Env 𝓤 𝓛.H = env fn.locals l in
    sets ! (of_opd ! (get_in ! (fld ! refl (stop !)) (sub ! 0 refl (whole !)))) refl (ptr_typed x.at) $
    sets ! (of_opd ! (get_in ! (fld ! refl (stop !)) (sub ! 1 refl (whole !)))) refl (tt, ((tt, tt), tt)) $
    sets ! (of_opd ! (get ! refl)) refl (ptr_typed x.at) $
    sets ! (agg ! (and_then ! (get ! refl) (and_then ! (get ! refl) (no_more !)))) refl (
      and_tt _ ((ptr_typed x.at).0),
      ((ptr_typed x.at).1, (((tt, tt), tt), tt)),
    ) $
    returns ! (look_at ! 0 refl) $ free_all ! refl $
    use0 𝓛 (‵ (held_own x.at x.alloc (held_val x.at ∷ []))) (held_made 𝓛 x.at x.alloc) $ fjoin ! $
    use0 𝓛 (raw (fact 𝓤 (Some found.0 ≡ x.value))) (fact_i 𝓤 (Some found.0 ≡ x.value) (emp 𝓤) (sym found.1)) $ nothing
    ! $ nothing ! $ fjoin ! $ move ! (3 ∷ 0 ∷ 2 ∷ 1 ∷ []) $
    by ! (leaves 𝓛 ended stays c z (held_val x.at) y (tt, tt) (tt, tt)))))
