-- `empty` owns nothing. Assumes `Logic`.
use Rattle.ws_c.proofs.Steps.{Option, None, ◌≡◌, List, [], ◌∷◌, ◌++◌, refl, Goes-blank, proved_at, leaves, alloc_all}
use Rattle.ws_c.proofs.Steps.{pass_all, free_all, look_at, get, sets, env, ftrue, ‵, raw, ◌⊛◌, prop, ◌$◌, ◌∵◌, !, qed}
use Rattle.ws_c.proofs.Steps.{by, move, drop, use0, split, regoal, fjoin, SProp, emp, fact, fact_i, agg, owns, null_ptr}
use Rattle.ws_c.proofs.Steps.{of_opd, lit, no_more, and_then, returns, enter, tables, types_at, nothing, Fn, alive}
use Rattle.ws_c.proofs.Steps.{Stays, stay_dropped, walk_of, Val, Env, WpFn}
use Rattle.ws_c.specs.contracts.owned.Owned as owned_type
use Rattle.ws_c.specs.contracts.owned.Owned.empty.{ended, clauses}
use Rattle.ws_c.specs.contracts.owned.Owned.empty.Key.{name as #self}
use Rattle.ws_c.specs.declared.machine.Machine.{Machine}
use Rattle.ws_c.proofs.Values.{slot_at, ptr_typed, held_val, heap_val, held_own, held_made, heap_told}
use Rattle.ws_c.proofs.owned.Owned.empty.Code as compiled
use Rattle.ws_c.proofs.owned.Owned.empty.Statement.{statement}

pub empty_spec : {M : Type 1} → statement M
empty_spec 𝓤 𝓛 𝓜 𝓡 wired =
    let H = 𝓛.H in
    let fn : Fn = compiled.function in
    let stays : Stays ended.signature.params ended.kept =
    (stay_dropped (slot_at 0 ended.signature.params) ended.kept.0, tt) in
    let c = clauses 𝓛 𝓜.mem 𝓡.returns in
    let C = (tables 𝓤 H 𝓜 𝓡 𝓡.env).C in
    let Λ = (tables 𝓤 H 𝓜 𝓡 𝓡.env).Λ in
    proved_at 𝓛 ended stays c 𝓜 𝓡 (
      Goes-blank 𝓛 0 (slot_at 0 ended.signature.params) ended.kept.0 (λ κs x f. tt),
      tt,
    ) #self fn (compiled.unfolded 𝓤 H 𝓜 𝓡 wired) (λ z are.
    let Post : Val → SProp 𝓤 = (walk_of 𝓛 ended stays c).post z in
    let heap = z.0.3.0 in
    let vss = z.0.4 in
    let told = heap_told heap vss.0 are.0 in
    let y : (owned_type.the_row).Denot = record { at = null_ptr; alloc = heap; value = None } in
    qed 𝓛 ((raw (alive 𝓛 ended.signature z.0.0 z.0.1) ⊛ ‵ (owns (types_at ended.signature.params z.0.0) z.0.3 vss)) ∷ ‵
    ftrue ∷ []) ∵ move ! (1 ∷ []) $ drop ! $ split ! $ move ! (1 ∷ []) $ drop ! $
    regoal ! (λ (us : List Val). prop (WpFn 𝓤 H C Λ fn us Post)) (λ i. told i ++ []) refl $
    enter ! C Λ fn (heap_val ∷ []) Post $
    alloc_all ! (λ l. pass_all ! refl ((tt, ((tt, tt), tt)), tt) $ let En : Env 𝓤 𝓛.H = env fn.locals l in
    sets ! (of_opd ! (lit ! tt)) refl (ptr_typed null_ptr) $
    sets ! (agg ! (and_then ! (get ! refl) (and_then ! (get ! refl) (no_more !)))) refl
    (tt, ((ptr_typed null_ptr).1, (((tt, tt), tt), tt))) $
    returns ! (look_at ! 0 refl) $ free_all ! refl $ nothing ! $
    use0 𝓛 (‵ (held_own null_ptr heap (held_val null_ptr ∷ []))) (held_made 𝓛 null_ptr heap) $ fjoin ! $
    use0 𝓛 (raw (fact 𝓤 (◌≡◌ {A = Option Machine} None None))) (fact_i 𝓤 (◌≡◌ {A = Option Machine} None None)
    (emp 𝓤) refl) $ nothing ! $ nothing ! $ fjoin ! $ move ! (3 ∷ 0 ∷ 2 ∷ 1 ∷ []) $
    by ! (leaves 𝓛 ended stays c z (held_val null_ptr) y (tt, tt) (tt, tt))))
