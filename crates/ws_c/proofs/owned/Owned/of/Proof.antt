-- `of` hands what the box owns to the handle. Assumes `Logic`.
use Rattle.ws_c.proofs.Steps.{Some, ◌≡◌, List, [], ◌∷◌, ◌++◌, refl, and_tt, Goes-blank, proved_at, leaves, alloc_all}
use Rattle.ws_c.proofs.Steps.{pass_all, free_all, look_at, get, get_in, sets, env, ftrue, ‵, raw, ◌⊛◌, prop, ◌$◌, ◌∵◌}
use Rattle.ws_c.proofs.Steps.{ !, qed, by, move, drop, use0, split, regoal, fsplit, fjoin, SProp, emp, fact, fact_i}
use Rattle.ws_c.proofs.Steps.{whole, sub, agg, owns, stop, fld, of_opd, no_more, and_then, returns, enter, tables}
use Rattle.ws_c.proofs.Steps.{types_at, nothing, Fn, alive, Stays, stay_dropped, walk_of, Val, Env, WpFn}
use Rattle.ws_c.specs.contracts.owned.Owned as owned_type
use Rattle.ws_c.specs.contracts.owned.Owned.of.{ended, clauses}
use Rattle.ws_c.specs.contracts.owned.Owned.of.Key.{name as #self}
use Rattle.ws_c.proofs.Values.{slot_at, ptr_typed, held_val, held_own, held_told, held_made}
use Rattle.ws_c.proofs.owned.Owned.of.Code as compiled
use Rattle.ws_c.proofs.owned.Owned.of.Statement.{statement}

pub of_spec : {M : Type 1} → statement M
of_spec 𝓤 𝓛 𝓜 𝓡 wired =
    let H = 𝓛.H in
    let fn : Fn = compiled.function in
    let stays : Stays ended.signature.params ended.kept =
    (stay_dropped (slot_at 0 ended.signature.params) ended.kept.0, tt) in
    let c = clauses 𝓛 𝓜.mem 𝓡.returns in
    let C = (tables 𝓤 H 𝓜 𝓡 𝓡.env).C in
    let Λ = (tables 𝓤 H 𝓜 𝓡 𝓡.env).Λ in
    proved_at 𝓛 ended stays c 𝓜 𝓡 (
      Goes-blank 𝓛 0 (slot_at 0 ended.signature.params) ended.kept.0 (λ κs x f. tt),
      tt,
    ) #self fn (compiled.unfolded 𝓤 H 𝓜 𝓡 wired) (λ z are.
    let Post : Val → SProp 𝓤 = (walk_of 𝓛 ended stays c).post z in
    let x = z.0.3.0 in
    let vss = z.0.4 in
    let told = held_told x.ptr x.alloc vss.0 are.0.0 in
    let y : (owned_type.the_row).Denot = record { at = x.ptr; alloc = x.alloc; value = Some x.value } in
    qed 𝓛 ((raw (alive 𝓛 ended.signature z.0.0 z.0.1) ⊛ ‵ (owns (types_at ended.signature.params z.0.0) z.0.3 vss)) ∷ ‵
    ftrue ∷ []) ∵ move ! (1 ∷ []) $ drop ! $ split ! $ move ! (1 ∷ []) $
    fsplit ! $ fsplit ! $ drop ! $ move ! (1 ∷ []) $ drop ! $
    regoal ! (λ (us : List Val). prop (WpFn 𝓤 H C Λ fn us Post)) (λ i. told i ++ []) refl $
    enter ! C Λ fn (held_val x.ptr ∷ []) Post $
    alloc_all ! (λ l. pass_all ! refl (
      (and_tt _ ((ptr_typed x.ptr).0), ((ptr_typed x.ptr).1, (((tt, tt), tt), tt))),
      tt,
    ) $ let En : Env 𝓤 𝓛.H = env fn.locals l in
    sets ! (of_opd ! (get_in ! (fld ! refl (stop !)) (sub ! 0 refl (whole !)))) refl (ptr_typed x.ptr) $
    sets ! (of_opd ! (get_in ! (fld ! refl (stop !)) (sub ! 1 refl (whole !)))) refl (tt, ((tt, tt), tt)) $
    sets ! (of_opd ! (get ! refl)) refl (ptr_typed x.ptr) $
    sets ! (agg ! (and_then ! (get ! refl) (and_then ! (get ! refl) (no_more !)))) refl
    (and_tt _ ((ptr_typed x.ptr).0), ((ptr_typed x.ptr).1, (((tt, tt), tt), tt))) $
    returns ! (look_at ! 0 refl) $ free_all ! refl $
    use0 𝓛 (‵ (held_own x.ptr x.alloc (held_val x.ptr ∷ []))) (held_made 𝓛 x.ptr x.alloc) $ fjoin ! $
    use0 𝓛 (raw (fact 𝓤 (Some x.value ≡ Some x.value))) (fact_i 𝓤 (Some x.value ≡ Some x.value) (emp 𝓤) refl) $ nothing
    ! $ nothing ! $ fjoin ! $ move ! (3 ∷ 0 ∷ 2 ∷ 1 ∷ []) $
    by ! (leaves 𝓛 ended stays c z (held_val x.ptr) y (tt, tt) (tt, tt))))
