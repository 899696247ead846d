-- Keys at a station, one after another.
use Rattle.std.specs.Prelude.{Result, Ok, Err}
use Rattle.std.proofs.Common.{◌≡◌, ℕ, ◌+◌, ◌-◌, ◌<◌, List, [], ◌∷◌, ◌++◌, Option, length, get_or, take, drop, replicate}
use Rattle.std.proofs.Common.{sym, ap, ◌∙◌, subst, arith, suc}
use Rattle.std.proofs.lemmas.Grind.{flat_map-append}
use Rattle.std.proofs.lemmas.List.{drop_more, flat_map_more, replicate-append-replicate, take-append-drop, take_more}
use Rattle.ws_keys.specs.Strokes.{keys_of}
use Rattle.ws_keys.specs.declared.answer.Answer.{Answer}
use Rattle.ws_keys.specs.declared.key.Key.{Key}
use Rattle.ws_keys.specs.declared.key_run.KeyRun.{KeyRun}
use Rattle.ws_end.specs.declared.station.key_fault.KeyFault.{KeyFault}
use Rattle.ws_c.specs.Strokes.{AreKeyed, GoesOnBehindKey}

abbrev run_keys : KeyRun → List Key
run_keys r = replicate r.times r.key

module _ {S : Type 0} (takes : S → S → Key → Result (Option Answer) KeyFault → Type 0) where
  -- keys behind others that are all taken
  keyed_on : (xs ys : List Key) (old mid new : S) (r : Result (Unit {0}) KeyFault) → AreKeyed takes xs old mid (Ok tt)
      → AreKeyed takes ys mid new r → AreKeyed takes (xs ++ ys) old new r
  keyed_on [] ys old mid new r (done, e) k = subst (λ w. AreKeyed takes ys w new r) e k
  keyed_on (x ∷ xs) ys old mid new r (next, pressed, keyed, goes) k =
      (next, pressed, keyed, go pressed goes (λ g. keyed_on xs ys next mid new r g k))
    where
      go : (p : Result (Option Answer) KeyFault)
          → GoesOnBehindKey p (AreKeyed takes xs next mid (Ok tt)) next mid (Ok tt)
          → (AreKeyed takes xs next mid (Ok tt) → AreKeyed takes (xs ++ ys) next new r)
          → GoesOnBehindKey p (AreKeyed takes (xs ++ ys) next new r) next new r
      go (Ok answer) g later = later g
      go (Err fault) g later = absurd (cc)

  -- keys behind one that is refused
  keyed_stop : (xs ys : List Key) (old new : S) (f : KeyFault) → AreKeyed takes xs old new (Err f)
      → AreKeyed takes (xs ++ ys) old new (Err f)
  keyed_stop [] ys old new f (stopped, e) = absurd (cc)
  keyed_stop (x ∷ xs) ys old new f (next, pressed, keyed, goes) =
      (next, pressed, keyed, go pressed goes (λ g. keyed_stop xs ys next new f g))
    where
      go : (p : Result (Option Answer) KeyFault)
          → GoesOnBehindKey p (AreKeyed takes xs next new (Err f)) next new (Err f)
          → (AreKeyed takes xs next new (Err f) → AreKeyed takes (xs ++ ys) next new (Err f))
          → GoesOnBehindKey p (AreKeyed takes (xs ++ ys) next new (Err f)) next new (Err f)
      go (Ok answer) g later = later g
      go (Err fault) g later = g

  -- one key once more
  pub run_more : (k : ℕ) (key : Key) (old mid new : S) → AreKeyed takes (replicate k key) old mid (Ok tt)
      → AreKeyed takes (key ∷ []) mid new (Ok tt) → AreKeyed takes (replicate (k + 1) key) old new (Ok tt)
  run_more k key old mid new before last =
      subst (λ l. AreKeyed takes l old new (Ok tt)) (replicate-append-replicate k 1 key)
      (keyed_on (replicate k key) (key ∷ []) old mid new (Ok tt) before last)

  -- it is refused
  pub run_stops : (times k : ℕ) (key : Key) (old mid new : S) (f : KeyFault) → k < times
      → AreKeyed takes (replicate k key) old mid (Ok tt) → AreKeyed takes (key ∷ []) mid new (Err f)
      → AreKeyed takes (replicate times key) old new (Err f)
  run_stops times k key old mid new f small before last =
      let left : ℕ = times - (k + 1) in
      subst (λ l. AreKeyed takes l old new (Err f)) (replicate-append-replicate k (suc left) key
      ∙ ap (λ n. replicate n key) (let n : k + suc left ≡ times = omega (arith, small) in n))
      (keyed_on (replicate k key) (key ∷ replicate left key) old mid new (Err f) before
      (keyed_stop (key ∷ []) (replicate left key) mid new f last))

  -- one run more
  pub runs_more : (runs : List KeyRun) (i : ℕ) (r : KeyRun) (old mid new : S) → i < length runs
      → r ≡ get_or runs i r → AreKeyed takes (keys_of (take i runs)) old mid (Ok tt)
      → AreKeyed takes (run_keys r) mid new (Ok tt)
      → AreKeyed takes (keys_of (take (i + 1) runs)) old new (Ok tt)
  runs_more runs i r old mid new small is before last =
      let front : take (i + 1) runs ≡ take i runs ++ r ∷ [] =
      take_more runs i r small ∙ ap (λ x. take i runs ++ x ∷ []) (sym is) in
      subst (λ l. AreKeyed takes l old new (Ok tt)) (flat_map_more run_keys [] (take i runs) r ∙ ap keys_of (sym front))
      (keyed_on (keys_of (take i runs)) (run_keys r) old mid new (Ok tt) before last)

  -- a key of one is refused
  pub runs_stop : (runs : List KeyRun) (i : ℕ) (r : KeyRun) (old mid new : S) (f : KeyFault) → i < length runs
      → r ≡ get_or runs i r → AreKeyed takes (keys_of (take i runs)) old mid (Ok tt)
      → AreKeyed takes (run_keys r) mid new (Err f)
      → AreKeyed takes (keys_of runs) old new (Err f)
  runs_stop runs i r old mid new f small is before last =
      let rest : drop i runs ≡ r ∷ drop (i + 1) runs =
      drop_more runs i r small ∙ ap (λ x. x ∷ drop (i + 1) runs) (sym is) in
      let whole : keys_of (take i runs) ++ (run_keys r ++ keys_of (drop (i + 1) runs)) ≡ keys_of runs =
      ap (λ l. keys_of (take i runs) ++ keys_of l) (sym rest)
      ∙ sym (flat_map-append run_keys (take i runs) (drop i runs)) ∙ ap keys_of (take-append-drop i runs) in
      subst (λ l. AreKeyed takes l old new (Err f)) whole
      (keyed_on (keys_of (take i runs)) (run_keys r ++ keys_of (drop (i + 1) runs)) old mid new (Err f) before
      (keyed_stop (run_keys r) (keys_of (drop (i + 1) runs)) mid new f last))
