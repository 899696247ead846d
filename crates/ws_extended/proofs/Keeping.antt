-- An image that is kept piece by piece.
use Rattle.std.specs.List.{flat_map}
use Rattle.std.specs.Prelude.{OnOk, Result, Ok, Err}
use Rattle.std.proofs.Common.{ℕ, List, [], ◌∷◌, ◌++◌, map, subst, append_assoc}
use Rattle.ws_code.specs.Keep.{Keeps, Keeper}
use Rattle.ws_stream.specs.declared.element.Element.{Element}
use Rattle.ws_stream.specs.declared.element.Element.TheVariants.{ClearUnit, Write, Soh, Sba, Mc, Put}
use Rattle.ws_screen.specs.ScreenParts.{ScreenParts}
use Rattle.ws_extended.specs.Image.{field_image, start_of_header_bytes, home_image, image, lights, read_image}

pub on_ok : {X E P Q : Type 0} (r : Result X E) → (P → Q) → OnOk r P → OnOk r Q
on_ok (Ok x) f p = f p
on_ok (Err e) f p = tt

module _ {K : Type 0} (keeper : Keeper Element K) where
  then : (a b c : K) (xs ys : List Element) → Keeps keeper a b xs → Keeps keeper b c ys → Keeps keeper a c (xs ++ ys)
  then a b c xs ys p q units told h =
      subst (λ (us : List Element). keeper.holds c us told) (append_assoc units xs ys)
      (q (units ++ xs) told (p units told h))

  pub all_kept : (row : ℕ) (s : ScreenParts) (k0 k1 k2 k3 k4 k5 k6 k7 k8 k9 : K)
      → Keeps keeper k0 k1 (ClearUnit ∷ []) → Keeps keeper k1 k2 (Write 0 (lights s) ∷ [])
      → Keeps keeper k2 k3 (Soh (start_of_header_bytes row s.switches) ∷ [])
      → Keeps keeper k3 k4 (flat_map field_image s.fields)
      → Keeps keeper k4 k5 (home_image s.home_set) → Keeps keeper k5 k6 (Sba 0 ∷ [])
      → Keeps keeper k6 k7 (map Put s.cells) → Keeps keeper k7 k8 (Mc s.cursor ∷ [])
      → Keeps keeper k8 k9 (read_image s.pending) → Keeps keeper k0 k9 (image row s)
  all_kept row s k0 k1 k2 k3 k4 k5 k6 k7 k8 k9 a b c d e f g h i =
      let moved : List Element = Mc s.cursor ∷ read_image s.pending in
      let put : List Element = Sba 0 ∷ (map Put s.cells ++ moved) in
      let formatted : List Element = flat_map field_image s.fields ++ (home_image s.home_set ++ put) in
      then k0 k1 k9 (ClearUnit ∷ []) (Write 0 (lights s) ∷ Soh (start_of_header_bytes row s.switches) ∷ formatted) a
      (then k1 k2 k9 (Write 0 (lights s) ∷ []) (Soh (start_of_header_bytes row s.switches) ∷ formatted) b
      (then k2 k3 k9 (Soh (start_of_header_bytes row s.switches) ∷ []) formatted c
      (then k3 k4 k9 (flat_map field_image s.fields) (home_image s.home_set ++ put) d
      (then k4 k5 k9 (home_image s.home_set) put e
      (then k5 k6 k9 (Sba 0 ∷ []) (map Put s.cells ++ moved) f
      (then k6 k7 k9 (map Put s.cells) moved g
      (then k7 k8 k9 (Mc s.cursor ∷ []) (read_image s.pending) h i)))))))
