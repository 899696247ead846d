-- A field of the table ends on the screen.
use Rattle.std.specs.Prelude.{slice_get}
use Rattle.std.proofs.Common.{◌≡◌, ℕ, ◌+◌, ◌≤◌, List, [], ◌∷◌, Some, ap, subst, unwrap_or, zero, suc}
use Rattle.ws_screen.specs.ScreenParts.{AreApart}
use Rattle.ws_screen.specs.declared.field.Field.{Field}
use Rattle.ws_screen.proofs.Legal.{apart-le}

pub ends_within : (low : ℕ) (fs : List Field) (i : ℕ) (f : Field) → AreApart low fs → slice_get fs i ≡ Some f
    → f.start + f.length ≤ 1920
ends_within low [] i f apart e = absurd (cc)
ends_within low (g ∷ gs) zero f apart e =
    subst (λ x. x.start + x.length ≤ 1920) (ap (λ o. unwrap_or o g) e) (apart-le (g.start + g.length) gs apart.2)
ends_within low (g ∷ gs) (suc i) f apart e = ends_within (g.start + g.length) gs i f apart.2 e
