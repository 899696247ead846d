-- What is left of lists of keys, one key further.

use Rattle.std.specs.Prelude.{Result, map, replicate}
use Rattle.std.proofs.Common.{◌≡◌, ℕ, zero, suc, ◌+◌, ◌-◌, ◌<◌, List, ◌∷◌, ◌++◌, length, get_or, drop, refl, sym, ap}
use Rattle.std.proofs.Common.{◌∙◌, append_assoc, arith}
use Rattle.std.proofs.lemmas.List.{drop_more, map-append}
use Rattle.ws_code.specs.Device.{Devices}
use Rattle.ws_keys.specs.Strokes.{keys_of}
use Rattle.ws_keys.specs.declared.key.Key.{Key}
use Rattle.ws_keys.specs.declared.key_run.KeyRun.{KeyRun}
use Rattle.ws_end.specs.attached.Attachments.{AttachedParts}
use Rattle.ws_script.specs.declared.lines.script_stroke.ScriptStroke.{ScriptStroke}
use Rattle.ws_script.specs.lines.Stroking.{stroke_keys}
use Rattle.ws_live.specs.declared.live.pressing.Untaken.{Untaken}
use Rattle.ws_live.specs.live.ConnectText.{KeysCome, StrokeComes}
use Rattle.ws_live.specs.live.Operating.{LiveStation, station_screen}

-- of a list, at one of its items
pub left_at : {X : Type 0} (xs : List X) (i : ℕ) (x : X) → i < length xs → x ≡ get_or xs i x
    → drop i xs ≡ x ∷ drop (i + 1) xs
left_at xs i x inside is = drop_more xs i x inside ∙ ap (λ z. z ∷ drop (i + 1) xs) (sym is)

-- of a key so many times, before others
pub times_left : {X : Type 0} (n i : ℕ) (x : X) (more : List X) → i < n
    → replicate (n - i) x ++ more ≡ x ∷ replicate (n - (i + 1)) x ++ more
times_left n i x more less =
    ap (λ m. replicate m x ++ more) (let e : n - i ≡ suc (n - (i + 1)) = omega (arith, less) in e)

map-replicate : {X Y : Type 0} (f : X → Y) (n : ℕ) (x : X) → map f (replicate n x) ≡ replicate n (f x)
map-replicate f zero x = refl
map-replicate f (suc n) x = ap (λ z. f x ∷ z) (map-replicate f n x)

module _ {Q : Type 0} (profile : Key → Q) (more : List Q) where
  -- the keys of runs as those of a display, before others
  abbrev pub run_keys : List KeyRun → List Q
  run_keys runs = map profile (keys_of runs) ++ more

  -- of them, at one of the runs
  pub runs_left : (runs : List KeyRun) (i : ℕ) (run : KeyRun) → i < length runs → run ≡ get_or runs i run
      → run_keys (drop i runs) ≡ replicate run.times (profile run.key) ++ run_keys (drop (i + 1) runs)
  runs_left runs i run inside is =
      let keys = replicate run.times run.key in
      let others = keys_of (drop (i + 1) runs) in
      ap run_keys (left_at runs i run inside is)
      ∙ ap (λ z. z ++ more) (map-append profile keys others
      ∙ ap (λ z. z ++ map profile others) (map-replicate profile run.times run.key))
      ∙ append_assoc (replicate run.times (profile run.key)) (map profile others) more

module _ {S K : Type 0} (at : LiveStation) (devices : Devices S K) where
  abbrev Ends : Type 0
  Ends = AttachedParts at.Station S K

  -- what these keys come to that are left of a stroke is what it comes to
  abbrev pub ComeToAll : ScriptStroke at.Pressed → Ends → List at.Pressed → Ends → Type 0
  ComeToAll stroke from keys mid = (came : Result (Unit {0}) Untaken) (to : Ends) → KeysCome at devices keys mid came to
      → StrokeComes at devices (stroke_keys at.words (station_screen at from.end) stroke) from came to
