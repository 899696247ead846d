-- Keys that are pressed one after another, and where arrows bring the cursor.
use Rattle.std.specs.Prelude.{nat_lt}
use Rattle.std.proofs.Common.{◌≡◌, ℕ, ◌+◌, ◌-◌, ◌*◌, ◌/◌, ◌%◌, ◌<◌, ◌≤◌, List, [], ◌∷◌, ◌++◌, Bool, true, false, Some}
use Rattle.std.proofs.Common.{None, length, if◌then◌else◌, refl, sym, ap, ◌∙◌, arith, subst, replicate, suc, zero}
use Rattle.std.proofs.lemmas.Bool.{ltb-true, ltb-false}
use Rattle.std.proofs.lemmas.List.{append-nil, append_assoc}
use Rattle.ws_screen.specs.Keyed.{cursor_edit}
use Rattle.ws_screen.specs.ScreenParts.{IsLegal, ScreenParts}
use Rattle.ws_keys.specs.Keys.{after_key_edit, answer_to, edit_of, locked_refusal, first_refusal, refusals}
use Rattle.ws_keys.specs.Strokes.{LeadTo, keys_of, run_between, run_of, runs_to}
use Rattle.ws_keys.specs.declared.key.Key.{Key}
use Rattle.ws_keys.specs.declared.key.Key.TheVariants.{Left, Right, Up, Down}
use Rattle.ws_keys.specs.declared.key.KeyRefusal.TheVariants.{Locked}
use Rattle.ws_keys.proofs.EditedScreens.{moved_alone}

-- keys after others
pub led_on : (keys more : List Key) (s t u : ScreenParts) → LeadTo keys s t → LeadTo more t u
    → LeadTo (keys ++ more) s u
led_on [] more s t u e l = subst (λ w. LeadTo more w u) e l
led_on (key ∷ keys) more s t u (refused, sent, e) l = (refused, sent, led_on keys more _ t u e l)

-- ARROWS

-- so many steps
abbrev pub stepped : (ℕ → ℕ) → ℕ → ℕ → ℕ
stepped step zero c = c
stepped step (suc k) c = stepped step k (step c)

-- keys that move the cursor by a step each
pub arrows : (key : Key) (step : ℕ → ℕ) → ((t : ScreenParts) → refusals t key ≡ locked_refusal t ∷ [])
    → ((t : ScreenParts) → answer_to t key ≡ None) → ((t : ScreenParts)
    → edit_of t key ≡ Some (cursor_edit (step t.cursor)))
    → (k : ℕ) (s : ScreenParts) → length s.cells ≡ 1920 → s.locked ≡ false
    → LeadTo (replicate k key) s (record s { cursor = stepped step k s.cursor })
arrows key step refused silent edits zero s size unlocked = refl
arrows key step refused silent edits (suc k) s size unlocked =
    let next : ScreenParts = record s { cursor = step s.cursor } in
    let moved : after_key_edit (edit_of s key) s ≡ next =
    ap (λ e. after_key_edit e s) (edits s) ∙ moved_alone s (step s.cursor) size in (
      ap first_refusal (refused s) ∙ ap (λ t. if t then Some Locked else None) unlocked,
      silent s,
      subst (λ w. LeadTo (replicate k key) w (record s { cursor = stepped step k (step s.cursor) })) (sym moved)
          (arrows key step refused silent edits k next size unlocked),
    )

rights : (k c : ℕ) → c + k < 1920 → stepped (λ c. (c + 1) % 1920) k c ≡ c + k
rights zero c h = omega arith
rights (suc k) c h = ap (stepped (λ c. (c + 1) % 1920) k) (let e : (c + 1) % 1920 ≡ c + 1 = omega (arith, h) in e)
    ∙ rights k (c + 1) (omega (arith, h)) ∙ omega arith

lefts : (k c : ℕ) → k ≤ c → c < 1920 → stepped (λ c. (c + 1919) % 1920) k c ≡ c - k
lefts zero c h small = omega arith
lefts (suc k) c h small =
    ap (stepped (λ c. (c + 1919) % 1920) k) (let e : (c + 1919) % 1920 ≡ c - 1 = omega (arith, h, small) in e)
    ∙ lefts k (c - 1) (omega (arith, h)) (omega (arith, small)) ∙ omega arith

downs : (k c : ℕ) → c + 80 * k < 1920 → stepped (λ c. (c + 80) % 1920) k c ≡ c + 80 * k
downs zero c h = omega arith
downs (suc k) c h = ap (stepped (λ c. (c + 80) % 1920) k) (let e : (c + 80) % 1920 ≡ c + 80 = omega (arith, h) in e)
    ∙ downs k (c + 80) (omega (arith, h)) ∙ omega arith

ups : (k c : ℕ) → 80 * k ≤ c → c < 1920 → stepped (λ c. (c + 1840) % 1920) k c ≡ c - 80 * k
ups zero c h small = omega arith
ups (suc k) c h small =
    ap (stepped (λ c. (c + 1840) % 1920) k) (let e : (c + 1840) % 1920 ≡ c - 80 = omega (arith, h, small) in e)
    ∙ ups k (c - 80) (omega (arith, h)) (omega (arith, small)) ∙ omega arith

-- the cursor goes to another place by such keys
pub to_right : (k to : ℕ) (s : ScreenParts) → length s.cells ≡ 1920 → s.locked ≡ false → to < 1920 → s.cursor + k ≡ to
    → LeadTo (replicate k Right) s (record s { cursor = to })
to_right k to s size unlocked small e =
    subst (λ c. LeadTo (replicate k Right) s (record s { cursor = c })) (rights k s.cursor (omega (
      arith,
      small,
      e,
    )) ∙ e)
    (arrows Right (λ c. (c + 1) % 1920) (λ t. refl) (λ t. refl) (λ t. refl) k s size unlocked)

pub to_left : (k to : ℕ) (s : ScreenParts) → length s.cells ≡ 1920 → s.locked ≡ false → s.cursor < 1920
    → to + k ≡ s.cursor
    → LeadTo (replicate k Left) s (record s { cursor = to })
to_left k to s size unlocked small e =
    subst (λ c. LeadTo (replicate k Left) s (record s { cursor = c }))
    (lefts k s.cursor (omega (arith, e)) small ∙ omega (arith, e))
    (arrows Left (λ c. (c + 1919) % 1920) (λ t. refl) (λ t. refl) (λ t. refl) k s size unlocked)

to_below : (k to : ℕ) (s : ScreenParts) → length s.cells ≡ 1920 → s.locked ≡ false → to < 1920 → s.cursor + 80 * k ≡ to
    → LeadTo (replicate k Down) s (record s { cursor = to })
to_below k to s size unlocked small e =
    subst (λ c. LeadTo (replicate k Down) s (record s { cursor = c }))
    (downs k s.cursor (omega (arith, small, e)) ∙ e)
    (arrows Down (λ c. (c + 80) % 1920) (λ t. refl) (λ t. refl) (λ t. refl) k s size unlocked)

to_above : (k to : ℕ) (s : ScreenParts) → length s.cells ≡ 1920 → s.locked ≡ false → s.cursor < 1920
    → to + 80 * k ≡ s.cursor → LeadTo (replicate k Up) s (record s { cursor = to })
to_above k to s size unlocked small e =
    subst (λ c. LeadTo (replicate k Up) s (record s { cursor = c }))
    (ups k s.cursor (omega (arith, e)) small ∙ omega (arith, e))
    (arrows Up (λ c. (c + 1840) % 1920) (λ t. refl) (λ t. refl) (λ t. refl) k s size unlocked)

-- to a row, and along it
along_column : (s : ScreenParts) (to : ℕ) → length s.cells ≡ 1920 → s.locked ≡ false → s.cursor < 1920 → to < 1920
    → LeadTo (keys_of (run_between Up Down (s.cursor / 80) (to / 80) ∷ [])) s
    (record s { cursor = to / 80 * 80 + s.cursor % 80 })
along_column s to size unlocked small small' = go (nat_lt (s.cursor / 80) (to / 80)) refl
  where
    at : ℕ
    at = to / 80 * 80 + s.cursor % 80

    go : (t : Bool) → nat_lt (s.cursor / 80) (to / 80) ≡ t
        → LeadTo (keys_of ((if t then run_of Down (to / 80 - s.cursor / 80) else run_of Up
        (s.cursor / 80 - to / 80)) ∷ [])) s (record s { cursor = at })
    go true e =
        let h = ltb-true (s.cursor / 80) (to / 80) e in
        rw (append-nil (replicate (to / 80 - s.cursor / 80) Down))
        (to_below (to / 80 - s.cursor / 80) at s size unlocked (omega (arith, small')) (omega (arith, h)))
    go false e =
        let h = ltb-false (s.cursor / 80) (to / 80) e in
        rw (append-nil (replicate (s.cursor / 80 - to / 80) Up))
        (to_above (s.cursor / 80 - to / 80) at s size unlocked small (omega (arith, h)))

along_row : (s : ScreenParts) (from to : ℕ) → length s.cells ≡ 1920 → s.locked ≡ false → to < 1920
    → s.cursor ≡ to / 80 * 80 + from % 80
    → LeadTo (keys_of (run_between Left Right (from % 80) (to % 80) ∷ [])) s (record s { cursor = to })
along_row s from to size unlocked small at = go (nat_lt (from % 80) (to % 80)) refl
  where
    go : (t : Bool) → nat_lt (from % 80) (to % 80) ≡ t
        → LeadTo (keys_of ((if t then run_of Right (to % 80 - from % 80) else run_of Left
        (from % 80 - to % 80)) ∷ [])) s (record s { cursor = to })
    go true e =
        let h = ltb-true (from % 80) (to % 80) e in
        rw (append-nil (replicate (to % 80 - from % 80) Right))
        (to_right (to % 80 - from % 80) to s size unlocked small (omega (arith, h, at)))
    go false e =
        let h = ltb-false (from % 80) (to % 80) e in
        rw (append-nil (replicate (from % 80 - to % 80) Left))
        (to_left (from % 80 - to % 80) to s size unlocked (omega (arith, at, small)) (omega (arith, h, at)))

pub led_to : (s : ScreenParts) (to : ℕ) → IsLegal s → s.locked ≡ false → s.cursor < 1920 → to < 1920
    → LeadTo (keys_of (runs_to s.cursor to)) s (record s { cursor = to })
led_to s to legal unlocked small small' =
    let mid : ScreenParts = record s { cursor = to / 80 * 80 + s.cursor % 80 } in
    let down = run_between Up Down (s.cursor / 80) (to / 80) in
    let on = run_between Left Right (s.cursor % 80) (to % 80) in
    subst (λ keys. LeadTo keys s (record s { cursor = to })) (append_assoc (replicate down.times down.key) []
    (keys_of (on ∷ [])))
    (led_on (keys_of (down ∷ [])) (keys_of (on ∷ [])) s mid (record s { cursor = to })
    (along_column s to legal.size unlocked small small')
    (along_row mid s.cursor to legal.size unlocked small' refl))
