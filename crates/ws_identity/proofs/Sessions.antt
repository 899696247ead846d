-- The device's name is told once a session.
use Rattle.std.specs.Prelude.{min, nat_lt, is_some}
use Rattle.std.specs.Option.{option_map_or}
use Rattle.std.proofs.Common.{◌≡◌, ℕ, ◌+◌, ◌-◌, ◌^◌, ◌<◌, ◌≤◌, List, [], ◌∷◌, Bool, true, false, ◌==◌, ◌&&◌, if◌then◌else◌}
use Rattle.std.proofs.Common.{not, refl, sym, ap, ◌∙◌, subst, arith, Some, None}
use borrow.Author.Tests.{ltb-true, ltb-false, lt-ltb}
use Rattle.ws_code.specs.Device.{one_more}
use Rattle.ws_telnet.specs.declared.token.Telnet.{Telnet}
use Rattle.ws_telnet.specs.declared.token.Telnet.TheVariants.{Command, Option as Negotiate, Sub as Subnegotiate}
use Rattle.ws_nego.specs.Options.{Answer, no_effect}
use Rattle.ws_identity.specs.declared.codes.TheConstants.{NEW_ENVIRON}
use Rattle.ws_identity.specs.declared.identity.Identity.{Identity}
use Rattle.ws_identity.specs.Environ.{EnvironState, new_environ, environ_row, environ_verb_answer, told_token}
use Rattle.ws_identity.specs.Environ.{after_asked, asks}
use Rattle.ws_identity.specs.Session.{is_answered_question, after_token, after_tokens, answered, IsToldOnce}

-- so many questions have been answered
record Asked (environ : EnvironState) (count : ℕ) : Type 0 where
  told : environ.name_told ≡ (is_some environ.identity.device && nat_lt 0 count)
  refused : environ.names_refused ≡ (if is_some environ.identity.device then min (count - 1) (2 ^ 64 - 1) else 0)

bump : (k m : ℕ) → 0 < k → min (min (k - 1) m + 1) m ≡ min (k + 1 - 1) m
bump k m h = omega arith

first : (k m : ℕ) → k ≤ 0 → min (k - 1) m ≡ min (k + 1 - 1) m
first k m h = omega arith

-- what has been told, where there is a device or not, and where its name was told or not
abbrev asked_after : EnvironState → Bool → Bool → EnvironState
asked_after environ device told =
    if device
    then (if told then record environ { names_refused = one_more environ.names_refused }
    else record environ { name_told = true })
    else environ

-- one question more
one_asked : (environ : EnvironState) (k : ℕ) → Asked environ k → Asked (after_asked environ) (k + 1)
    × ((after_asked environ).identity ≡ environ.identity)
one_asked environ k asked = go (is_some environ.identity.device) refl environ.name_told refl asked.told asked.refused
  where
    go : (d : Bool) → is_some environ.identity.device ≡ d → (t : Bool) → environ.name_told ≡ t → t ≡ (d && nat_lt 0 k)
        → environ.names_refused ≡ (if d then min (k - 1) (2 ^ 64 - 1) else 0)
        → Asked (asked_after environ d t) (k + 1) × ((asked_after environ d t).identity ≡ environ.identity)
    go true p true e told refused =
        let pos : 0 < k = ltb-true 0 k (sym told) in
        let more : nat_lt 0 (k + 1) ≡ true = lt-ltb 0 (k + 1) (omega arith) in (
          record {
            told = rw (p, more) e;
            refused = rw (p, refused) (bump k (2 ^ 64 - 1) pos);
          },
          refl,
        )
    go true p false e told refused =
        let none : k ≤ 0 = ltb-false 0 k (sym told) in
        let more : nat_lt 0 (k + 1) ≡ true = lt-ltb 0 (k + 1) (omega arith) in (
          record {
            told = rw (p, more) refl;
            refused = rw p (refused ∙ first k (2 ^ 64 - 1) none);
          },
          refl,
        )
    go false p t e told refused = (record { told = rw p (e ∙ told); refused = rw p refused }, refl)

-- no question more
stays : (environ : EnvironState) (k : ℕ) → Asked environ k → Asked environ (k + 0)
stays environ k asked = let same : k ≡ k + 0 = omega arith in subst (λ (n : ℕ). Asked environ n) same asked

switched : (environ : EnvironState) (on : Bool) (k : ℕ) → Asked environ k → Asked (record environ { on = on }) (k + 0)
switched environ on k asked = stays (record environ { on = on }) k (record { told = asked.told; refused = asked.refused })

step : (environ : EnvironState) (k : ℕ) → Asked environ k → (token : Telnet)
    → Asked (after_token environ token) (k + (if is_answered_question environ token then 1 else 0))
    × ((after_token environ token).identity ≡ environ.identity)
step environ k asked (Command code) = (stays environ k asked, refl)
step environ k asked (Negotiate verb option) = go (option == NEW_ENVIRON)
  where
    go : (t : Bool)
        → Asked (option_map_or (λ (answer : Answer EnvironState). answer.after)
        (if t then Some (environ_verb_answer environ verb) else None) environ) (k + 0)
        × ((option_map_or (λ (answer : Answer EnvironState). answer.after)
        (if t then Some (environ_verb_answer environ verb) else None) environ).identity ≡ environ.identity)
    go true = (switched environ (environ_row verb environ.on).0 k asked, refl)
    go false = (stays environ k asked, refl)
step environ k asked (Subnegotiate sub) =
    go (sub.option == NEW_ENVIRON) (environ.on && asks sub.data_) (told_token environ.identity (not environ.name_told) ∷ [])
  where
    go : (t u : Bool) (reply : List Telnet)
        → Asked (option_map_or (λ (answer : Answer EnvironState). answer.after)
        (if t then Some (if u then record { after = after_asked environ; reply = reply } else no_effect environ) else None)
        environ) (k + (if t && u then 1 else 0))
        × ((option_map_or (λ (answer : Answer EnvironState). answer.after)
        (if t then Some (if u then record { after = after_asked environ; reply = reply } else no_effect environ) else None)
        environ).identity ≡ environ.identity)
    go true true reply = one_asked environ k asked
    go true false reply = (stays environ k asked, refl)
    go false u reply = (stays environ k asked, refl)

run : (environ : EnvironState) (k : ℕ) → Asked environ k → (tokens : List Telnet)
    → Asked (after_tokens environ tokens) (k + answered environ tokens)
    × ((after_tokens environ tokens).identity ≡ environ.identity)
run environ k asked [] = (stays environ k asked, refl)
run environ k asked (token ∷ tokens) =
    let count = if is_answered_question environ token then 1 else 0 in
    let here : _ = step environ k asked token in
    let later : _ = run (after_token environ token) (k + count) here.0 tokens in
    let joined : (k + count) + answered (after_token environ token) tokens
    ≡ k + (count + answered (after_token environ token) tokens) = omega arith in
    (subst (λ (n : ℕ). Asked (after_tokens (after_token environ token) tokens) n) joined later.0, later.1 ∙ here.1)

none_asked : (identity : Identity) → Asked (new_environ identity) 0
none_asked identity = go (is_some identity.device) refl
  where
    go : (d : Bool) → is_some identity.device ≡ d → Asked (new_environ identity) 0
    go true p = record { told = rw p refl; refused = rw p refl }
    go false p = record { told = rw p refl; refused = rw p refl }

pub told_once : (identity : Identity) (tokens : List Telnet) → IsToldOnce identity tokens
told_once identity tokens =
    let all : _ = run (new_environ identity) 0 (none_asked identity) tokens in
    let device : is_some (after_tokens (new_environ identity) tokens).identity.device ≡ is_some identity.device =
    ap (λ (who : Identity). is_some who.device) all.1 in
    let count : 0 + answered (new_environ identity) tokens ≡ answered (new_environ identity) tokens = omega arith in
    record {
      told = rw (← count) (rw (← device) all.0.told);
      refused = rw (← count) (rw (← device) all.0.refused);
    }
