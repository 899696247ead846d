-- Where the lines of a session come from.

use Rattle.std.specs.Borrow.{Bor}
use Rattle.std.specs.Option.{is_none}
use Rattle.std.specs.Prelude.{Option, None, Some, MatchOption}
use Rattle.std.proofs.Common.{◌≡◌, ◌⊎◌, ℕ, List, Bool, true, false, ap, sym, subst, ◌∙◌, inl, inr}
use Rattle.std.proofs.lemmas.Bool.{false≢true}
use Rattle.ws_live.specs.live.LiveText.{Account}
use Rattle.ws_script.specs.declared.lines.live_line.NumberedLine.{NumberedLine}
use Rattle.ws_script.specs.lines.LiveScript.{AreLiveLines, LineLanguage}
use Rattle.ws_network.specs.ManySessions.{AreMany, AreSessions}
use Rattle.ws_network.specs.SessionPrinting.{AreScripted}
use Rattle.ws_network.specs.Sessions.{AreFromScript}

-- the lines of a session are those of the file that is named
module _ {L V : Type 0} (items : V → List (NumberedLine L)) (language : LineLanguage L) (ready : Bool) where
  -- the lines of a slice are those that were read
  abbrev pub IsSliceOf : Option V → Option (Bor (List (NumberedLine L))) → Type 0
  IsSliceOf read slice = MatchOption read (is_none slice ≡ true)
      (λ v. MatchOption slice ⊥ (λ s. s.now ≡ items v))

  pub from_script : (script : Option (Bor (List ℕ))) (read : Option V) (slice : Option (Bor (List (NumberedLine L))))
      (lines : List (NumberedLine L))
      → MatchOption read (is_none script ≡ true) (λ v. (file : List ℕ) × AreLiveLines language file (items v))
      → is_none read ≡ is_none script → IsSliceOf read slice → AreScripted language ready slice lines
      → AreFromScript language ready script lines
  from_script None None None lines file named is all = all
  from_script None None (Some s) lines file named is all = absurd (false≢true is)
  from_script None (Some v) slice lines file named is all = absurd (false≢true named)
  from_script (Some path) None slice lines none named is all = absurd (false≢true none)
  from_script (Some path) (Some v) None lines file named is all = absurd is
  from_script (Some path) (Some v) (Some s) lines file named is all = (
    file.0,
    subst (λ z. AreLiveLines language file.0 z) (sym (all ∙ is)) file.1,
  )

  -- a slice is there exactly where a script is named
  pub named_slice : (script : Option (Bor (List ℕ))) (read : Option V) (slice : Option (Bor (List (NumberedLine L))))
      → is_none read ≡ is_none script → IsSliceOf read slice → is_none slice ≡ is_none script
  named_slice script None slice named is = is ∙ named
  named_slice script (Some v) None named is = absurd is
  named_slice script (Some v) (Some s) named is = named

-- a session is all where no number of them is asked for, or no script is named
pub one_session : (IsSession : Account → Type 0) (script : Option (Bor (List ℕ))) (sessions : Option ℕ) (came : Account)
    → (sessions ≡ None) ⊎ (is_none script ≡ true) → IsSession came → AreSessions IsSession script sessions came
one_session P None sessions came why is = is
one_session P (Some path) None came why is = is
one_session P (Some path) (Some n) came (inl no_number) is = absurd (false≢true (ap is_none no_number))
one_session P (Some path) (Some n) came (inr no_script) is = absurd (false≢true no_script)

-- so many are all where that number is asked for, and a script is named
pub many_sessions : (IsSession : Account → Type 0) (script : Option (Bor (List ℕ))) (n : ℕ) (came : Account)
    → false ≡ is_none script → AreMany IsSession n came → AreSessions IsSession script (Some n) came
many_sessions P None n came named are = absurd (false≢true named)
many_sessions P (Some path) n came named are = are
