-- What a session printed by its lines, and behind them by one that is carried on.

use Rattle.std.specs.Prelude.{Result, Ok, Err, IfOk, IsErrAnd}
use Rattle.std.proofs.Common.{◌≡◌, ℕ, List, [], ◌++◌, Bool, true, false, ◌&&◌, ◌⊎◌, inl, inr, refl, sym, ap, ◌∙◌}
use Rattle.std.proofs.lemmas.Bool.{false≢true}
use Rattle.ws_code.specs.Device.{Writer, WentOut}
use Rattle.ws_code.specs.declared.fault.Fault.{Fault}
use Rattle.ws_code.proofs.DeviceLaws.{went_out_none, went_out_both}
use Rattle.ws_text.specs.Printed.{Printing, IsPrinted}
use Rattle.ws_script.specs.asked.RunFaults.{told_fault}
use Rattle.ws_script.specs.declared.asked.fault.ToldFault.{ToldFault}
use Rattle.ws_live.specs.declared.live.LineSettings.{LineSettings}
use Rattle.ws_live.specs.declared.live.Ran.{Ran}
use Rattle.ws_live.specs.declared.live.Telling.{Telling}
use Rattle.ws_script.specs.declared.lines.live_line.NumberedLine.{NumberedLine}
use Rattle.ws_live.specs.live.CarryingOn.{carrying_on}
use Rattle.ws_live.specs.live.LiveText.{Account, IsLiveText, IsOverAt, LinesDo, WithClosing, account}
use Rattle.ws_network.specs.SessionPrinting.{HaveLedTo, IsPrintedBehind, IsTextAndOn, SessionLines, all_lines}
use Rattle.ws_network.specs.SessionPrinting.{does_after, prints_closed, serve_printing, session_lines, session_printing}

-- what is told of a session, where its recording may have failed, or its connection been reset
pub judged : {T E : Type 0} (P : T → Type 0) (IsFault : E → Type 0) (outcome told : Result T E) → IfOk outcome P
    → (told ≡ outcome) ⊎ IsErrAnd told IsFault → IfOk told P
judged P IsFault outcome told well (inl as_it_was) = rw as_it_was well
judged P IsFault outcome (Ok v) well (inr failed) = absurd failed
judged P IsFault outcome (Err fault) well (inr failed) = tt

-- where it is told as a good one, it was
pub was_good : {T E : Type 0} {outcome : Result T E} {made : T} → (Ok made ≡ outcome) ⊎ ⊥ → outcome ≡ Ok made
was_good (inl as_it_was) = sym as_it_was
was_good (inr failed) = absurd failed

module _ {L P : Type 0} (session : SessionLines L P) (is_over : Bool) (came : Account)
    (h : IsLiveText session.settings.after (prints_closed session) session.from session.lines is_over came session.to)
  where
    all_run : is_over ≡ false → HaveLedTo session came session.to
    all_run going = elim h [
      | inl all ↦ all.0
      | inr at ↦ absurd (false≢true (sym going ∙ at.1))
    ]

    is_over_at : is_over ≡ true
        → IsOverAt session.settings.after (prints_closed session) session.from session.lines came session.to
    is_over_at over = elim h [
      | inl all ↦ absurd (false≢true (sym all.1 ∙ over))
      | inr at ↦ at.0
    ]

module _ {L P : Type 0} (session : SessionLines L P) (has_script : Bool) where
  -- what is printed by its lines alone, and told as it is
  abbrev Session : Printing Ran ToldFault
  Session = session_printing session has_script (λ ran told. told ≡ ran)

  pub script_ends : {O : Type 0} {printer : Writer O} {old new : O} (ran : Ran)
      → IsPrinted printer old new (all_lines session) (Ok ran)
      → IsPrinted printer old new Session (Ok ran)
  script_ends ran e = (e.0, (ran, e.1, refl), e.2)

  pub script_fails : {O : Type 0} {printer : Writer O} {old new : O} (why : Fault)
      → IsPrinted printer old new (all_lines session) (Err why)
      → IsPrinted printer old new Session (Err (told_fault why))
  script_fails why (inl e) = inl (e.0, inl (why, e.1, refl), e.2)
  script_fails why (inr e) = inr (e.0, (why, e.1, refl), e.2)

-- a session of these lines alone that was told as it is
module _ {L P O : Type 0} (does : Telling → LinesDo L P) (settings : LineSettings) (printer : Writer O)
    (lines : List (NumberedLine L)) (to : P) (has_script : Bool) (old new : O) where
  pub connected_well : (from fresh : P) (ran : Ran) → fresh ≡ from → IsPrinted printer old new
      (session_printing (session_lines does settings fresh lines to) has_script (λ ran told. told ≡ ran)) (Ok ran)
      → (text : List ℕ) × ((is_over : Bool)
      × IsLiveText settings.after (WithClosing does settings) from lines is_over (account ran.all_well text) to)
      × WentOut printer old new text
  connected_well from fresh ran is e = (e.0, (ran.is_over, rw (← is, e.1.2) e.1.1), e.2)

-- a session after whose lines one is carried on
module _ {L P O : Type 0} (session : SessionLines L P) (on : L) (printer : Writer O) (has_script : Bool) (old new : O)
  where
    abbrev Behind : Result Bool ToldFault → Type 0
    Behind = IsPrintedBehind printer old new (serve_printing session has_script on)

    -- what its lines alone print, up to there
    abbrev PrintsTo : P → O → Result Ran ToldFault → Type 0
    PrintsTo to at = IsPrinted printer old at (session_printing (record session { to = to }) has_script
        (λ ran told. told ≡ ran))

    pub session_fails : (told : ToldFault) → PrintsTo session.to new (Err told) → Behind (Err told)
    session_fails told (inl e) = ([], old, went_out_none printer old, inl (e.0, inl (refl, e.1), e.2))
    session_fails told (inr e) = ([], old, went_out_none printer old, inr (e.0, inl (refl, e.1), e.2))

    pub session_stops : (ran : Ran) → PrintsTo session.to new (Ok ran) → ran.is_over ≡ true → Behind (Ok ran.all_well)
    session_stops ran e over =
        let came = e.1 in
        let same : ran ≡ came.0 = came.2 in
        let stopped = sym (ap (λ r. r.is_over) same) ∙ over in
        let told = inl (refl, (came.0, came.1, (stopped, ap (λ r. r.all_well) same))) in
        ([], old, went_out_none printer old, (e.0, told, e.2))

    -- the lines went through, and what came behind them
    module _ (mid : P) (between : O) (ran : Ran) (e : PrintsTo mid between (Ok ran)) (going : ran.is_over ≡ false) where
      through : HaveLedTo session (account ran.all_well e.0) mid
      through =
          let same : ran ≡ e.1.0 = e.1.2 in
          all_run (record session { to = mid }) ran.is_over (account ran.all_well e.0) (rw same e.1.1) going

      pub goes_on_well : (well : Bool)
          → IsPrinted printer between new (carrying_on (does_after session) on mid session.to) (Ok well)
          → Behind (Ok (ran.all_well && well))
      goes_on_well well c = (e.0, between, e.2, (c.0, inr (ran.all_well, mid, through, (well, c.1, refl)), c.2))

      pub goes_on_badly : (why : Fault)
          → IsPrinted printer between new (carrying_on (does_after session) on mid session.to) (Err why)
          → Behind (Err (told_fault why))
      goes_on_badly why (inl c) =
          (e.0, between, e.2, inl (c.0, inr (ran.all_well, mid, through, (why, c.1, refl)), c.2))
      goes_on_badly why (inr c) =
          (e.0, between, e.2, inr (c.0, inr (ran.all_well, mid, through, (why, c.1, refl)), c.2))

    -- what was printed where it ended well
    well_printed : (all_well : Bool) → Behind (Ok all_well)
        → (text : List ℕ) × IsTextAndOn session on (account all_well text) × WentOut printer old new text
    well_printed all_well s =
        let e = s.3 in (
          s.0 ++ e.0,
          elim e.1 [
            | inl stopped ↦
                let came = stopped.1 in
                let ran : Ran = came.0 in
                let at = is_over_at session ran.is_over (account ran.all_well e.0) came.1 came.2.0 in
                rw (stopped.0, came.2.1) (inr at)
            | inr behind ↦
                let came = behind.3 in
                inl (account behind.0 s.0, behind.1, account came.0 e.0, behind.2, came.1, came.2, refl)
          ],
          went_out_both printer old s.1 new s.0 e.0 s.2 e.2,
        )

module _ {L P O : Type 0} (does : Telling → LinesDo L P) (settings : LineSettings)
    (printer : Writer O) (from to : P) (has_script : Bool) (old new : O) (Read : List (NumberedLine L) → Type 0) where
  -- the session of these lines
  abbrev SessionOf : List (NumberedLine L) → SessionLines L P
  SessionOf lines = session_lines does settings from lines to

  pub served_well : (on : L) (outcome : Result Bool ToldFault)
      → (lines : List (NumberedLine L)) × Read lines
      × IsPrintedBehind printer old new (serve_printing (SessionOf lines) has_script on) outcome
      → IfOk outcome (λ all_well. (lines : List (NumberedLine L)) × (text : List ℕ) × Read lines
      × IsTextAndOn (SessionOf lines) on (account all_well text) × WentOut printer old new text)
  served_well on (Ok all_well) s =
      let e = well_printed (SessionOf s.0) on printer has_script old new all_well s.2 in (s.0, e.0, s.1, e.1, e.2)
  served_well on (Err told) s = tt
