-- Lines that are carried out one after another.

use Rattle.std.specs.Prelude.{Result, Ok, Err, ◌||◌, not}
use Rattle.std.proofs.Common.{◌≡◌, ℕ, ◌+◌, ◌<◌, List, [], ◌∷◌, ◌++◌, Bool, true, false, ◌&&◌, length, take, drop, inl}
use Rattle.std.proofs.Common.{inr, refl, sym, ap, ◌∙◌, subst, arith, append_assoc, suc, get_or, take-append-drop}
use Rattle.std.proofs.Math.Bool.{and-true, and_assoc}
use Rattle.std.proofs.Math.Seq.{drop-cons}
use Rattle.std.proofs.lemmas.List.{append-nil, take_more}
use Rattle.ws_code.specs.Device.{Writer, WentOut}
use Rattle.ws_code.specs.declared.fault.Fault.{Fault}
use Rattle.ws_code.proofs.DeviceLaws.{went_out_none, went_out_both}
use Rattle.ws_code.proofs.Parts.{fails_last}
use Rattle.ws_text.specs.Printed.{IsPrinted}
use Rattle.ws_text.specs.Printing.{IsOut}
use Rattle.ws_text.specs.declared.output.Output.{Output}
use Rattle.ws_text.specs.declared.output.Output.TheVariants.{Open, Failed}
use Rattle.ws_live.specs.declared.live.AfterUnwell.{AfterUnwell}
use Rattle.ws_live.specs.declared.live.AfterUnwell.TheVariants.{GoOn, Stop}
use Rattle.ws_live.specs.declared.live.Closing.{Closing}
use Rattle.ws_live.specs.declared.live.Ran.{Ran}
use Rattle.ws_live.specs.live.LiveText.{ends_session, is_well, stops, ran_by, ran_and, ran_none, HaveRun, IsStoppedAt}
use Rattle.ws_live.specs.live.LiveText.{Account, IsCutIn, LineResult, LinesDo, account, line_result, line_printing}
use Rattle.ws_live.specs.live.LiveText.{lines_printing}

or_left : (a b : Bool) → (a || b) ≡ false → a ≡ false
or_left true b e = e
or_left false b e = refl

-- a line that doesn't end the session doesn't stop it
pub unstopped : (after : AfterUnwell) (closing : Closing) → ends_session after closing ≡ false → stops closing ≡ false
unstopped GoOn closing e = e
unstopped Stop closing e = or_left (stops closing) (not (is_well closing)) e

-- lines were carried out one after another, none ended the session, and all that they printed is out
pub record HaveGone {L P O : Type 0} (after : AfterUnwell) (runs : LinesDo L P) (writer : Writer O) (from : P) (old : O)
    (lines : List L) (ran : Ran) (to : P) (new : O) : Type 0 where
  pub text : List ℕ
  pub run : HaveRun after runs from lines (account ran.all_well text) to
  pub out : WentOut writer old new text
  pub going : ran.is_over ≡ false

module _ {L P : Type 0} (runs : LinesDo L P) where
  -- one line more
  run_more : (after : AfterUnwell) (from mid to : P) (before : List L) (line : L) (came : Account) (last : List ℕ)
      (closing : Closing)
      → HaveRun after runs from before came mid → runs line mid (line_result (Ok closing) last) to
      → ends_session after closing ≡ false
      → HaveRun after runs from (before ++ line ∷ []) (account (came.all_well && is_well closing)
      (came.text ++ last)) to
  run_more after from mid to [] line came last closing h r s = (
    closing,
    last,
    to,
    account true [],
    subst (λ (p : P). runs line p (line_result (Ok closing) last) to) h.0 r,
    s,
    (refl, refl, refl),
    ap (λ b. b && is_well closing) h.1 ∙ sym (and-true (is_well closing)),
    ap (λ z. z ++ last) h.2 ∙ sym (append-nil last),
  )
  run_more after from mid to (first ∷ before) line came last closing h r s = (
    h.0,
    h.1,
    h.2,
    account (h.3.all_well && is_well closing) (h.3.text ++ last),
    h.4,
    h.5,
    run_more after h.2 mid to before line h.3 last closing h.6 r s,
    ap (λ b. b && is_well closing) h.7 ∙ and_assoc (is_well h.0) h.3.all_well (is_well closing),
    ap (λ z. z ++ last) h.8 ∙ append_assoc h.1 h.3.text last,
  )

module _ {L P O : Type 0} {runs : LinesDo L P} {after : AfterUnwell} {writer : Writer O} {from : P} {old : O} where
  -- none yet
  pub none_gone : HaveGone after runs writer from old [] ran_none from old
  none_gone = record { text = []; run = (refl, refl, refl); out = went_out_none writer old; going = refl }

  module _ {mid : P} {between : O} {before : List L} {ran : Ran}
      (h : HaveGone after runs writer from old before ran mid between) where
    -- a line behind them at which a fault came
    module _ {line : L} {to : P} (Comes : LineResult → Type 0) (come : (outcome : Result Closing Fault)
        (last : List ℕ) → runs line mid (line_result outcome last) to → Comes (line_result outcome (h.text ++ last)))
        (fault : Fault) where
      cut_behind : (last : List ℕ) → IsCutIn (λ came. runs line mid came to) last fault
          → IsCutIn Comes (h.text ++ last) fault
      cut_behind last (inl p) = inl (p.0, (p.1.0, come (Ok p.1.0) last p.1.1))
      cut_behind last (inr r) = inr (come (Err fault) last r)

      pub fails_behind : {new : O} {A : Type 0} (Ends : List ℕ → Result A Fault → Type 0)
          → ((text : List ℕ) → Comes (line_result (Err fault) text) → Ends text (Err fault))
          → IsPrinted writer between new (line_printing runs mid line to) (Err fault)
          → IsPrinted writer old new (record { Ends = Ends; Cut = IsCutIn Comes }) (Err fault)
      fails_behind {new = new} Ends ends (inl e) = inl (
        h.text ++ e.0,
        ends (h.text ++ e.0) (come (Err fault) e.0 e.1),
        went_out_both writer old between new h.text e.0 h.out e.2,
      )
      fails_behind {new = new} Ends ends (inr e) =
          inr (h.text ++ e.0, cut_behind e.0 e.1, fails_last writer old between new h.text e.0 h.out e.2)

    -- one line more, which goes on
    pub goes_on : {line : L} {to : P} {new : O} {lines : List L} {made : Ran} {closing : Closing}
        → before ++ line ∷ [] ≡ lines → IsPrinted writer between new (line_printing runs mid line to) (Ok closing)
        → made ≡ ran_and ran (ran_by after closing) → made.is_over ≡ false
        → HaveGone after runs writer from old lines made to new
    goes_on {line} {to} {new} {lines} {made} {closing} split one e going =
        let goes = rw e at going in
        rw (← split, e) (record {
          text = h.text ++ one.0;
          run = run_more runs after from mid to before line (account ran.all_well h.text) one.0 closing h.run one.1 goes;
          out = went_out_both writer old between new h.text one.0 h.out one.2;
          going = goes;
        })

    module _ {line : L} {to : P} {lines : List L} (others : List L) (split : lines ≡ before ++ line ∷ others) where
      stopped_at : (outcome : Result Closing Fault) (last : List ℕ) → runs line mid (line_result outcome last) to
          → IsStoppedAt after runs from lines (line_result outcome (h.text ++ last)) to
      stopped_at outcome last r = record {
        before = before;
        line = line;
        others = others;
        split = split;
        so_far = account ran.all_well h.text;
        mid = mid;
        ran = h.run;
        last = last;
        stopped = r;
        all = refl;
      }

      -- which ends the session
      pub ends_here : {new : O} {made : Ran} {closing : Closing}
          → IsPrinted writer between new (line_printing runs mid line to) (Ok closing)
          → made ≡ ran_and ran (ran_by after closing) → made.is_over ≡ true
          → IsPrinted writer old new (lines_printing after runs from lines to) (Ok made)
      unfolding stopped_at
      ends_here {new} {made} {closing} one e over = rw e (
        h.text ++ one.0,
        inr (
          record {
            closing = closing;
            at = stopped_at (Ok closing) one.0 one.1;
            over = rw e at over;
            well = refl;
          },
          rw e at over,
        ),
        went_out_both writer old between new h.text one.0 h.out one.2,
      )

      -- or at which a fault came
      pub breaks : {new : O} (fault : Fault)
          → IsPrinted writer between new (line_printing runs mid line to) (Err fault)
          → IsPrinted writer old new (lines_printing after runs from lines to) (Err fault)
      breaks fault one =
          fails_behind (λ came. IsStoppedAt after runs from lines came to) stopped_at fault
          (lines_printing after runs from lines to).Ends (λ text at. at) one

-- one line, of whose text what is out is out, at a fault
module _ {L P O : Type 0} (runs : LinesDo L P) (writer : Writer O) (from to : P) (old new : O) (line : L) where
  pub line_failed : (fault : Fault) (output : Output) (text : List ℕ) → runs line from (line_result (Err fault) text) to
      → IsOut writer old new output text → IsPrinted writer old new (line_printing runs from line to) (Err fault)
  line_failed fault Open text r out = inl (text, r, out)
  line_failed fault Failed text r out = inr (text, inr r, out)

-- the lines of a list, of which so many are carried out
module _ {L : Type 0} (lines : List L) (i : ℕ) (line : L) (inside : i < length lines)
    (is : line ≡ get_or lines i line) where
  pub split_here : lines ≡ take i lines ++ line ∷ drop (i + 1) lines
  split_here = let n : suc i ≡ i + 1 = omega arith in sym (take-append-drop i lines) ∙ ap (λ z. take i lines ++ z)
      (drop-cons lines i line inside) ∙ ap (λ z. take i lines ++ z ∷ drop (suc i) lines) (sym is)
      ∙ ap (λ m. take i lines ++ line ∷ drop m lines) n

  pub taken_here : take i lines ++ line ∷ [] ≡ take (i + 1) lines
  taken_here = ap (λ z. take i lines ++ z ∷ []) is ∙ sym (take_more lines i line inside)
