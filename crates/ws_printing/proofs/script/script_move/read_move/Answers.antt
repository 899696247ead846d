use Rattle.ws_printing.proofs.Common.{codes, ◌++◌, ℕ, List, ap, subst, refl, IfErr-weaker, IsMove}
use Rattle.ws_printing.specs.script.ScriptFaults.{IsLineFault, IsSendBegun, IsSendLine}
use Rattle.ws_printing.proofs.Scripts.{no_move, not_both, fault_on}
use Rattle.ws_printing.proofs.script.script_move.read_move.Goals as goal

pub returns-in-None-clause-fault : goal.returns-in-None-clause-fault
returns-in-None-clause-fault c = (
  refl,
  no_move _ _ c.requires (not_both (codes "down") (codes "send") refl c.in-down.is) (λ e. c.in-None.ensures)
      (not_both (codes "down") (codes "up") refl c.in-down.is) (not_both (codes "down") (codes "key") refl c.in-down.is),
)

pub returns-in-None-read_count-clause-fault : goal.returns-in-None-read_count-clause-fault
returns-in-None-read_count-clause-fault c = (
  refl,
  no_move _ _ c.requires (not_both (codes "up") (codes "send") refl c.in-up.is)
      (not_both (codes "up") (codes "down") refl c.in-up.is) (λ e. c.in-None-read_count.ensures)
      (not_both (codes "up") (codes "key") refl c.in-up.is),
)

pub returns-in_default-clause-fault : goal.returns-in_default-clause-fault
returns-in_default-clause-fault c = (
  refl,
  no_move _ _ c.requires (λ e. absurd (c.in_default.not-send e)) (λ e. absurd (c.in_default.not-down e))
      (λ e. absurd (c.in_default.not-up e)) (λ e. absurd (c.in_default.not-key e)),
)

pub returns-in-send-clause-fault : goal.returns-in-send-clause-fault
returns-in-send-clause-fault c =
    let words = c.args.words.now in
    let line : List ℕ = (c.args.command.now ++ codes " ") ++ words in
    IfErr-weaker c.read_send.result (IsLineFault (IsMove (codes "send " ++ words)) (IsSendBegun words))
    (IsLineFault (IsMove line) (IsSendLine line)) (λ fault h.
    fault_on (IsMove (codes "send " ++ words)) (IsMove line) fault
    (λ none step m. none step (subst (λ (z : List ℕ). IsMove ((z ++ codes " ") ++ words) step) c.in-send.is m))
    (λ begun. (words, ap (λ (z : List ℕ). (z ++ codes " ") ++ words) c.in-send.is, begun)) h) c.read_send.ensures.fault
