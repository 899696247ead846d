use Rattle.ws_printing.proofs.Common.{codes, ◌++◌, sym, ◌∙◌, refl, handed_on, is_none, IsMove, IsSendOpcode, IsBodyText}
use Rattle.ws_printing.proofs.Scripts.{no_send, fault_on}
use Rattle.ws_printing.proofs.script.script_move.read_send.Goals as goal

pub returns-in_err-opcode-2-clause-fault : goal.returns-in_err-opcode-2-clause-fault
returns-in_err-opcode-2-clause-fault c =
    let words = c.args.words.now in
    let number = c.in-Some.number.now in
    rw (handed_on c.from_residual-in_err-opcode-2.result c.from_residual-in_err-opcode-2.ensures.1) (fault_on (IsSendOpcode number) (IsMove (codes "send " ++ words)) _
    (λ refused. no_send words number c.in-Some.hex.now c.in-Some.ensures.0 c.in-Some.ensures.1
    (λ opcode body sent some text. refused opcode sent)) (λ (h : ⊥). absurd h) c.in_err-opcode-2.ensures.fault)

pub returns-then-is_empty-clause-fault : goal.returns-then-is_empty-clause-fault
returns-then-is_empty-clause-fault c =
    let hex = c.in-Some.hex.now in (
      refl,
      no_send c.args.words.now c.in-Some.number.now hex c.in-Some.ensures.0 c.in-Some.ensures.1
          (λ opcode body sent some text. some (is_none hex (sym c.is_empty.ensures ∙ c.if-is_empty.true))),
    )

pub returns-in_err-body-clause-fault : goal.returns-in_err-body-clause-fault
returns-in_err-body-clause-fault c =
    let words = c.args.words.now in
    let hex = c.in-Some.hex.now in
    rw (handed_on c.from_residual-in_err-body.result c.from_residual-in_err-body.ensures.1) (fault_on (IsBodyText hex) (IsMove (codes "send " ++ words)) _
    (λ refused. no_send words c.in-Some.number.now hex c.in-Some.ensures.0 c.in-Some.ensures.1
    (λ opcode body sent some text. refused body text))
    (λ (h : Unit {0}). (
      c.in-Some.number.now,
      hex,
      c.in_ok-opcode-2.opcode,
      c.in-Some.ensures.0,
      c.in_ok-opcode-2.ensures.ok,
    )) c.in_err-body.ensures.fault)
