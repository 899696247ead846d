-- The longest answer has room in the array, so that none of its bytes is left out.

use Rattle.std.specs.Prelude.{Result, Ok, Err, OnOk, IfErr}
use Rattle.std.specs.List.{flat_map}
use Rattle.std.proofs.Common.{◌≡◌, ℕ, ◌+◌, ◌*◌, ◌≤◌, ◌≢◌, List, [], ◌∷◌, ◌++◌, Option, Some, None, length, take}
use Rattle.std.proofs.Common.{sym, ap, ◌∙◌, arith, append_assoc, length-append, lit≤, subst}
use Rattle.std.proofs.lemmas.List.{append-nil, length-take-le, nil_from_length}
use Rattle.ws_code.specs.Device.{Taken, bytes_taken, Writes, WentOut, FailedWithin, IsWriteFailure}
use Rattle.ws_code.specs.declared.fault.Fault.{Fault}
use Rattle.ws_code.specs.declared.fault.Fault.TheVariants.{Write}
use Rattle.ws_telnet.specs.Token.{doubled}
use Rattle.ws_record.specs.Grammar.{header}
use Rattle.ws_record.specs.declared.opcode.Opcode.TheVariants.{PutGet}
use Rattle.ws_keys.specs.declared.answer.Answer.{Answer}
use Rattle.ws_keys.specs.declared.answer.Answer.TheVariants.{Read, Attention, SystemRequest}
use Rattle.ws_end.specs.station.AnswerSpelling.{answer_spelling, IsShortAnswer}
use Rattle.ws_c.specs.Wire.{array_takes, array_writer}
use Rattle.ws_c.specs.declared.wire.TheConstants.{ANSWER_ROOM}

doubled_one : (byte : ℕ) → length (doubled byte) ≤ 2
doubled_one byte = grind arith

doubled_most : (bytes : List ℕ) → length (flat_map doubled bytes) ≤ 2 * length bytes
doubled_most [] = lit≤ tt
doubled_most (b ∷ bs) = omega (
  arith,
  doubled_one b,
  doubled_most bs,
  length-append (doubled b) (flat_map doubled bs),
)

-- the array has room for an answer
answer_fits : (answer : Answer) → IsShortAnswer answer → length (answer_spelling answer) ≤ ANSWER_ROOM
answer_fits (Read body) short =
    let all : List ℕ = header (10 + length body) 0 PutGet ++ body in
    omega (arith, short, doubled_most all, length-append (flat_map doubled all) (0xff ∷ 0xef ∷ []))
answer_fits Attention short = lit≤ tt
answer_fits SystemRequest short = lit≤ tt

writes_all : (from to : List ℕ) (ws : List Taken) → Writes array_takes from ws to → to ≡ from ++ bytes_taken ws
writes_all from to [] p = sym p ∙ sym (append-nil from)
writes_all from to (w ∷ ws) p = writes_all p.0 to ws p.3 ∙ ap (λ (z : List ℕ). z ++ bytes_taken ws) p.1.1
    ∙ append_assoc from (take w.count w.offered) (bytes_taken ws)

-- the array holds what went out
array_went_out : (from to bytes : List ℕ) → WentOut array_writer from to bytes → to ≡ from ++ bytes
array_went_out from to bytes p = writes_all from to p.writes p.made ∙ ap (λ (z : List ℕ). from ++ z) p.took

-- what fits into an empty array goes out
array_never_fails : (to text : List ℕ) → length text ≤ ANSWER_ROOM → FailedWithin array_writer [] to text → ⊥
array_never_fails to text fits f = go f.failed.answer f.failed.last f.failed.failed
  where
    held : f.failed.before ≡ take f.count text
    held = array_went_out [] f.failed.before (take f.count text) f.failed.went_out

    go : (answer : Option ℕ) → array_takes f.failed.before f.failed.offered answer to
        → IsWriteFailure f.failed.offered answer 0 0 → ⊥
    go None last failed = last
    go (Some count) last failed =
        let some : length f.failed.offered ≢ 0 = λ e. failed.1 (nil_from_length f.failed.offered e) in
        absurd (omega (
          arith,
          last.0,
          failed.0,
          some,
          f.within,
          fits,
          ap (λ (l : List ℕ). length l) held,
          length-take-le f.count text (omega (arith, f.within)),
        ))

-- an answer that was written into an empty array stands there whole
pub answer_written : (answer : Answer) (from to : List ℕ) (result : Result (Unit {0}) Fault) → from ≡ []
    → IsShortAnswer answer → OnOk result (WentOut array_writer from to (answer_spelling answer))
    → IfErr result (λ fault. (fault ≡ Write) × FailedWithin array_writer from to (answer_spelling answer))
    → to ≡ answer_spelling answer
answer_written answer from to (Ok done) empty short ok err = array_went_out from to (answer_spelling answer) ok
    ∙ ap (λ (l : List ℕ). l ++ answer_spelling answer) empty
answer_written answer from to (Err fault) empty short ok err =
    absurd (array_never_fails to (answer_spelling answer) (answer_fits answer short)
    (subst (λ (l : List ℕ). FailedWithin array_writer l to (answer_spelling answer)) empty err.1))
