use Rattle.ws_record.proofs.Common.{flat_map, ◌≡◌, ℕ, List, [], ◌∷◌, ◌++◌, append_assoc, flat_map-append, on_ok_weaker}
use Rattle.ws_record.proofs.Common.{IfErr-weaker, first_fails, second_fails, third_fails, three_out, doubled}
use Rattle.ws_record.proofs.Common.{record_spelling, handed_on}
use Rattle.ws_record.proofs.record_writer.write_record.Goals as goal

text_of : {head is : List ℕ} (body : List ℕ) → head ≡ is
    → flat_map doubled head ++ (flat_map doubled body ++ 0xff ∷ 0xef ∷ []) ≡ record_spelling (is ++ body)
text_of {head} body e = rw (← e) (simp (append_assoc, flat_map-append))

pub returns-in_err-write_doubled-clause-err : goal.returns-in_err-write_doubled-clause-err
returns-in_err-write_doubled-clause-err g c =
    rw (handed_on c.from_residual.result c.from_residual.ensures.1) (
      c.in_err-write_doubled.ensures.err.0,
      first_fails _ (flat_map doubled c.args.body.now) (0xff ∷ 0xef ∷ [])
          (text_of c.args.body.now c.header_bytes.ensures) c.in_err-write_doubled.ensures.err.1,
    )

pub returns-in_err-write_doubled-2-clause-err : goal.returns-in_err-write_doubled-2-clause-err
returns-in_err-write_doubled-2-clause-err g c =
    rw (handed_on c.from_residual-in_err-write_doubled-2.result c.from_residual-in_err-write_doubled-2.ensures.1) (
      c.in_err-write_doubled-2.ensures.err.0,
      second_fails _ _ _ (text_of c.args.body.now c.header_bytes.ensures) c.in_ok-write_doubled.ensures.ok
          c.in_err-write_doubled-2.ensures.err.1,
    )

pub returns-clause-ok : goal.returns-clause-ok
returns-clause-ok g c = on_ok_weaker c.write_whole.result
    (λ q. three_out _ _ _ (text_of c.args.body.now c.header_bytes.ensures) c.in_ok-write_doubled.ensures.ok
    c.in_ok-write_doubled-2.ensures.ok q) c.write_whole.ensures.ok

pub returns-clause-err : goal.returns-clause-err
returns-clause-err g c =
    IfErr-weaker c.write_whole.result _ _ (λ fault q. (
      q.0,
      third_fails _ _ _ (text_of c.args.body.now c.header_bytes.ensures) c.in_ok-write_doubled.ensures.ok
          c.in_ok-write_doubled-2.ensures.ok q.1,
    )) c.write_whole.ensures.err
