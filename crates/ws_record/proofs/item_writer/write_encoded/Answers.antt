use Rattle.ws_record.proofs.Common.{flat_map, unwrap_or, IfSome, IfNone, ◌≡◌, ℕ, List, [], ◌∷◌, ◌++◌, append_assoc, ◌<◌}
use Rattle.ws_record.proofs.Common.{length, ◌≤◌, arith, ◌+◌, Option, Some, None, flat_map-append, on_ok_weaker}
use Rattle.ws_record.proofs.Common.{IfErr-weaker, spelling_of, first_fails, second_fails, third_fails, three_out}
use Rattle.ws_record.proofs.Common.{doubled, record_spelling, record_bytes, handed_on}
use Rattle.ws_record.proofs.Headers.{header_length}
use Rattle.ws_record.proofs.item_writer.write_encoded.Given.{Over}
use Rattle.ws_record.proofs.item_writer.write_encoded.Goals as goal
use Rattle.ws_record.proofs.item_writer.write_encoded.Goals.{After-header_bytes}

known_length : (o : Option ℕ) (n : ℕ) → IfSome o (λ k. (k ≡ n) × (k ≤ 65525)) → IfNone o (65525 < n) → n ≤ 65525
    → unwrap_or o 0 ≡ n
known_length (Some k) n some none h = some.0
known_length None n some none h = absurd (omega (arith, none, h))

-- the header's bytes, the body's and the end are the record's
text : (g : Over) (c : After-header_bytes g)
    → flat_map doubled c.header_bytes.result
    ++ (flat_map doubled (spelling_of g.B.Code.rules c.as_slice-units.result.now) ++ 0xff ∷ 0xef ∷ [])
    ≡ record_spelling (record_bytes g.B.Code.rules c.args.encoded.now)
text g c =
    let r = c.args.encoded.now in
    let body : List ℕ = spelling_of g.B.Code.rules r.body in
    let same = c.as_slice-units.ensures in
    let known = known_length c.body_length.result (length body) (rw same at c.body_length.ensures.some)
    (rw same at c.body_length.ensures.none)
    (omega (arith, c.requires, header_length (10 + length body) r.flags r.opcode body)) in
    rw (c.header_bytes.ensures, c.unwrap_or-length.ensures, same, known)
    (simp (append_assoc, flat_map-append))

pub returns-in_err-write_doubled-clause-err : goal.returns-in_err-write_doubled-clause-err
returns-in_err-write_doubled-clause-err g c =
    rw (handed_on c.from_residual.result c.from_residual.ensures.1) (
      c.in_err-write_doubled.ensures.err.0,
      first_fails _ (flat_map doubled (spelling_of g.B.Code.rules c.as_slice-units.result.now)) (0xff ∷ 0xef ∷ [])
          (text g (goal.at.returns-in_err-write_doubled-clause-err g c).After-header_bytes)
          c.in_err-write_doubled.ensures.err.1,
    )

pub returns-in_err-write_units-clause-err : goal.returns-in_err-write_units-clause-err
returns-in_err-write_units-clause-err g c =
    rw (handed_on c.from_residual-in_err-write_units.result c.from_residual-in_err-write_units.ensures.1) (
      c.in_err-write_units.ensures.err.0,
      second_fails _ _ _ (text g (goal.at.returns-in_err-write_units-clause-err g c).After-header_bytes)
          c.in_ok-write_doubled.ensures.ok c.in_err-write_units.ensures.err.1,
    )

pub returns-clause-ok : goal.returns-clause-ok
returns-clause-ok g c = on_ok_weaker c.write_whole.result
    (three_out _ _ _ (text g (goal.at.returns-clause-ok g c).After-header_bytes) c.in_ok-write_doubled.ensures.ok
    c.in_ok-write_units.ensures.ok) c.write_whole.ensures.ok

pub returns-clause-err : goal.returns-clause-err
returns-clause-err g c = IfErr-weaker c.write_whole.result _ _ (λ fault q. (
  q.0,
  third_fails _ _ _ (text g (goal.at.returns-clause-err g c).After-header_bytes) c.in_ok-write_doubled.ensures.ok
      c.in_ok-write_units.ensures.ok q.1,
)) c.write_whole.ensures.err
