-- What is written as lines goes on to the sink as strings, write by write.

use Rattle.std.specs.Prelude.{◌≢◌, Option, None, Some}
use Rattle.std.proofs.Common.{◌≡◌, ◌∙◌, ℕ, List, [], ◌∷◌, ◌++◌, ap, sym, refl, subst, take, arith}
use Rattle.ws_code.specs.Device.{Writer, Taken, Writes, bytes_taken, IsWriteFailure}
use Rattle.ws_text.specs.Printing.{IsOut, Prints}
use Rattle.ws_text.specs.declared.output.Output.{Output}
use Rattle.ws_text.specs.declared.output.Output.TheVariants.{Open, Failed}
use Rattle.ws_text.proofs.Prints.{prints_both, prints_none, whole_out}
use Rattle.ws_json.specs.LineStrings.{passes, passing_writer}
use Rattle.ws_json.specs.declared.line_strings.LineStrings.{LineStrings}
use Rattle.ws_json.proofs.PassedLines.{left_after_all, string_parts}

-- bytes went on to the sink, which is still the same one
pub record Passed {S : Type 0} (writer : Writer S) (a b : LineStrings S) (bytes : List ℕ) : Type 0 where
  pub same_sink : b.sink.ghost_name ≡ a.sink.ghost_name
  pub prints : Prints writer a.sink.now b.sink.now a.output b.output (string_parts a.left_out bytes)
  pub left : b.left_out ≡ left_after_all a.left_out bytes

module _ {S : Type 0} (writer : Writer S) where
  -- one write, and then others
  passed_more : (a mid b : LineStrings S) (offered bytes : List ℕ) (count : ℕ)
      → passes writer a offered (Some count) mid → count ≢ 0 → Passed writer mid b bytes
      → Passed writer a b (take count offered ++ bytes)
  passed_more a mid b [] bytes count p some q = absurd (some p)
  passed_more a mid b (byte ∷ offered) bytes count p some q =
      let one : byte ∷ [] ≡ take count (byte ∷ offered) = ap (λ n. take n (byte ∷ offered)) (sym p.0) in
      let rest : Prints writer mid.sink.now b.sink.now mid.output b.output (string_parts _ bytes) =
      subst (λ left. Prints writer mid.sink.now b.sink.now mid.output b.output (string_parts left bytes)) p.1.left
      q.prints in
      subst (λ z. Passed writer a b (z ++ bytes)) one (record {
        same_sink = q.same_sink ∙ p.1.same_sink;
        prints = prints_both p.1.prints rest;
        left = q.left ∙ ap (λ left. left_after_all left bytes) p.1.left;
      })

  passed_all : (a b : LineStrings S) (writes : List Taken) → Writes (passes writer) a writes b
      → Passed writer a b (bytes_taken writes)
  passed_all a b [] p = subst (λ (to : LineStrings S). Passed writer a to []) p
      (record { same_sink = refl; prints = prints_none writer a.sink.now a.output; left = refl })
  passed_all a b (w ∷ writes) p =
      passed_more a p.0 b w.offered (bytes_taken writes) w.count p.1 p.2 (passed_all p.0 b writes p.3)

  never_fails : (a b : LineStrings S) (offered : List ℕ) (answer : Option ℕ) (n m : ℕ)
      → passes writer a offered answer b → IsWriteFailure offered answer n m → ⊥
  never_fails a b offered None n m p f = p
  never_fails a b [] (Some count) n m p f = f.1 refl
  never_fails a b (byte ∷ offered) (Some count) n m p f = omega (arith, p.0, f.0)

  passed_out : (a b : LineStrings S) (after : Output) (text : List ℕ)
      → IsOut (passing_writer writer) a b after text → Passed writer a b text
  passed_out a b Open text w = subst (Passed writer a b) w.took (passed_all a b w.writes w.made)
  passed_out a b Failed text f =
      let last = f.failed in absurd (never_fails last.before b last.offered last.answer 0 0 last.last last.failed)

  -- a whole text went on
  pub passed_text : (a b : LineStrings S) (after : Output) (text : List ℕ)
      → Prints (passing_writer writer) a b Open after text → Passed writer a b text
  passed_text a b after text p = passed_out a b after text (whole_out p)
