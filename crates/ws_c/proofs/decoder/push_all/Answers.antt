use Rattle.std.proofs.Common.{◌≡◌, ℕ, inl, inr, List, [], ◌++◌, length, take, get_or, refl, sym, subst, ap, ◌∙◌, arith}
use Rattle.std.proofs.Common.{length-append}
use Rattle.std.proofs.lemmas.List.{nil_from_length, take_more}
use Rattle.ws_c.specs.Decoding.{DecoderTakesOn, plain_step}
use Rattle.ws_c.specs.Pushes.{TakesAll}
use Rattle.ws_c.specs.declared.decoder.StepTold.{StepTold}
use Rattle.ws_c.proofs.PushLaws.{takes_more}
use Rattle.ws_c.proofs.decoder.push_all.Goals as goal

pub loop-at-init : goal.loop-at-init
loop-at-init g c = record { run = []; count = refl; takes = (refl, refl); put = refl; few = omega arith }

pub loop-at-preserved : goal.loop-at-preserved
loop-at-preserved g c =
    let Takes = DecoderTakesOn g.C.Code.rules g.C.PutsBytes.put_by in
    let now = c.loop-at in
    let f = now.invariant in
    let bytes = c.args.bytes.now in
    let t = c.in-None.ensures.none in
    record {
      run = f.run ++ t.0;
      count = omega (arith, length-append f.run t.0, f.count, t.2);
      takes = subst (λ (l : List ℕ). TakesAll Takes c.args.decoder.now l (f.run ++ t.0) c.take_byte.new.decoder)
          (sym (take_more bytes now.at 0 c.loop-at-test.true))
          (takes_more Takes c.args.decoder.now now.decoder c.take_byte.new.decoder (take now.at bytes) f.run
          (get_or bytes now.at 0) t.0 f.takes t.1);
      put = t.4 f.run c.args.buffer.now f.count f.put;
      few = elim (c.ends_run.ensures.on c.if-ends_run.false) [
        | inl none ↦ omega (arith, none, t.2, t.3, c.take_byte.auto.buffer, now.auto.buffer, c.requires)
        | inr more ↦ omega (arith, more.1, t.2, t.3, c.take_byte.auto.buffer)
      ];
    }

-- what is told where a run ends
told_run : (told plain : StepTold) (cells at : ℕ) (run : List ℕ) → told ≡ record plain { cells = cells }
    → plain ≡ plain_step at 0 → length run ≡ cells → told ≡ record (plain_step at 0) { cells = length run }
told_run told plain cells at run e p count = cc

pub returns : goal.returns
returns g c =
    let now = c.loop-at in
    let f = now.invariant in
    let bytes = c.args.bytes.now in
    let all : length bytes ≡ now.at = omega arith in
    record {
      front = now.at;
      cells = f.run;
      counted = omega arith;
      before = now.decoder;
      takes = f.takes;
      all = λ _. (
        (
          c.tell_plain-2.ensures.status,
          told_run _ _ now.cells now.at f.run c.tell_plain-2.ensures.told
              (c.plain-2.ensures ∙ ap (λ (n : ℕ). plain_step n 0) all) f.count,
          f.put,
        ),
        refl,
      );
      run = λ more _. absurd (omega (arith, more, c.loop-at-test.false));
      one = λ more _. absurd (omega (arith, more, c.loop-at-test.false));
    }

pub returns-then-ends_run : goal.returns-then-ends_run
returns-then-ends_run g c =
    let now = c.loop-at in
    let f = now.invariant in
    let ends = c.ends_run.ensures.ends c.if-ends_run.true in
    record {
      front = now.at;
      cells = f.run;
      counted = omega arith;
      before = now.decoder;
      takes = f.takes;
      all = λ all. absurd (omega (arith, all, c.loop-at-test.true));
      run = λ _ _. (
        (
          c.tell_plain.ensures.status,
          told_run _ _ now.cells now.at f.run c.tell_plain.ensures.told
              c.plain.ensures f.count,
          f.put,
        ),
        refl,
      );
      one = λ _ goes. absurd (goes (
        λ none. ends.0 (sym f.count ∙ ap (λ (l : List ℕ). length l) none),
        λ may fits. ends.1 may (omega (arith, fits, f.count, now.auto.buffer)),
      ));
    }

pub returns-in-Some : goal.returns-in-Some
returns-in-Some g c =
    let now = c.loop-at in
    let f = now.invariant in
    let some = c.in-Some.ensures.some in
    record {
      front = now.at;
      cells = f.run;
      counted = omega arith;
      before = now.decoder;
      takes = f.takes;
      all = λ all. absurd (omega (arith, all, c.loop-at-test.true));
      run = λ _ ends. elim (c.ends_run.ensures.on c.if-ends_run.false) [
        | inl none ↦ absurd (ends.0 (nil_from_length f.run (f.count ∙ none)))
        | inr may ↦ absurd (ends.1 may.0 (omega (arith, may.1, f.count, now.auto.buffer)))
      ];
      one = λ _ _. (
        c.in-Some.step,
        some.0,
        some.1,
        c.tell_step.ensures f.run c.args.buffer.now (f.count ∙ sym some.2) (some.3 ∙ f.put),
      );
    }
