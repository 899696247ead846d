use Rattle.std.specs.Prelude.{Some}
use Rattle.std.specs.Str.Lines.{lines}
use Rattle.std.proofs.Common.{◌≡◌, ℕ, ◌+◌, ◌-◌, ◌<◌, ◌≤◌, List, [], ◌∷◌, ◌++◌, length, refl, sym, ap, ◌∙◌, subst}
use Rattle.std.proofs.Common.{arith, append_assoc, length-append, take, true, inl}
use Rattle.std.proofs.Math.Seq.{take-append_seam}
use Rattle.ws_text.specs.FirstLine.{IsBehindLines}
use Rattle.ws_script.specs.declared.lines.live_line.NumberedLine.{NumberedLine}
use Rattle.ws_script.specs.lines.LiveScript.{is_indented, AreIndented, BeginsFlush, HasInside, IsBlock}
use Rattle.ws_script.specs.lines.LiveScript.{HasBlock, LineLanguage, text_cut, MeanThese}
use Rattle.ws_script.proofs.LineFronts.{behind_more, lines_behind}

-- The lines of a live script, one more at a time.

-- A LINE THAT BELONGS TO ONE BEFORE

indented_more : (are : List (List ℕ)) (line : List ℕ) → AreIndented are → is_indented line ≡ true
    → AreIndented (are ++ line ∷ [])
indented_more [] line h e = (e, tt)
indented_more (first ∷ are) line h e = (h.0, indented_more are line h.1 e)

-- so many lines of a text begin with two blanks; the rest is after them
pub record Gathers (text rest : List ℕ) (count : ℕ) : Type 0 where
  pub behind : IsBehindLines text rest
  pub indented : AreIndented (lines behind.front)
  pub counted : count ≡ length (lines behind.front)
  pub few : count + length rest ≤ length text

pub gathers_none : (text : List ℕ) → Gathers text text 0
gathers_none text = record {
  behind = record { front = []; split = refl; ended = inl refl };
  indented = tt;
  counted = refl;
  few = omega arith;
}

pub gathers_more : (text rest behind line : List ℕ) (count : ℕ) → Gathers text rest count
    → lines rest ≡ line ∷ lines behind → IsBehindLines rest behind → length behind < length rest
    → is_indented line ≡ true → Gathers text behind (count + 1)
gathers_more text rest behind line count r e cut shorter blank =
    let more = behind_more text rest behind line r.behind e cut in
    record {
      behind = more.0;
      indented = subst AreIndented (sym more.1) (indented_more (lines r.behind.front) line r.indented blank);
      counted = omega (arith, r.counted, ap length more.1, length-append (lines r.behind.front) (line ∷ []));
      few = omega (arith, r.few, shorter);
    }

-- they are the front of the text, as a slice
pub gathered : (text rest inside : List ℕ) (count : ℕ) → Gathers text rest count
    → inside ≡ take (length text - length rest) text → BeginsFlush (lines rest)
    → HasInside text (text_cut inside count rest)
gathered text rest inside count r is flush =
    let sizes = ap length r.behind.split ∙ length-append r.behind.front rest in
    let same : inside ≡ r.behind.front = is ∙ ap (λ z. take (length text - length rest) z) r.behind.split
    ∙ ap (λ n. take n (r.behind.front ++ rest)) (omega (arith, sizes)) ∙ take-append_seam r.behind.front rest in
    subst (λ (z : List ℕ). HasInside text (text_cut z count rest)) (sym same) (record {
      whole = r.behind.split;
      split = lines_behind text rest r.behind;
      indented = r.indented;
      flush = flush;
      counted = r.counted;
      few = r.few;
    })

-- THE LINES OF A SCRIPT

module _ {L : Type 0} (language : LineLanguage L) where
  -- one more, before which so many are in all
  mean_more : (before so_far : ℕ) (all : List (List ℕ)) (read : List (NumberedLine L)) (line : List ℕ)
      (inside after : List (List ℕ)) (x : NumberedLine L)
      → MeanThese language before all read (line ∷ (inside ++ after)) → IsBlock language line inside after
      → language.means line inside x.line → x.number ≡ Some (so_far + 1)
      → before + length all ≡ so_far + length (line ∷ (inside ++ after))
      → MeanThese language before all (read ++ x ∷ []) after
  mean_more before so_far all [] line inside after x e block m number sizes =
      let same : so_far ≡ before = omega (arith, sizes, ap length e) in
      (line, inside, after, e, block, m, number ∙ ap (λ n. Some (n + 1)) same, refl)
  mean_more before so_far all (first ∷ read) line inside after x h block m number sizes = (
    h.0,
    h.1,
    h.2,
    h.3,
    h.4,
    h.5,
    h.6,
    mean_more (before + 1 + length h.1) so_far h.2 read line inside after x h.7 block m number
        (omega (arith, sizes, ap length h.3, length-append h.1 h.2)),
  )

  -- so many lines of a text are read; the rest is after them
  pub record Reads (text rest : List ℕ) (read : List (NumberedLine L)) (number : ℕ) : Type 0 where
    pub before : List (List ℕ)
    pub split : lines text ≡ before ++ lines rest
    pub good : MeanThese language 0 (lines text) read (lines rest)
    pub counted : number ≡ length before
    pub few : length before + length rest ≤ length text

  pub reads_more : (text rest next behind line inside : List ℕ) (read more : List (NumberedLine L))
      (x : NumberedLine L) (number count : ℕ)
      → Reads text rest read number → lines rest ≡ line ∷ lines next → length next < length rest
      → HasBlock language line next (text_cut inside count behind) → language.means line (lines inside) x.line
      → x.number ≡ Some (number + 1) → more ≡ read ++ x ∷ []
      → Reads text behind more (number + (1 + count))
  reads_more text rest next behind line inside read more x number count r e shorter b m told is =
      let front : lines rest ≡ line ∷ (lines inside ++ lines behind) = e ∙ ap (λ z. line ∷ z) b.split in
      record {
        before = r.before ++ (line ∷ lines inside);
        split = r.split ∙ ap (λ z. r.before ++ z) front
            ∙ sym (append_assoc r.before (line ∷ lines inside) (lines behind));
        good = subst (λ (z : List (NumberedLine L)). MeanThese language 0 (lines text) z (lines behind)) (sym is)
            (mean_more 0 number (lines text) read line (lines inside) (lines behind) x
            (subst (MeanThese language 0 (lines text) read) front r.good) b.block m told
            (omega (arith, r.counted, ap length r.split, length-append r.before (lines rest), ap length front)));
        counted = omega (arith, r.counted, b.counted, length-append r.before (line ∷ lines inside));
        few = omega (arith, r.few, b.few, b.counted, length-append r.before (line ∷ lines inside));
      }
