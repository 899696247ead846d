use Rattle.std.specs.Prelude.{codes}
use Rattle.std.specs.Str.Lines.{lines}
use Rattle.std.specs.Str.Parse.{digits_value}
use Rattle.std.proofs.Common.{◌≡◌, ◌≢◌, ℕ, List, [], ◌∷◌, ◌++◌, ◌==◌, length, false, inl, inr, refl, sym, ap, ◌∙◌}
use Rattle.std.proofs.Common.{subst, arith}
use Rattle.std.proofs.lemmas.Bool.{false≢true}
use Rattle.ws_record.specs.declared.opcode.Opcode.{Opcode}
use Rattle.ws_record.specs.declared.record.Record.{Record}
use Rattle.ws_record.proofs.Reading.{opcode_same}
use Rattle.ws_stream.specs.Elements.{element_rules}
use Rattle.ws_stream.specs.declared.element.Element.{Element}
use Rattle.ws_text.specs.BodyLines.{AddUnits, IsAddFault, new_record}
use Rattle.ws_text.specs.ElementWords.{element_wording}
use Rattle.ws_text.specs.declared.items.TextFault.TheVariants as items
use Rattle.ws_text.proofs.LineEnds.{some_lines}
use Rattle.ws_printing.specs.declared.script.ScriptFault.TheVariants.{Line}
use Rattle.ws_script.specs.lines.LiveScript.{IsBlockFault}
use Rattle.ws_script.specs.lines.ServeLines.{AreBadAt, OpensHostBlock, SendsAlone, host_language}

-- Records that are told in words.

pub some_text : (text : List ℕ) → (length text == 0) ≡ false → lines text ≢ []
some_text [] f e = false≢true (sym f)
some_text (x ∷ text) f e = some_lines (x ∷ text) (omega arith) e

-- a line says one opcode
same_number : (line number other : List ℕ) → line ≡ codes "send " ++ number → line ≡ codes "send " ++ other
    → other ≡ number
same_number line number other e f = let g : codes "send " ++ other ≡ codes "send " ++ number = sym f ∙ e in cc

one_opcode : (line m n : List ℕ) (o p : Opcode) → SendsAlone line m o → SendsAlone line n p → p ≡ o
one_opcode line m n o p a b =
    opcode_same p o (b.2.0.2 ∙ ap (digits_value 10) (same_number line m n a.1 b.1) ∙ sym a.2.0.2)

-- the elements after a line are bad
pub bad_words : (line number : List ℕ) (elements : List (List ℕ)) (opcode : Opcode) (at told : ℕ)
    → SendsAlone line number opcode → elements ≢ []
    → IsAddFault element_rules element_wording elements (new_record opcode) (items.Line at)
    → ((r : Record Element) → AddUnits element_rules element_wording elements (new_record opcode) r
    → items.Line at ≡ items.Memory) → AreBadAt opcode elements told
    → IsBlockFault host_language line elements (Line told)
bad_words line number elements opcode at told alone some bad only place = (
  (λ read m. elim m [
    | inl p ↦ some p.0
    | inr p ↦
        let f : items.Line at ≡ items.Memory = only p.1.2
        (subst (λ (o : Opcode). AddUnits element_rules element_wording elements (new_record o) p.1.2)
        (one_opcode line number p.1.0 opcode p.1.1 alone p.1.3) p.1.4) in
        cc
  ]),
  inr (number, opcode, alone, place),
)

-- no elements may stand after a line
pub no_words : (line : List ℕ) (elements : List (List ℕ)) → elements ≢ [] → (OpensHostBlock line → ⊥)
    → IsBlockFault host_language line elements (Line 1)
no_words line elements some other = (
  (λ read m. elim m [ inl p ↦ some p.0 | inr p ↦ other (p.1.0, p.1.1, p.1.3) ]),
  inl (refl, inr other),
)
