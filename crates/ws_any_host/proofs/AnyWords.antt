-- What the lines of a script for a host that takes any record can't mean.

use Rattle.std.specs.Prelude.{codes, Bool, false, ◌==◌}
use Rattle.std.specs.Str.Parse.{digits_value}
use Rattle.std.proofs.Common.{◌≡◌, ◌≢◌, ℕ, List, [], ◌∷◌, ◌++◌, true, inl, inr, refl, sym, ap, ◌∙◌, subst}
use Rattle.std.proofs.lemmas.Bool.{false≢true}
use Rattle.ws_record.specs.declared.opcode.Opcode.{Opcode}
use Rattle.ws_record.specs.declared.record.Record.{Record}
use Rattle.ws_record.proofs.Reading.{opcode_same}
use Rattle.ws_text.specs.Words.{IsHex}
use Rattle.ws_text.specs.declared.items.TextFault.TheVariants as items
use Rattle.ws_script.specs.declared.lines.wire_line.WireLine.{WireLine}
use Rattle.ws_script.specs.declared.lines.wire_line.WireLine.TheVariants.{Raw, Pause, Close}
use Rattle.ws_printing.specs.declared.script.ScriptFault.TheVariants.{Line}
use Rattle.ws_script.specs.lines.LiveScript.{IsBlockFault}
use Rattle.ws_script.specs.lines.WireLines.{MeansWire}
use Rattle.ws_printing.specs.script.ScriptFaults.{has_no_blank}
use Rattle.ws_printing.proofs.ScriptWords.{blank_inside, split_unique, digits_have_no_blank}
use Rattle.ws_any_host.specs.AnyLines.{AreExtendedBadAt, any_language, IsOpcode, IsSendText, IsWordFault}
use Rattle.ws_any_host.specs.AnyLines.{MeansAnyLine, OpensAnyBlock, SayBytes, SendsAnyOpcodeAlone}
use Rattle.ws_any_host.specs.declared.any_line.AnyLine.{AnyLine}
use Rattle.ws_any_host.specs.declared.any_line.AnyLine.TheVariants.{Nothing, Send, Await, AwaitKey, Wire, Bad}

-- two words are an opcode and a body in hex
pub two_words : (words number hex : List ℕ) → words ≡ (number ++ codes " ") ++ hex → has_no_blank number ≡ true
    → (r : Record ℕ) → IsSendText words r → (opcode : Opcode) × (body : List ℕ) × IsOpcode number opcode
    × IsHex hex body
two_words words number hex e free r s = elim s.3 [
  | inl p ↦ absurd (blank_inside number hex (ap has_no_blank (sym e) ∙ digits_have_no_blank words p.0.0.1))
  | inr p ↦ (
      let u = split_unique number p.0 hex p.1 free (digits_have_no_blank p.0 p.3.0.1) (sym e ∙ p.2) in (
        s.0,
        s.1,
        subst (λ (z : List ℕ). IsOpcode z s.0) (sym u.0) p.3,
        subst (λ (z : List ℕ). IsHex z s.1) (sym u.1) p.4,
      ))
]

-- a line that sends says one record
same_words : (line a b : List ℕ) → line ≡ codes "send " ++ a → line ≡ codes "send " ++ b → b ≡ a
same_words line a b e f = let g : codes "send " ++ b ≡ codes "send " ++ a = sym f ∙ e in cc

-- whether a text begins with an `s`
abbrev begins_with_s : List ℕ → Bool
begins_with_s [] = false
begins_with_s (x ∷ xs) = x == 115

-- a line that works on the connection doesn't
no_wire : (line : List ℕ) (wire : WireLine) → MeansWire line wire → begins_with_s line ≡ false
no_wire line (Raw bytes) (inl m) = ap begins_with_s m.1
no_wire line (Raw bytes) (inr m) = ap begins_with_s m.0.1
no_wire line (Pause time) m = ap begins_with_s m.1
no_wire line Close m = ap begins_with_s m

-- a line that sends means nothing else
pub sends_only : (line words : List ℕ) → line ≡ codes "send " ++ words → ((r : Record ℕ) → IsSendText words r → ⊥)
    → (read : AnyLine) → MeansAnyLine line read → ⊥
sends_only line words e none Nothing (inl (inl m)) = false≢true (ap begins_with_s (sym m ∙ e))
sends_only line words e none Nothing (inl (inr m)) = false≢true (ap begins_with_s (sym m.1 ∙ e))
sends_only line words e none Nothing (inr m) = false≢true (ap begins_with_s (sym m ∙ e))
sends_only line words e none (Send r) m =
    none r (subst (λ (z : List ℕ). IsSendText z r) (same_words line words m.0 e m.1) m.2)
sends_only line words e none Await m = false≢true (ap begins_with_s (sym m ∙ e))
sends_only line words e none (AwaitKey aid) m = false≢true (ap begins_with_s (sym m.1 ∙ e))
sends_only line words e none (Wire wire) m =
    false≢true (sym (no_wire line wire m) ∙ ap begins_with_s e)
sends_only line words e none (Bad cause) m = m

-- a line says one opcode
one_opcode : (line m n : List ℕ) (o p : Opcode) → SendsAnyOpcodeAlone line m o → SendsAnyOpcodeAlone line n p → p ≡ o
one_opcode line m n o p a b =
    opcode_same p o (b.2.2 ∙ ap (digits_value 10) (same_words line m n a.1 b.1) ∙ sym a.2.2)

-- the elements behind a line are bad
pub bad_words : (line number : List ℕ) (elements : List (List ℕ)) (opcode : Opcode) (at told : ℕ)
    → SendsAnyOpcodeAlone line number opcode → elements ≢ [] → IsWordFault elements opcode (items.Line at)
    → ((body : List ℕ) → SayBytes elements opcode body → items.Line at ≡ items.Memory)
    → AreExtendedBadAt opcode elements told
    → IsBlockFault any_language line elements (Line told)
bad_words line number elements opcode at told alone some bad only place = (
  (λ read m. elim m [
    | inl p ↦ some p.0
    | inr p ↦
        let f : items.Line at ≡ items.Memory = only p.1.2
        (subst (λ (o : Opcode). SayBytes elements o p.1.2) (one_opcode line number p.1.0 opcode p.1.1 alone p.1.3)
        p.1.4) in
        cc
  ]),
  inr (number, opcode, alone, place),
)

-- no elements may stand behind a line
pub no_words : (line : List ℕ) (elements : List (List ℕ)) → elements ≢ [] → (OpensAnyBlock line → ⊥)
    → IsBlockFault any_language line elements (Line 1)
no_words line elements some other = (
  (λ read m. elim m [ inl p ↦ some p.0 | inr p ↦ other (p.1.0, p.1.1, p.1.3) ]),
  inl (refl, inr other),
)
