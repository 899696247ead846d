use Rattle.std.proofs.Common.{◌≡◌, ◌∷◌, [], ℕ, List, sym, ◌∙◌, subst, refl}
use Rattle.std.proofs.lemmas.Result.{IfErr-weaker}
use Rattle.ws_telnet.specs.declared.token.Telnet.{Telnet}
use Rattle.ws_record.specs.declared.record.Item.{Item}
use Rattle.ws_record.specs.declared.record.Item.TheVariants.{Telnet as TelnetItem}
use Rattle.ws_stream.specs.declared.element.Element.{Element}
use Rattle.ws_script.specs.lines.WireLines.{AreSaid, IsCommandSaid, SaysItems}
use Rattle.ws_printing.specs.script.ScriptFaults.{IsLineFault}
use Rattle.ws_printing.proofs.Scripts.{fault_on}
use Rattle.ws_script.proofs.LiveLines.{line_no_memory}
use Rattle.ws_script.proofs.lines.wire_words.read_telnet.Goals as goal

pub returns-in-Ok-clause-fault : goal.returns-in-Ok-clause-fault
returns-in-Ok-clause-fault c =
    let line = c.args.line.now in
    let read : List (Item Element) = c.as_slice.result.now in
    let alone : Telnet → Type 0 = λ telnet. read ≡ TelnetItem telnet ∷ [] in
    IfErr-weaker c.spelled_alone.result (IsLineFault alone (Unit {0})) (IsLineFault (IsCommandSaid line) (SaysItems line))
    (λ fault h. fault_on alone (IsCommandSaid line) fault
    (λ none_is bytes m. none_is m.0 (c.as_slice.ensures.value ∙ c.in-Ok.ensures.only (TelnetItem m.0 ∷ [])
    (subst (λ (z : List ℕ). AreSaid z (TelnetItem m.0 ∷ [])) (sym c.as_bytes.ensures.value) m.1)))
    (λ u. (
      c.in-Ok.items.items,
      subst (λ (z : List ℕ). AreSaid z c.in-Ok.items.items) c.as_bytes.ensures.value c.in-Ok.ensures.ok,
    )) h) c.spelled_alone.ensures.fault

pub returns-in-Err-Line-clause-fault : goal.returns-in-Err-Line-clause-fault
returns-in-Err-Line-clause-fault c = (
  refl,
  λ bytes m.
      line_no_memory _ (rw c.in-Err-Line.field-0-is at (c.in-Err-Line.ensures.only (TelnetItem m.0 ∷ [])
      (subst (λ (z : List ℕ). AreSaid z (TelnetItem m.0 ∷ [])) (sym c.as_bytes.ensures.value) m.1))),
)
