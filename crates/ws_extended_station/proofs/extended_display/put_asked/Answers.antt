use Rattle.std.proofs.Common.{◌+◌, ◌++◌, List, ℕ, length, sym, ap, ◌∙◌}
use Rattle.std.proofs.lemmas.List.{append-nil}
use Rattle.ws_code.specs.Code.{spelling_of}
use Rattle.ws_record.specs.Encode.{record_spelling}
use Rattle.ws_record.specs.Grammar.{header}
use Rattle.ws_record.specs.RawBody.{raw_rules}
use Rattle.ws_record.specs.declared.opcode.Opcode.{Opcode}
use Rattle.ws_extended.specs.Telling.{told_bytes}
use Rattle.ws_extended_station.specs.Bytewise.{raw_spelling}
use Rattle.ws_extended_station.specs.ExtendedRecords.{told_opcode}
use Rattle.ws_extended_station.proofs.extended_display.put_asked.Goals as goal

-- a record of these bytes
abbrev recorded : Opcode → List ℕ → List ℕ
recorded opcode body = record_spelling (header (10 + length body) 0 opcode ++ body)

pub returns-in-Some-clause-told : goal.returns-in-Some-clause-told
returns-in-Some-clause-told c = rw c.in-Some.is (λ state shows.
    let ask = c.in-Some.ask in
    let told = told_bytes ask c.args.terminal state in
    let body = c.as_slice.ensures.value ∙ c.put_told.ensures.told state shows in
    let same = ap (λ (opcode : Opcode). recorded opcode c.as_slice.result.now) c.told_opcode.ensures
    ∙ ap (recorded (told_opcode ask)) (body ∙ sym (raw_spelling told))
    ∙ sym (append-nil (recorded (told_opcode ask) (spelling_of raw_rules told))) in
    c.put_record.ensures.items ∙ ap (λ (record_ : List ℕ). c.args.written.now.items ++ record_) same)
