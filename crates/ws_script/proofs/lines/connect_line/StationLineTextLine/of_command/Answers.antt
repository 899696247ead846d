use Rattle.std.specs.Prelude.{codes}
use Rattle.std.proofs.Common.{inl, inr, refl}
use Rattle.ws_script.specs.declared.lines.connect_line.StationLine.TheVariants.{Press, Stroke, Report}
use Rattle.ws_printing.specs.declared.station_report.StationReport.TheVariants.{Note}
use Rattle.ws_script.specs.declared.lines.script_stroke.ScriptStroke.TheVariants.{Fill}
use Rattle.ws_script.specs.lines.ConnectLines.{IsAwaited, IsFilling, MeansStationLine}
use Rattle.ws_script.specs.lines.ConnectLines.MeansKeys.{typed, inserted, named}
use Rattle.ws_printing.specs.script.KeyWords.{AreNamed}
use Rattle.ws_script.proofs.FirstWords.{refused, told_on}
use Rattle.ws_script.proofs.StationLines.{no_station_command, no_station_words}
use Rattle.ws_script.proofs.lines.connect_line.StationLineTextLine.of_command.Goals as goal

pub returns-in_err-read_keys-in-type-clause-fault : goal.returns-in_err-read_keys-in-type-clause-fault
returns-in_err-read_keys-in-type-clause-fault g c =
    let refusal = c.in_err-read_keys-in-type.ensures.fault in
    refused _ c.from_residual.result _ c.from_residual.ensures.1
    refusal.0 (inl (Press refusal.1, typed c.args.words.now (rw c.in-type.is at c.requires.is) refusal.2))

pub returns-in_err-read_keys-in-insert-clause-fault : goal.returns-in_err-read_keys-in-insert-clause-fault
returns-in_err-read_keys-in-insert-clause-fault g c =
    let refusal = c.in_err-read_keys-in-insert.ensures.fault in
    refused _ c.from_residual-in_err-read_keys-in-insert.result _ c.from_residual-in_err-read_keys-in-insert.ensures.1
    refusal.0 (inl (Press refusal.1, inserted c.args.words.now (rw c.in-insert.is at c.requires.is) refusal.2))

pub returns-in_err-named_key-in-key-clause-fault : goal.returns-in_err-named_key-in-key-clause-fault
returns-in_err-named_key-in-key-clause-fault g c =
    told_on (AreNamed g.Q.NamedKey.words c.args.words.now) (MeansStationLine g.Q.NamedKey.words c.args._line.now)
    c.from_residual-in_err-named_key-in-key.result _ c.from_residual-in_err-named_key-in-key.ensures.1
    (λ none. no_station_words g.Q.NamedKey.words _ _ _ c.requires.is c.requires.no_blank c.requires.some
    (codes "key") c.in-key.is (λ s. none s.0 s.1))
    (λ k. inl (Press k.0, named c.args.words.now (rw c.in-key.is at c.requires.is) k.1))
    c.in_err-named_key-in-key.ensures.fault

pub returns-in_err-read_awaited-in-await-clause-fault : goal.returns-in_err-read_awaited-in-await-clause-fault
returns-in_err-read_awaited-in-await-clause-fault g c =
    told_on (IsAwaited c.args.words.now) (MeansStationLine g.Q.NamedKey.words c.args._line.now)
    c.from_residual-in_err-read_awaited-in-await.result _ c.from_residual-in_err-read_awaited-in-await.ensures.1
    (λ none. no_station_words g.Q.NamedKey.words _ _ _ c.requires.is c.requires.no_blank c.requires.some
    (codes "await") c.in-await.is (λ s. none s.0 s.1))
    (λ k. inr (c.args.words.now, rw c.in-await.is at c.requires.is, k))
    c.in_err-read_awaited-in-await.ensures.fault

pub returns-in_err-read_filling-in-field-clause-fault : goal.returns-in_err-read_filling-in-field-clause-fault
returns-in_err-read_filling-in-field-clause-fault g c =
    told_on (IsFilling g.Q.NamedKey.words c.args.words.now) (MeansStationLine g.Q.NamedKey.words c.args._line.now)
    c.from_residual-in_err-read_filling-in-field.result _ c.from_residual-in_err-read_filling-in-field.ensures.1
    (λ none. no_station_words g.Q.NamedKey.words _ _ _ c.requires.is c.requires.no_blank c.requires.some
    (codes "field") c.in-field.is (λ s. none s.0 s.1))
    (λ k. inl (Stroke (Fill k.0), (c.args.words.now, rw c.in-field.is at c.requires.is, k.1)))
    c.in_err-read_filling-in-field.ensures.fault

pub returns-in_err-read_note-in-note-clause-fault : goal.returns-in_err-read_note-in-note-clause-fault
returns-in_err-read_note-in-note-clause-fault g c =
    refused _ c.from_residual-in_err-read_note-in-note.result _ c.from_residual-in_err-read_note-in-note.ensures.1
    c.in_err-read_note-in-note.ensures.fault
    (inl (Report (Note c.args.words.now), rw c.in-note.is at c.requires.is))

pub returns-in_ok-read_keys-in-type-clause-line : goal.returns-in_ok-read_keys-in-type-clause-line
returns-in_ok-read_keys-in-type-clause-line g c =
    typed c.args.words.now (rw c.in-type.is at c.requires.is) c.in_ok-read_keys-in-type.ensures.keys

pub returns-in_ok-read_keys-in-insert-clause-line : goal.returns-in_ok-read_keys-in-insert-clause-line
returns-in_ok-read_keys-in-insert-clause-line g c =
    inserted c.args.words.now (rw c.in-insert.is at c.requires.is) c.in_ok-read_keys-in-insert.ensures.keys

pub returns-in_ok-named_key-in-key-clause-line : goal.returns-in_ok-named_key-in-key-clause-line
returns-in_ok-named_key-in-key-clause-line g c =
    named c.args.words.now (rw c.in-key.is at c.requires.is) c.in_ok-named_key-in-key.ensures.keys

pub returns-in-None-clause-fault : goal.returns-in-None-clause-fault
returns-in-None-clause-fault g c = (
  refl,
  no_station_words g.Q.NamedKey.words _ _ _ c.requires.is c.requires.no_blank c.requires.some
      (codes "cursor") c.in-cursor.is (λ s. c.in-None.ensures s.0 s.1),
)

pub returns-in-None-read_row-clause-fault : goal.returns-in-None-read_row-clause-fault
returns-in-None-read_row-clause-fault g c = (
  refl,
  no_station_words g.Q.NamedKey.words _ _ _ c.requires.is c.requires.no_blank c.requires.some
      (codes "cells") c.in-cells.is (λ s. c.in-None-read_row.ensures s.0 s.1),
)

pub returns-in-None-read_span-clause-fault : goal.returns-in-None-read_span-clause-fault
returns-in-None-read_span-clause-fault g c = (
  refl,
  no_station_words g.Q.NamedKey.words _ _ _ c.requires.is c.requires.no_blank c.requires.some
      (codes "show") c.in-show.is (λ s. c.in-None-read_span.ensures s.0 s.1),
)

pub returns-in_default-clause-fault : goal.returns-in_default-clause-fault
returns-in_default-clause-fault g c =
    let none = c.in_default in (
      refl,
      no_station_command g.Q.NamedKey.words _ _ _ c.requires.is c.requires.no_blank c.requires.some
          none.not-type none.not-insert none.not-key none.not-await none.not-cursor none.not-field none.not-cells
          none.not-show none.not-note,
    )
