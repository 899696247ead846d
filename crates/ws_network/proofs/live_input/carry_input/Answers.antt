use Rattle.std.specs.Prelude.{None, Some}
use Rattle.std.proofs.Common.{◌≡◌, ◌⊎◌, ◌++◌, ◌∷◌, [], Bool, true, List, refl, ap, inl, inr, ◌∙◌, false}
use Rattle.std.proofs.lemmas.Result.{err_from_is_err_and}
use Rattle.ws_code.proofs.DeviceLaws.{went_out_none}
use Rattle.ws_script.specs.declared.lines.live_line.NumberedLine.{NumberedLine}
use Rattle.ws_live.specs.live.LiveText.{ran_and}
use Rattle.ws_live.specs.live.Watches.{InTime}
use Rattle.ws_live.proofs.LiveRuns.{breaks, ends_here, goes_on, none_gone, unstopped}
use Rattle.ws_script.specs.declared.cause.vocabulary.Vocabulary.{Vocabulary}
use Rattle.ws_script.specs.lines.LiveScript.{LineLanguage}
use Rattle.ws_network.specs.InputLines.{IsInputLine, IsNextLine}
use Rattle.ws_network.specs.SessionPrinting.{AreInput, session_lines}
use Rattle.ws_network.proofs.SessionPrinted.{script_ends, script_fails}
use Rattle.ws_network.proofs.live_input.carry_input.Goals as goal

input_more : {L : Type 0} (language : LineLanguage L) (ready : Bool) (vocabulary : Vocabulary) (line : L)
    → IsInputLine language vocabulary ready line → (lines : List (NumberedLine L)) → AreInput language ready lines
    → AreInput language ready (lines ++ record { number = None; line = line } ∷ [])
input_more language ready vocabulary line is [] all = (refl, (vocabulary, is), tt)
input_more language ready vocabulary line is (first ∷ lines) all =
    (all.0, all.1, input_more language ready vocabulary line is lines all.2)

-- what is carried out next, where lines are typed only in a session that doesn't tell when it is ready
is_input : {L : Type 0} (language : LineLanguage L) (ready typed : Bool) (vocabulary : Vocabulary) (line : L)
    → (typed ≡ true → ready ≡ false)
    → IsNextLine language vocabulary ready line ⊎ ((typed ≡ true) × (language.meanwhile ≡ Some line))
    → IsInputLine language vocabulary ready line
is_input language ready typed vocabulary line only (inl read) = inl read
is_input language ready typed vocabulary line only (inr came) = inr (only came.0, came.1)

pub loop-init : goal.loop-init
loop-init g c = ([], tt, rw c.none-ran.ensures none_gone, c.requires.works, c.requires.empty, rw c.new-input.ensures c.is_typed.ensures)

pub returns-in_default-clause-printed : goal.returns-in_default-clause-printed
returns-in_default-clause-printed g c = (
  [],
  tt,
  inl (
    [],
    inr (refl, (true, (refl, refl, refl)), inl (inr refl)),
    went_out_none g.O.Sink.writer c.args.out.now.sink,
  ),
)

pub returns-in_err-next-clause-printed : goal.returns-in_err-next-clause-printed
returns-in_err-next-clause-printed g c =
    let p = err_from_is_err_and c.from_residual.result c.from_residual.ensures.1 in
    let so_far = c.loop.invariant.2 in
    rw (p.1, p.2) (
      c.loop.invariant.0,
      c.loop.invariant.1,
      inl (
        so_far.text,
        inr (refl, (c.loop.ran.all_well, so_far.run), c.in_err-next.ensures.fault),
        so_far.out,
      ),
    )

pub returns-in_err-closing-clause-printed : goal.returns-in_err-closing-clause-printed
returns-in_err-closing-clause-printed g c =
    let p = err_from_is_err_and c.from_residual-in_err-closing.result c.from_residual-in_err-closing.ensures.1 in
    let lines : List (NumberedLine g.row.L.Denot) = c.loop.invariant.0
    ++ record { number = None; line = c.in-Some.line } ∷ [] in
    let session = session_lines (λ told. InTime (g.L.LiveMove.runs g.W.Watch.tells told) g.L.LiveMove.waits
    g.W.Watch.times) c.args.settings c.args.session.now lines c.carry_line.new.session in
    rw (p.1, p.2) (
      lines,
      input_more g.L.LiveLine.language c.args.settings.ready c.args.vocabulary c.in-Some.line
          (is_input g.L.LiveLine.language c.args.settings.ready c.loop.input.is_typed c.args.vocabulary c.in-Some.line
          c.loop.invariant.5 (rw c.in-Some.is at c.in_ok-next.ensures.line))
          c.loop.invariant.0 c.loop.invariant.1,
      script_fails session false c.in_err-closing.field-0.0
          (breaks c.loop.invariant.2 [] refl c.in_err-closing.field-0.0 c.in_err-closing.ensures.printed),
    )

pub returns-then-ran-clause-printed : goal.returns-then-ran-clause-printed
returns-then-ran-clause-printed g c =
    let lines : List (NumberedLine g.row.L.Denot) = c.loop.invariant.0
    ++ record { number = None; line = c.in-Some.line } ∷ [] in
    let session = session_lines (λ told. InTime (g.L.LiveMove.runs g.W.Watch.tells told) g.L.LiveMove.waits
    g.W.Watch.times) c.args.settings c.args.session.now lines c.carry_line.new.session in (
      lines,
      input_more g.L.LiveLine.language c.args.settings.ready c.args.vocabulary c.in-Some.line
          (is_input g.L.LiveLine.language c.args.settings.ready c.loop.input.is_typed c.args.vocabulary c.in-Some.line
          c.loop.invariant.5 (rw c.in-Some.is at c.in_ok-next.ensures.line))
          c.loop.invariant.0 c.loop.invariant.1,
      script_ends session false c.and-ran.result (ends_here c.loop.invariant.2 [] refl c.in_ok-closing.ensures.printed
          (c.and-ran.ensures ∙ ap (ran_and c.loop.ran) c.ran.ensures) c.if-ran.true),
    )

pub loop-preserved : goal.loop-preserved
loop-preserved g c =
    let made = c.and-ran.ensures ∙ ap (ran_and c.loop.ran) c.ran.ensures in (
      c.loop.invariant.0 ++ record { number = None; line = c.in-Some.line } ∷ [],
      input_more g.L.LiveLine.language c.args.settings.ready c.args.vocabulary c.in-Some.line
          (is_input g.L.LiveLine.language c.args.settings.ready c.loop.input.is_typed c.args.vocabulary c.in-Some.line
          c.loop.invariant.5 (rw c.in-Some.is at c.in_ok-next.ensures.line))
          c.loop.invariant.0 c.loop.invariant.1,
      goes_on c.loop.invariant.2 refl c.in_ok-closing.ensures.printed made c.if-ran.false,
      c.in_ok-closing.ensures.works (unstopped c.args.settings.after c.in_ok-closing.closing (rw made at c.if-ran.false)),
      c.carry_line.ensures.held,
      rw (c.ask_again_after.ensures, c.in_ok-next.ensures.kept) c.loop.invariant.5,
    )
