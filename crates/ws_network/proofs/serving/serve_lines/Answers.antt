use Rattle.std.proofs.Common.{inl, refl, subst, sym}
use Rattle.std.proofs.lemmas.Result.{IfOk-weaker}
use Rattle.ws_live.specs.live.LiveText.{account}
use Rattle.ws_network.specs.ManySessions.{AreSessions}
use Rattle.ws_network.specs.Sessions.{IsServed}
use Rattle.ws_network.proofs.ScriptedLines.{from_script, many_sessions, named_slice, one_session}
use Rattle.ws_network.proofs.serving.serve_lines.Goals as goal

pub returns-in_default-clause-ran : goal.returns-in_default-clause-ran
returns-in_default-clause-ran g c = IfOk-weaker c.serve_one.result _ _ (λ all_well came. (
  came.0,
  came.1,
  came.2,
  from_script (λ v. v.items) g.L.LiveLine.language c.args.asked.now.settings.ready c.args.asked.now.script
      c.in_ok-script.script c.lines_of-lines.result came.0 c.in_ok-script.ensures.lines c.in_ok-script.ensures.named
      c.lines_of-lines.ensures came.3,
  one_session _ c.args.asked.now.script c.args.asked.now.sessions _ (inl c.in_default.is) came.4,
  came.5,
)) c.serve_one.ensures

pub returns-in-Some-lines-clause-ran : goal.returns-in-Some-lines-clause-ran
returns-in-Some-lines-clause-ran g c =
    let language = g.L.LiveLine.language in
    let script = c.args.asked.now.script in
    let slice = named_slice (λ v. v.items) language c.args.asked.now.settings.ready script c.in_ok-script.script
    c.lines_of-lines.result c.in_ok-script.ensures.named c.lines_of-lines.ensures in
    IfOk-weaker c.serve_many.result _ _ (λ all_well came. (
      c.in-Some-lines.script.now,
      came.0,
      came.1,
      from_script (λ v. v.items) language c.args.asked.now.settings.ready script c.in_ok-script.script
          c.lines_of-lines.result c.in-Some-lines.script.now c.in_ok-script.ensures.lines
          c.in_ok-script.ensures.named c.lines_of-lines.ensures (rw c.in-Some-lines.is refl),
      subst (λ sessions. AreSessions (IsServed g.L.HostedLine.served c.args.asked.now c.in-Some-lines.script.now) script
          sessions (account all_well came.1)) (sym c.in-Some.is)
          (many_sessions _ script c.in-Some.sessions _ (rw c.in-Some-lines.is at slice) came.2),
      came.3,
    )) c.serve_many.ensures
