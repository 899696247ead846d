use Rattle.ws_lasting.proofs.Common.{◌-◌, ◌∙◌, None, Some, ap, refl, sym, rules, Station, LastingParts, Refused}
use Rattle.ws_lasting.proofs.Placing.{placed_before}
use Rattle.ws_lasting.proofs.Passing.{passes_more, passes_data, passes_telnet, passes_eor}
use Rattle.ws_lasting.proofs.lasting.LastingStation.pass.Goals as goal

pub returns-in-More-clause-heard : goal.returns-in-More-clause-heard
returns-in-More-clause-heard g c = rw c.in-More.is (λ at byte p step passing works named.
    passes_more g.D.Commands.Code.rules g.D.StationDisplay.does c.args.self.now at c.args.why
    (c.args.self.now.taken - 1) p passing works named c.silence.result
    (c.silence.ensures.written c.args.self.now) c.silence.ensures.told)

pub returns-in-Unit-Data-clause-heard : goal.returns-in-Unit-Data-clause-heard
returns-in-Unit-Data-clause-heard g c =
    rw (c.in-Unit-Data.is, c.in-Unit-Data.field-0-is) (λ at byte p step passing works named.
    passes_data g.D.Commands.Code.rules g.D.StationDisplay.does c.args.self.now at c.args.why
    (c.args.self.now.taken - 1) p passing works named c.silence-in-Unit-Data.result
    (c.silence-in-Unit-Data.ensures.written c.args.self.now)
    c.silence-in-Unit-Data.ensures.told _)

pub returns-in-Unit-Telnet-clause-heard : goal.returns-in-Unit-Telnet-clause-heard
returns-in-Unit-Telnet-clause-heard g c =
    rw (c.in-Unit-Telnet.is, c.in-Unit-Telnet.field-0-is) (λ at byte p step passing works named.
    passes_telnet g.D.Commands.Code.rules g.D.StationDisplay.does c.args.self.now at c.args.why
    (c.args.self.now.taken - 1) p passing works named (record { reply = c.replied.result; event = _ })
    c.answer-reply.new.self c.replied.new.self c.in-Unit-Telnet.telnet c.answer-reply.result
    c.answer-reply.ensures.reply c.answer-reply.ensures.options c.replied.ensures refl)

pub returns-else-not-allows_records-clause-heard : goal.returns-else-not-allows_records-clause-heard
returns-else-not-allows_records-clause-heard g c =
    rw (c.in-Unit-Eor.is, c.in-Unit-Eor.field-0-is) (λ at byte p step passing works named.
    passes_eor g.D.Commands.Code.rules g.D.StationDisplay.does c.args.self.now at c.args.why
    (c.args.self.now.taken - 1) p passing works named (record { reply = Station c.reply.result; event = _ })
    g.met.D.Commands.Code.prefix_free g.met.D.Commands.Code.begins c.close.new.self
    (sym c.allows_records.ensures ∙ search (rules, c.if-not-allows_records.false)) step.0
    (c.reply.ensures.written _ ∙ c.negative.ensures) refl c.close.ensures.same c.close.ensures.counted)

pub returns-in-More-clause-placed : goal.returns-in-More-clause-placed
returns-in-More-clause-placed g c = λ is. rw c.silence.ensures.told (placed_before c.args.self.now c.args.self.now
    (c.args.self.now.taken - 1) None (rw is refl) (λ some. refl) (λ untold. refl) refl)

pub returns-in-Unit-Data-clause-placed : goal.returns-in-Unit-Data-clause-placed
returns-in-Unit-Data-clause-placed g c = λ is. rw c.silence-in-Unit-Data.ensures.told (placed_before c.args.self.now
    c.args.self.now (c.args.self.now.taken - 1) None (rw is refl) (λ some. refl) (λ untold. refl) refl)

pub returns-in-Unit-Telnet-clause-placed : goal.returns-in-Unit-Telnet-clause-placed
returns-in-Unit-Telnet-clause-placed g c = λ is.
    let kept = c.replied.ensures.same in
    let same = c.answer-reply.ensures.options in
    placed_before c.args.self.now c.replied.new.self (c.args.self.now.taken - 1) None (rw is refl)
    (λ some. ap (λ (z : LastingParts _ _). z.passing_from) kept ∙ ap (λ (z : LastingParts _ _). z.passing_from) same)
    (λ untold. ap (λ (z : LastingParts _ _). z.passing) kept ∙ ap (λ (z : LastingParts _ _). z.passing) same)
    (ap (λ (z : LastingParts _ _). z.refused_at) kept ∙ ap (λ (z : LastingParts _ _). z.refused_at) same)

pub returns-else-not-allows_records-clause-placed : goal.returns-else-not-allows_records-clause-placed
returns-else-not-allows_records-clause-placed g c = λ is.
    let same = c.close.ensures.same in
    placed_before c.args.self.now c.close.new.self (c.args.self.now.taken - 1) (Some (Refused c.args.why)) (rw is refl)
    (λ some. ap (λ (z : LastingParts _ _). z.passing_from) same) (λ told. cc)
    (ap (λ (z : LastingParts _ _). z.refused_at) same)
