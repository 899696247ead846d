use Rattle.std.proofs.Common.{Err, ap, length, subst, sym, ◌∙◌}
use Rattle.ws_screen.specs.ScreenParts.{ScreenParts}
use Rattle.ws_screen.proofs.ScreenLaws.{one_screen}
use Rattle.ws_end.specs.station.Displays.{IsPressedOnDisplay}
use Rattle.ws_entry.specs.EntryDisplays.{EntryEndState, EntryGives, EntryParts, by_format_words, extended_state}
use Rattle.ws_entry.specs.EntryDisplays.{full_behind}
use Rattle.ws_entry.proofs.Pressings.{carried_here, refused_here}
use Rattle.ws_entry.proofs.entry_display.EntryDisplayStationDisplay.press.Goals as goal

pub returns-in-Ok-clause-pressed : goal.returns-in-Ok-clause-pressed
returns-in-Ok-clause-pressed c = rw (← c.self.view_is) (λ end_state given.
    let d = c.self.inside.display in
    let size = ap (λ (w : ScreenParts). length w.cells) (sym c.screen-2.ensures.screen) ∙ c.known.ensures.legal.size in
    carried_here d c.carry_out.new.display end_state c.args.key c.self.inside.full c.full_after-full.result given.full
    (one_screen end_state.happened.shown.state.history d.display.screen given.shown.shows.gives size)
    (c.full_after-full.ensures ∙ ap (λ (w : ScreenParts). full_behind w c.self.inside.full c.args.key.key)
    c.screen.ensures.screen)
    c.in-Ok.sent (c.in-Ok.ensures.given (extended_state end_state) given.shown))

pub returns-in-Err-clause-pressed : goal.returns-in-Err-clause-pressed
returns-in-Err-clause-pressed c =
    let d = c.self.inside.display in
    let size = ap (λ (w : ScreenParts). length w.cells) (sym c.screen-2.ensures.screen) ∙ c.known.ensures.legal.size in
    let P : EntryParts → Type 0 = λ old. (end_state : EntryEndState) → EntryGives end_state.happened old
    → IsPressedOnDisplay by_format_words old (record { display = c.carry_out.new.display; full = c.self.inside.full })
    end_state c.args.key (Err c.in-Err.refusal) in
    subst P c.self.view_is (λ end_state given.
    refused_here d c.carry_out.new.display end_state c.args.key c.self.inside.full c.full_after-full.result given.full
    (one_screen end_state.happened.shown.state.history d.display.screen given.shown.shows.gives size)
    (c.full_after-full.ensures ∙ ap (λ (w : ScreenParts). full_behind w c.self.inside.full c.args.key.key)
    c.screen.ensures.screen)
    c.in-Err.refusal (c.in-Err.ensures.given (extended_state end_state) given.shown))
