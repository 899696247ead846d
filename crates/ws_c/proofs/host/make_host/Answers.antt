use Rattle.std.proofs.Common.{◌≡◌, ◌∙◌, refl, ap, None, ℕ, List, length}
use Rattle.ws_c.specs.Calls.{holds_front, told_length}
use Rattle.ws_c.specs.Hosts.{opening_bytes}
use Rattle.ws_c.proofs.host.make_host.Goals as goal

pub returns-in-Done : goal.returns-in-Done
returns-in-Done c =
    let none : c.args.handle.now.owned.value ≡ None = c.in_default.ensures.none in
    let text : c.as_slice.result.now ≡ opening_bytes = c.as_slice.ensures.value ∙ c.opened_host-host.ensures.reply in
    rw none (
      c.in-Ok.held,
      c.in-Done.ensures,
      rw c.in-Ok.ensures.ok c.opened_host-host.ensures.host,
      (
        refl,
        c.length.ensures ∙ ap told_length (c.put_front.ensures.value ∙ ap (λ (z : List ℕ). length z) text),
        c.put_front.ensures.buffer ∙ ap (λ (z : List ℕ). holds_front z c.args.buffer.now) text,
      ),
    )
