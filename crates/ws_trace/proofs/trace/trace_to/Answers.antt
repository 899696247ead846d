use Rattle.ws_trace.proofs.Common.{inl, refl, whole_out}
use Rattle.ws_trace.proofs.trace.trace_to.Goals as goal

pub returns-in-Open-clause-traced : goal.returns-in-Open-clause-traced
returns-in-Open-clause-traced g c = (
  c.in_ok-dialogue.dialogue,
  c.in_ok-dialogue.ensures.dialogue,
  c.is_unrefused.ensures,
  rw (
    c.in-Open.is,
    c.first_time.ensures,
    c.as_slice.ensures.value,
    c.in_ok-host.ensures.ok,
    c.as_slice-2.ensures.value,
    c.in_ok-station.ensures.ok,
  ) at (whole_out c.put_dialogue.ensures),
)

pub returns-clause-fault : goal.returns-clause-fault
returns-clause-fault g c = inl (
  refl,
  (
    c.in_ok-dialogue.dialogue,
    c.in_ok-dialogue.ensures.dialogue,
    rw (
      c.in-Failed.is,
      c.first_time.ensures,
      c.as_slice.ensures.value,
      c.in_ok-host.ensures.ok,
      c.as_slice-2.ensures.value,
      c.in_ok-station.ensures.ok,
    ) at (whole_out c.put_dialogue.ensures),
  ),
)
