use Rattle.ws_end.proofs.EndRequests.{does_request}
use Rattle.ws_end.proofs.end.DriverHostActing.act.Goals as goal

pub returns-in-Send : goal.returns-in-Send
returns-in-Send c =
    rw c.in-Send.is (does_request _ _ _ c.request_send.result (rw c.as_slice.ensures at c.request_send.ensures))

pub returns-in-Cancel : goal.returns-in-Cancel
returns-in-Cancel c = rw c.in-Cancel.is (does_request _ _ _ c.request_cancel.result c.request_cancel.ensures)
