-- Which faults a cancel has.

use Rattle.ws_end.proofs.Common as C
use C.{◌≡◌, ◌≢◌, Bool, true, false, not, ◌&&◌, is_some, if◌then◌else◌, host_allows_records, CancelInvite, empty_record}
use C.{HostEndState, RefusesSend, SendFault, SendFailed, IsSendFault, host_cancel, asked_read}
use Rattle.ws_end.specs.declared.host_end.send_fault.SendFault.TheVariants.{Memory, NotAllowed, NoReadToCancel}
use Rattle.ws_end.specs.host_end.HostEndState.{Sends}

-- a cancel is never refused for want of memory
pub cancel_fault : (h : HostEndState) (fault : SendFault) → host_cancel h ≡ RefusesSend fault
    → IsSendFault (host_cancel h) fault
cancel_fault h fault = by_tests (host_allows_records h.options) (is_some (asked_read h) && not h.cancelling) fault where
  by_fault : (why fault : SendFault) → why ≢ SendFailed → why ≢ Memory → RefusesSend why ≡ RefusesSend fault
      → IsSendFault (RefusesSend why) fault
  by_fault why SendFailed failed memory e = absurd (failed cc)
  by_fault why Memory failed memory e = absurd (memory cc)
  by_fault why fault failed memory e = e

  by_tests : (allows asked : Bool) (fault : SendFault) → (if not allows then RefusesSend NotAllowed
      else (if asked then Sends (record { options = h.options; kept = h.kept; cancelling = true })
      (empty_record 0 CancelInvite) else RefusesSend NoReadToCancel)) ≡ RefusesSend fault
      → IsSendFault (if not allows then RefusesSend NotAllowed
      else (if asked then Sends (record { options = h.options; kept = h.kept; cancelling = true })
      (empty_record 0 CancelInvite) else RefusesSend NoReadToCancel)) fault
  by_tests false asked fault e = by_fault NotAllowed fault (λ x. cc) (λ x. cc) e
  by_tests true true fault e = cc
  by_tests true false fault e = by_fault NoReadToCancel fault (λ x. cc) (λ x. cc) e
