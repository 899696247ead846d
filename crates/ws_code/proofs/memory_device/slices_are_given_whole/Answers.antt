use Rattle.ws_code.proofs.DeviceLaws.{list_gave, list_gave_all, list_no_fault}
use Rattle.ws_code.proofs.memory_device.slices_are_given_whole.Goals as goal

pub returns : goal.returns
returns _ = record {
  front = list_gave;
  whole = list_gave_all;
  no_fault = list_no_fault;
}
