use Rattle.ws_printing.proofs.play.SendFaultTextAsPlay.put_as.Goals as goal

pub returns-in-ReadOutstanding : goal.returns-in-ReadOutstanding
returns-in-ReadOutstanding g c = rw c.in-ReadOutstanding.is c.put_to-in-ReadOutstanding.ensures

pub returns-in-NoReadToCancel : goal.returns-in-NoReadToCancel
returns-in-NoReadToCancel g c = rw c.in-NoReadToCancel.is c.put_to-in-NoReadToCancel.ensures
