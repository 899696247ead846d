use Rattle.ws_program.proofs.file_fault.told_of.Goals as goal

pub returns-in-Make-clause-fault : goal.returns-in-Make-clause-fault
returns-in-Make-clause-fault g c = rw c.in-Make.is c.with_file.ensures.fault

pub returns-in-Trace-clause-fault : goal.returns-in-Trace-clause-fault
returns-in-Trace-clause-fault g c = rw c.in-Trace.is c.with_file-in-Trace.ensures.fault
