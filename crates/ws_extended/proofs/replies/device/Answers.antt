use Rattle.std.proofs.Common.{ap, sym}
use Rattle.ws_code.specs.Ebcdic.{byte_of}
use Rattle.ws_extended.specs.QueryReply.{device}
use Rattle.ws_extended.proofs.replies.device.Goals as goal

pub returns-in-Ibm5251Model11 : goal.returns-in-Ibm5251Model11
unfolding byte_of
returns-in-Ibm5251Model11 c = ap device (sym c.in-Ibm5251Model11.is)

pub returns-in-Ibm5291Model1 : goal.returns-in-Ibm5291Model1
unfolding byte_of
returns-in-Ibm5291Model1 c = ap device (sym c.in-Ibm5291Model1.is)

pub returns-in-Ibm5292Model2 : goal.returns-in-Ibm5292Model2
unfolding byte_of
returns-in-Ibm5292Model2 c = ap device (sym c.in-Ibm5292Model2.is)

pub returns-in-Ibm3196ModelA1 : goal.returns-in-Ibm3196ModelA1
unfolding byte_of
returns-in-Ibm3196ModelA1 c = ap device (sym c.in-Ibm3196ModelA1.is)

pub returns-in-Ibm3179Model2 : goal.returns-in-Ibm3179Model2
unfolding byte_of
returns-in-Ibm3179Model2 c = ap device (sym c.in-Ibm3179Model2.is)
