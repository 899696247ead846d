use Rattle.std.proofs.Common.{[], refl}
use Rattle.ws_stream.specs.declared.commands.phase.Order.TheVariants.{Ra, Ea, Sba, Ic, Mc}
use Rattle.ws_stream.proofs.Unfinished.{waits}
use Rattle.ws_stream.proofs.UnfinishedAddress.{order_begins}
use Rattle.ws_stream.proofs.UnfinishedField.{field_begins}
use Rattle.ws_stream.proofs.UnfinishedHeader.{soh_begins}
use Rattle.ws_stream.proofs.commands.Commands.order.Goals as goal

pub returns-in-1 : goal.returns-in-1
returns-in-1 c = rw c.in-1.is (waits [] 0x01 c.wait_for.ensures refl (soh_begins _ c.requires.place))

pub returns-in-2 : goal.returns-in-2
returns-in-2 c = rw c.in-2.is (waits [] 0x02 c.wait_for-in-2.ensures refl (order_begins _ Ra c.requires.place))

pub returns-in-3 : goal.returns-in-3
returns-in-3 c = rw c.in-3.is (waits [] 0x03 c.wait_for-in-3.ensures refl (order_begins _ Ea c.requires.place))

pub returns-in-17 : goal.returns-in-17
returns-in-17 c = rw c.in-17.is (waits [] 0x11 c.wait_for-in-17.ensures refl (order_begins _ Sba c.requires.place))

pub returns-in-19 : goal.returns-in-19
returns-in-19 c = rw c.in-19.is (waits [] 0x13 c.wait_for-in-19.ensures refl (order_begins _ Ic c.requires.place))

pub returns-in-20 : goal.returns-in-20
returns-in-20 c = rw c.in-20.is (waits [] 0x14 c.wait_for-in-20.ensures refl (order_begins _ Mc c.requires.place))

pub returns-in-29 : goal.returns-in-29
returns-in-29 c = rw c.in-29.is (waits [] 0x1D c.wait_for-in-29.ensures refl (field_begins _ c.requires.place))
