use Rattle.grammar.specs.Grammar.{to_usb4}
use Rattle.grammar.proofs.to_usb4.Goals as goal

pub returns-in-Device : goal.returns-in-Device
unfolding to_usb4
returns-in-Device c = simp c.in-Device.is

pub returns-in-Nothing : goal.returns-in-Nothing
unfolding to_usb4
returns-in-Nothing c = simp c.in-Nothing.is

pub returns-in-WithUsb4 : goal.returns-in-WithUsb4
unfolding to_usb4
returns-in-WithUsb4 c = simp c.in-WithUsb4.is

pub returns-in-DeviceDump : goal.returns-in-DeviceDump
unfolding to_usb4
returns-in-DeviceDump c = simp c.in-DeviceDump.is

pub returns-in-Adapter : goal.returns-in-Adapter
unfolding to_usb4
returns-in-Adapter c = simp c.in-Adapter.is

pub returns-in-AdapterDump : goal.returns-in-AdapterDump
unfolding to_usb4
returns-in-AdapterDump c = simp c.in-AdapterDump.is

pub returns-in-PathDump : goal.returns-in-PathDump
unfolding to_usb4
returns-in-PathDump c = simp c.in-PathDump.is

pub returns-in-NoDump : goal.returns-in-NoDump
unfolding to_usb4
returns-in-NoDump c = simp c.in-NoDump.is
