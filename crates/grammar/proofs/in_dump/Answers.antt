use Rattle.grammar.specs.Grammar.{in_dump}
use Rattle.grammar.proofs.in_dump.Goals as goal

pub returns-in-DeviceDump : goal.returns-in-DeviceDump
unfolding in_dump
returns-in-DeviceDump c = simp c.in-DeviceDump.is

pub returns-in-AdapterDump : goal.returns-in-AdapterDump
unfolding in_dump
returns-in-AdapterDump c = simp c.in-AdapterDump.is

pub returns-in-PathDump : goal.returns-in-PathDump
unfolding in_dump
returns-in-PathDump c = simp c.in-PathDump.is

pub returns-in-Nothing : goal.returns-in-Nothing
unfolding in_dump
returns-in-Nothing c = simp c.in-Nothing.is

pub returns-in-Device : goal.returns-in-Device
unfolding in_dump
returns-in-Device c = simp c.in-Device.is

pub returns-in-WithUsb4 : goal.returns-in-WithUsb4
unfolding in_dump
returns-in-WithUsb4 c = simp c.in-WithUsb4.is

pub returns-in-Adapter : goal.returns-in-Adapter
unfolding in_dump
returns-in-Adapter c = simp c.in-Adapter.is

pub returns-in-NoDump : goal.returns-in-NoDump
unfolding in_dump
returns-in-NoDump c = simp c.in-NoDump.is
