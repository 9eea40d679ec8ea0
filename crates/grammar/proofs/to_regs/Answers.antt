use Rattle.grammar.specs.Grammar.{to_regs}
use Rattle.grammar.proofs.to_regs.Goals as goal

pub returns-then-router : goal.returns-then-router
unfolding to_regs
returns-then-router c = simp (c.in-Device.is, c.if-router.true)

pub returns-then-router-2 : goal.returns-then-router-2
unfolding to_regs
returns-then-router-2 c = simp (c.in-WithUsb4.is, c.if-router-2.true)

pub returns-else-router : goal.returns-else-router
unfolding to_regs
returns-else-router c = simp (c.in-Device.is, c.if-router.false)

pub returns-else-router-2 : goal.returns-else-router-2
unfolding to_regs
returns-else-router-2 c = simp (c.in-WithUsb4.is, c.if-router-2.false)

pub returns-in-Adapter : goal.returns-in-Adapter
unfolding to_regs
returns-in-Adapter c = simp c.in-Adapter.is

pub returns-in-Nothing : goal.returns-in-Nothing
unfolding to_regs
returns-in-Nothing c = simp c.in-Nothing.is

pub returns-in-DeviceDump : goal.returns-in-DeviceDump
unfolding to_regs
returns-in-DeviceDump c = simp c.in-DeviceDump.is

pub returns-in-AdapterDump : goal.returns-in-AdapterDump
unfolding to_regs
returns-in-AdapterDump c = simp c.in-AdapterDump.is

pub returns-in-PathDump : goal.returns-in-PathDump
unfolding to_regs
returns-in-PathDump c = simp c.in-PathDump.is

pub returns-in-NoDump : goal.returns-in-NoDump
unfolding to_regs
returns-in-NoDump c = simp c.in-NoDump.is
