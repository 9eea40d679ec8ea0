use native.Mathlib.Omega.{arith}
use Rattle.text.proofs.Marking.{marks_start, marks_step, marks_end}
use Rattle.text.proofs.mark_groups.Goals as goal

pub loop-i-init : goal.loop-i-init
loop-i-init c = marks_start _ c.requires

pub loop-i-preserved : goal.loop-i-preserved
loop-i-preserved c = marks_step _ _ _ c.loop-i.invariant (omega (arith, c.loop-i.invariant.long, c.loop-i-test.true))

pub returns : goal.returns
returns c = marks_end _ _ _ c.loop-i.invariant (omega (arith, c.loop-i.invariant.long, c.loop-i-test.false))

pub returns-2 : goal.returns-2
returns-2 c = marks_end _ _ _ (marks_step _ _ _ c.loop-i.invariant c.loop-i-test.true) (omega arith)
