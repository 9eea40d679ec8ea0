use native.Mathlib.Omega.{arith}
use Rattle.capabilities.proofs.Heads as laws
use Rattle.capabilities.proofs.head_from.Goals as goal

pub loop-i-init : goal.loop-i-init
loop-i-init c = laws.seek_first _ _ _ _ c.next_head-i.ensures

pub offset_bounds-survey-i : goal.offset_bounds-survey-i
offset_bounds-survey-i c = omega (arith, c.well_formed)

pub bounds-survey-i : goal.bounds-survey-i
bounds-survey-i c = omega (arith, c.loop-i-test.true)

pub returns-then-w-ne4 : goal.returns-then-w-ne4
returns-then-w-ne4 c = laws.seek_device _ _ _ _ c.loop-i.invariant c.loop-i-test.true c.if-w-ne4.true

pub returns-then-w-number : goal.returns-then-w-number
returns-then-w-number c = laws.seek_here _ _ _ _ c.loop-i.invariant c.loop-i-test.true c.if-w-ne4.false c.if-w-number.true

pub overflow_add-i : goal.overflow_add-i
overflow_add-i c = omega (arith, c.well_formed, c.loop-i-test.true)

pub loop-i-smaller : goal.loop-i-smaller
loop-i-smaller c = laws.head_less _ _ _ c.next_head-i-in-loop-i.ensures _ c.loop-i-test.true (omega arith)

pub loop-i-preserved : goal.loop-i-preserved
loop-i-preserved c = laws.seek_on _ _ _ _ c.loop-i.invariant c.loop-i-test.true c.if-w-ne4.false c.if-w-number.false _ c.next_head-i-in-loop-i.ensures

pub returns : goal.returns
returns c = laws.seek_past _ _ _ _ c.loop-i.invariant c.loop-i-test.false
