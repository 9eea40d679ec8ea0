use native.Mathlib.Omega.{arith}
use mathlib.Core.Path.{◌∙◌}
use Rattle.capabilities.proofs.Heads as laws
use Rattle.capabilities.proofs.find_head.Goals as goal

pub loop-i-init : goal.loop-i-init
loop-i-init c = laws.place_first _ _ _ _ c.next_head-i.ensures

pub offset_bounds-survey-i : goal.offset_bounds-survey-i
offset_bounds-survey-i c = omega (arith, c.well_formed)

pub bounds-survey-i : goal.bounds-survey-i
bounds-survey-i c = omega (arith, c.loop-i-test.true)

pub overflow_add-i : goal.overflow_add-i
overflow_add-i c = omega (arith, c.well_formed, c.loop-i-test.true)

pub loop-i-smaller-then-survey-i-eq4 : goal.loop-i-smaller-then-survey-i-eq4
loop-i-smaller-then-survey-i-eq4 c = laws.head_less _ _ _ c.next_head-i-then-survey-i-eq4.ensures _ c.loop-i-test.true (omega arith)

pub loop-i-preserved-then-survey-i-eq4 : goal.loop-i-preserved-then-survey-i-eq4
loop-i-preserved-then-survey-i-eq4 c = laws.place_adapter _ _ _ _ _ c.loop-i.invariant c.loop-i-test.true c.if-survey-i-eq4.true _ c.next_head-i-then-survey-i-eq4.ensures

pub overflow_add-i-then-left-lt1 : goal.overflow_add-i-then-left-lt1
overflow_add-i-then-left-lt1 c = omega (arith, c.well_formed, c.loop-i-test.true)

pub returns-then-left-lt1 : goal.returns-then-left-lt1
returns-then-left-lt1 c = c.head_from.ensures ∙ laws.place_here _ _ _ _ _ c.loop-i.invariant c.loop-i-test.true c.if-survey-i-eq4.false c.if-left-lt1.true

pub overflow_add-i-else-survey-i-eq4 : goal.overflow_add-i-else-survey-i-eq4
overflow_add-i-else-survey-i-eq4 c = omega (arith, c.well_formed, c.loop-i-test.true)

pub loop-i-smaller : goal.loop-i-smaller
loop-i-smaller c = laws.head_less _ _ _ c.next_head-i-else-survey-i-eq4.ensures _ c.loop-i-test.true (omega arith)

pub loop-i-preserved : goal.loop-i-preserved
loop-i-preserved c = laws.place_on _ _ _ _ _ c.loop-i.invariant c.loop-i-test.true c.if-survey-i-eq4.false c.if-left-lt1.false _ c.next_head-i-else-survey-i-eq4.ensures

pub returns : goal.returns
returns c = laws.place_past _ _ _ _ _ c.loop-i.invariant c.loop-i-test.false
