use Rattle.listing.proofs.Laws.{along_start, along_passed, along_other, register_past, register_cut, register_adapter, register_device, register_here}
use native.Mathlib.Omega.{arith}
use Rattle.listing.proofs.next_register.Goals as goal

pub loop-i-init : goal.loop-i-init
loop-i-init c = along_start c.args.survey.now c.args.path c.args.from

pub offset_bounds-survey-i : goal.offset_bounds-survey-i
offset_bounds-survey-i c = omega (arith, c.well_formed)

pub bounds-survey-i : goal.bounds-survey-i
bounds-survey-i c = omega (arith, c.loop-i-test.true)

pub overflow_sub-survey : goal.overflow_sub-survey
overflow_sub-survey c = omega (arith, c.loop-i-test.true)

pub returns-then-survey-i-lt4 : goal.returns-then-survey-i-lt4
returns-then-survey-i-lt4 c = register_cut c.args.survey.now c.args.path c.args.from c.loop-i.i c.loop-i.invariant c.loop-i-test.true c.if-kind-eq5.true c.if-survey-i-lt4.true

pub returns-then-w-path : goal.returns-then-w-path
returns-then-w-path c = register_here c.args.survey.now c.args.path c.args.from c.loop-i.i c.loop-i.invariant c.loop-i-test.true c.if-kind-eq5.true c.if-survey-i-lt4.false c.if-w-path.true

pub overflow_add-i : goal.overflow_add-i
overflow_add-i c = omega (arith, c.well_formed, c.if-survey-i-lt4.false)

pub loop-i-smaller-then-kind-eq5 : goal.loop-i-smaller-then-kind-eq5
loop-i-smaller-then-kind-eq5 c = omega (arith, c.loop-i-test.true)

pub loop-i-preserved-then-kind-eq5 : goal.loop-i-preserved-then-kind-eq5
loop-i-preserved-then-kind-eq5 c = along_passed c.args.survey.now c.args.path c.args.from c.loop-i.i c.loop-i.invariant c.loop-i-test.true c.if-kind-eq5.true c.if-survey-i-lt4.false c.if-w-path.false

pub returns-then-kind-eq3 : goal.returns-then-kind-eq3
returns-then-kind-eq3 c = register_device c.args.survey.now c.args.path c.args.from c.loop-i.i c.loop-i.invariant c.loop-i-test.true c.if-kind-eq3.true

pub returns-then-kind-eq4 : goal.returns-then-kind-eq4
returns-then-kind-eq4 c = register_adapter c.args.survey.now c.args.path c.args.from c.loop-i.i c.loop-i.invariant c.loop-i-test.true c.if-kind-eq4.true

pub overflow_add-i-else-kind-eq5 : goal.overflow_add-i-else-kind-eq5
overflow_add-i-else-kind-eq5 c = omega (arith, c.well_formed, c.loop-i-test.true)

pub loop-i-smaller : goal.loop-i-smaller
loop-i-smaller c = omega (arith, c.loop-i-test.true)

pub loop-i-preserved : goal.loop-i-preserved
loop-i-preserved c = along_other c.args.survey.now c.args.path c.args.from c.loop-i.i c.loop-i.invariant c.loop-i-test.true c.if-kind-eq3.false c.if-kind-eq4.false c.if-kind-eq5.false

pub returns : goal.returns
returns c = register_past c.args.survey.now c.args.path c.args.from c.loop-i.i c.loop-i.invariant c.loop-i-test.false
