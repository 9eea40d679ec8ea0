use Rattle.listing.proofs.Laws.{ahead_start, ahead_register, ahead_other, head_past, head_adapter, head_device, head_cut}
use native.Mathlib.Omega.{arith}
use Rattle.listing.proofs.next_head.Goals as goal

pub loop-i-init : goal.loop-i-init
loop-i-init c = ahead_start c.args.survey.now c.args.from

pub offset_bounds-survey-i : goal.offset_bounds-survey-i
offset_bounds-survey-i c = omega (arith, c.well_formed)

pub bounds-survey-i : goal.bounds-survey-i
bounds-survey-i c = omega (arith, c.loop-i-test.true)

pub returns-then-kind-eq4 : goal.returns-then-kind-eq4
returns-then-kind-eq4 c = head_adapter c.args.survey.now c.args.from c.loop-i.i c.loop-i.invariant c.loop-i-test.true c.if-kind-eq4.true

pub overflow_add-i : goal.overflow_add-i
overflow_add-i c = omega (arith, c.well_formed, c.loop-i-test.true)

pub returns-then-survey-i : goal.returns-then-survey-i
returns-then-survey-i c = head_cut c.args.survey.now c.args.from c.loop-i.i c.loop-i.invariant c.loop-i-test.true c.if-kind-eq3.true c.if-survey-i.true

pub returns-then-kind-eq3 : goal.returns-then-kind-eq3
returns-then-kind-eq3 c = head_device c.args.survey.now c.args.from c.loop-i.i c.loop-i.invariant c.loop-i-test.true c.if-kind-eq3.true c.if-survey-i.false

pub overflow_add-i-then-kind-eq5 : goal.overflow_add-i-then-kind-eq5
overflow_add-i-then-kind-eq5 c = omega (arith, c.well_formed, c.loop-i-test.true)

pub loop-i-smaller-then-kind-eq5 : goal.loop-i-smaller-then-kind-eq5
loop-i-smaller-then-kind-eq5 c = omega (arith, c.loop-i-test.true)

pub loop-i-preserved-then-kind-eq5 : goal.loop-i-preserved-then-kind-eq5
loop-i-preserved-then-kind-eq5 c = ahead_register c.args.survey.now c.args.from c.loop-i.i c.loop-i.invariant c.loop-i-test.true c.if-kind-eq5.true

pub overflow_add-i-else-kind-eq5 : goal.overflow_add-i-else-kind-eq5
overflow_add-i-else-kind-eq5 c = omega (arith, c.well_formed, c.loop-i-test.true)

pub loop-i-smaller : goal.loop-i-smaller
loop-i-smaller c = omega (arith, c.loop-i-test.true)

pub loop-i-preserved : goal.loop-i-preserved
loop-i-preserved c = ahead_other c.args.survey.now c.args.from c.loop-i.i c.loop-i.invariant c.loop-i-test.true c.if-kind-eq3.false c.if-kind-eq4.false c.if-kind-eq5.false

pub returns : goal.returns
returns c = head_past c.args.survey.now c.args.from c.loop-i.i c.loop-i.invariant c.loop-i-test.false
